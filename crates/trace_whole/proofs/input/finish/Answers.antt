use Rattle.std.proofs.Common.{◌≡◌, ℕ, ◌-◌, take, ap, arith}
use Rattle.language.specs.Scan.{bytes}
use Rattle.trace_whole.proofs.FedLaws.{ended-last, ended-none, ended-on}
use Rattle.trace_whole.proofs.input.finish.Goals as goal

pub returns-then-s-eq0 : goal.returns-then-s-eq0
unfolding bytes
returns-then-s-eq0 c =
    λ l e. ended-none c.args.s e c.if-s-eq0.true c.requires.2 (omega arith) c.numbered.ensures

pub returns-then-last : goal.returns-then-last
unfolding bytes
returns-then-last c =
    let z : c.args.s.held - 0 ≡ c.args.s.held = omega arith in
    λ l e. ended-on c.args.s c.requires.0.0 e (omega arith) c.requires.2 (ap (λ (n : ℕ). take n c.args.line.now) z) c.cycle-last.result c.cycle-last.ensures.1 c.cycle-last.ensures.2 c.if-last.true (omega arith) c.numbered-then-last.ensures

pub returns : goal.returns
returns c =
    let z : c.args.s.held - 0 ≡ c.args.s.held = omega arith in
    λ l e. ended-last c.args.s c.requires.0.0 e (omega arith) c.requires.2 (ap (λ (n : ℕ). take n c.args.line.now) z) c.cycle-last.result c.cycle-last.ensures.1 c.cycle-last.ensures.2 c.if-last.false
