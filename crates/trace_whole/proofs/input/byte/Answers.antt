use Rattle.std.proofs.Common.{◌≡◌, ℕ, ◌-◌, take, ap, ◌∙◌, arith}
use Rattle.trace_input.specs.Lines.{without_return}
use Rattle.trace_whole.proofs.FedLaws.{fed-line, fed-more}
use Rattle.trace_whole.proofs.input.byte.Goals as goal

pub returns-then-b-eq10 : goal.returns-then-b-eq10
returns-then-b-eq10 c =
    let z : c.args.s.held - 0 ≡ c.args.s.held = omega arith in
    (omega (arith, c.cycle.ensures.0), λ l e. fed-line c.args.s c.requires.0.0 c.if-b-eq10.true e c.requires.2 (c.without_return-whole.ensures ∙ ap (λ (n : ℕ). without_return (take n c.args.line.now)) z) c.cycle.result c.cycle.ensures.0 c.cycle.ensures.1 c.cycle.ensures.2)

pub returns : goal.returns
returns c =
    (c.put.ensures.0, λ l e. fed-more c.args.s (c.put.ensures.1 l c.if-b-eq10.false e))
