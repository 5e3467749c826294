use mathlib.Core.Path.{◌≡◌, ap, ◌∙◌}
use Prim.Native.Nat.{ℕ, ◌-◌}
use native.Mathlib.Omega.{arith}
use lib.ListN.{length, take}
use Rattle.trace_input.proofs.LineCut.{without-kept, without-nothing, without-taken}
use Rattle.trace_input.proofs.lines.without_return.Goals as goal

pub returns-then-n-eq0 : goal.returns-then-n-eq0
returns-then-n-eq0 c = without-nothing c.args.line.now c.if-n-eq0.true

pub returns-then-line-last-eq13 : goal.returns-then-line-last-eq13
returns-then-line-last-eq13 c =
    let z : length c.args.line.now - 1 - 0 ≡ length c.args.line.now - 1 = omega arith in
    ap (λ (n : ℕ). take n c.args.line.now) z ∙ without-taken c.args.line.now (omega arith) c.if-line-last-eq13.true

pub returns : goal.returns
returns c = without-kept c.args.line.now (omega arith) c.if-line-last-eq13.false
