use mathlib.Core.Path.{◌≡◌, ap, ◌∙◌}
use Prim.Native.Nat.{ℕ, ◌+◌, ◌-◌, ◌%◌, ◌^◌}
use native.Mathlib.Omega.{arith}
use Rattle.value_limbs.specs.Limbs.{number}
use Rattle.run_references.proofs.ConstantLaws.{digits-start, digits-next, digits-end}
use Rattle.run_references.proofs.constants.joined_at.Goals as goal

pub loop-i-init : goal.loop-i-init
unfolding number
loop-i-init c =
    digits-start c.saturating_sub-i.result (c.args.n - c.args.k) c.args.exprs.now c.saturating_sub-i.ensures

pub loop-i-preserved : goal.loop-i-preserved
loop-i-preserved c =
    c.joined-longer.ensures ∙ digits-next c.loop-i.i (c.args.n - c.args.k) c.args.exprs.now (omega arith) c.loop-i.invariant (c.small.ensures ∙ c.six_there-digit.ensures.0)

pub returns-2 : goal.returns-2
returns-2 c =
    let e : c.loop-i.i + 1 ≡ c.args.n + 1 = omega arith in
    (c.joined-longer.ensures ∙ digits-next c.loop-i.i (c.args.n - c.args.k) c.args.exprs.now (omega arith) c.loop-i.invariant (c.small.ensures ∙ c.six_there-digit.ensures.0))
    ∙ ap (λ (d : ℕ). d % 2 ^ 256) (digits-end (c.loop-i.i + 1) c.args.k c.args.n c.args.exprs.now e)
