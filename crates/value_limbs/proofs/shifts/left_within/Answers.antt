use mathlib.Core.Path.{◌∙◌}
use Prim.Native.Nat.{◌^◌}
use native.Mathlib.Nat.{add-zero}
use Rattle.value_limbs.specs.Limbs.{number}
use Rattle.value_limbs.proofs.Laws.{carry-four, cat-top-five, times-four}
use Rattle.value_limbs.proofs.shifts.left_within.Goals as goal

pub returns : goal.returns
returns c =
    let e = carry-four c.limb_left-l0.ensures.1 c.limb_left-l1.ensures.1 c.limb_left-l2.ensures.1 c.limb_left-l3.ensures.1 in
    cat-top-five (2 ^ 64) _ _ _ _ _ ∙ e.sum ∙ add-zero _ ∙ times-four c.args.x (2 ^ c.args.s)
