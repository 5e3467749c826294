use mathlib.Core.Path.{refl, ap, ◌∙◌}
use Prim.Native.Nat.{ℕ, ◌/◌, ◌^◌}
use Rattle.value_limbs.specs.Limbs.{number}
use Rattle.value_operators.proofs.Fits.{means-fit}
use Rattle.value_constants.proofs.left_constant.Goals as goal

pub returns : goal.returns
returns c =
    means-fit c.fit.ensures refl (c.right.ensures ∙ ap (λ (k : ℕ). number c.args.x.limbs / 2 ^ k) c.saturating_sub-below.ensures)
