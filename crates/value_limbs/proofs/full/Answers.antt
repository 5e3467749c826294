use mathlib.Core.Path.{refl}
use Rattle.value_limbs.specs.Limbs.{number}
use Rattle.value_limbs.proofs.full.Goals as goal

pub returns : goal.returns
unfolding number
returns c =
    refl
