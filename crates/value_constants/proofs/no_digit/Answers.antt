use mathlib.Core.Path.{refl}
use Rattle.value_limbs.specs.Limbs.{number}
use Rattle.value_constants.specs.Digits.{on_right}
use Rattle.value_constants.proofs.no_digit.Goals as goal

pub returns : goal.returns
unfolding number on_right
returns c =
    refl
