use mathlib.Core.Path.{refl}
use Rattle.value_limbs.specs.Limbs.{number}
use Rattle.value_constants.specs.Digits.{holding}
use Rattle.value_constants.proofs.no_decimal.Goals as goal

pub returns : goal.returns
unfolding number holding
returns c =
    refl
