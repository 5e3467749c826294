use Rattle.value_limbs.specs.Limbs.{number}
use Rattle.value_operators.proofs.numbers.fits64.Goals as goal

pub returns : goal.returns
unfolding number
returns c =
    c.less.ensures
