use mathlib.Core.Path.{ap}
use Rattle.language.specs.Value.{or_reduction, bit}
use Rattle.value_limbs.specs.Limbs.{number}
use Rattle.value_operators.proofs.Fits.{means-fit}
use Rattle.value_operators.proofs.reductions.or_reduction.Goals as goal

pub returns : goal.returns
unfolding or_reduction number
returns c = means-fit c.flag.ensures c.reduction_length.ensures (ap bit c.less.ensures)
