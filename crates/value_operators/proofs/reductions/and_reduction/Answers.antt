use mathlib.Core.Path.{ap}
use Rattle.language.specs.Value.{and_reduction, bit}
use Rattle.value_operators.proofs.Fits.{means-fit}
use Rattle.value_operators.proofs.reductions.and_reduction.Goals as goal

pub returns : goal.returns
unfolding and_reduction
returns c = means-fit c.flag.ensures c.reduction_length.ensures (ap bit c.all_ones.ensures)
