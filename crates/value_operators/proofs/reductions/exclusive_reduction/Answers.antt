use mathlib.Core.Path.{◌∙◌}
use Rattle.language.specs.Value.{exclusive_reduction}
use Rattle.value_operators.proofs.Fits.{means-fit}
use Rattle.value_operators.proofs.reductions.exclusive_reduction.Goals as goal

pub returns : goal.returns
unfolding exclusive_reduction
returns c =
    means-fit c.fit.ensures c.reduction_length.ensures (c.small.ensures ∙ c.count-n.ensures)
