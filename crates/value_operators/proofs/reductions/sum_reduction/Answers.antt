use mathlib.Core.Path.{◌∙◌}
use Rattle.language.specs.Value.{sum_reduction}
use Rattle.value_operators.proofs.Fits.{means-fit}
use Rattle.value_operators.proofs.reductions.sum_reduction.Goals as goal

pub returns : goal.returns
unfolding sum_reduction
returns c =
    means-fit c.fit.ensures c.count_length.ensures (c.small.ensures ∙ c.count-n.ensures)
