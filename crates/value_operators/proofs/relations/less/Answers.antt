use mathlib.Core.Path.{ap}
use Rattle.language.specs.Value.{less, related}
use Rattle.value_operators.proofs.Fits.{means-of}
use Rattle.value_operators.proofs.relations.less.Goals as goal

pub returns : goal.returns
unfolding less
returns c =
    means-of c.related.ensures (ap related c.less.ensures)
