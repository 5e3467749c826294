use mathlib.Core.Path.{ap}
use Rattle.language.specs.Value.{equal, related}
use Rattle.value_operators.proofs.Fits.{means-of}
use Rattle.value_operators.proofs.relations.equal.Goals as goal

pub returns : goal.returns
unfolding equal
returns c =
    means-of c.related.ensures (ap related c.same.ensures)
