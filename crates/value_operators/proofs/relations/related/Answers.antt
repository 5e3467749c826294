use mathlib.Core.Path.{refl}
use Rattle.language.specs.Value.{related}
use Rattle.value_operators.proofs.Fits.{means-fit}
use Rattle.value_operators.proofs.relations.related.Goals as goal

pub returns : goal.returns
unfolding related
returns c =
    means-fit c.flag.ensures c.relation_length.ensures refl
