use mathlib.Core.Path.{refl}
use Rattle.language.specs.Value.{disjunction}
use Rattle.value_operators.proofs.Fits.{means-fit}
use Rattle.value_operators.proofs.logical.disjunction.Goals as goal

pub returns : goal.returns
unfolding disjunction
returns c =
    means-fit c.logical.ensures refl c.or.ensures
