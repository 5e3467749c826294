use mathlib.Core.Path.{refl}
use Rattle.language.specs.Value.{conjunction}
use Rattle.value_operators.proofs.Fits.{means-fit}
use Rattle.value_operators.proofs.logical.conjunction.Goals as goal

pub returns : goal.returns
unfolding conjunction
returns c =
    means-fit c.logical.ensures refl c.and.ensures
