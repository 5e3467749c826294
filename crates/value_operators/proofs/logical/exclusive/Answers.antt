use mathlib.Core.Path.{refl}
use Rattle.language.specs.Value.{exclusive}
use Rattle.value_operators.proofs.Fits.{means-fit}
use Rattle.value_operators.proofs.logical.exclusive.Goals as goal

pub returns : goal.returns
unfolding exclusive
returns c =
    means-fit c.logical.ensures refl c.xor.ensures
