use mathlib.Core.Path.{refl}
use Rattle.value_operators.proofs.Fits.{means-fit}
use Rattle.value_operators.proofs.logical.logical.Goals as goal

pub returns : goal.returns
returns c =
    means-fit c.fit.ensures c.logical_length.ensures refl
