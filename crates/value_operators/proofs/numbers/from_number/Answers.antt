use mathlib.Core.Path.{refl}
use Rattle.value_operators.proofs.Fits.{means-fit}
use Rattle.value_operators.proofs.numbers.from_number.Goals as goal

pub returns : goal.returns
returns c =
    means-fit c.fit.ensures refl c.small.ensures
