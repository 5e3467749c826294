use mathlib.Core.Path.{refl}
use Rattle.language.specs.Value.{tail}
use Rattle.value_operators.proofs.Fits.{means-fit}
use Rattle.value_operators.proofs.substrings.tail.Goals as goal

pub returns : goal.returns
unfolding tail
returns c =
    means-fit c.fit.ensures c.cut_length.ensures refl
