use mathlib.Core.Path.{ap₂, ◌∙◌}
use Rattle.language.specs.Value.{difference, difference_length, fit}
use Rattle.value_limbs.specs.Limbs.{number}
use Rattle.value_operators.proofs.Fits.{means-of, fit-difference}
use Rattle.value_operators.proofs.arithmetic.difference.Goals as goal

pub returns : goal.returns
unfolding difference
returns c =
    let a = c.args in
    let difference' = c.difference in
    let difference-length = c.difference_length in
    let fit' = c.fit in
    let l = difference_length a.x.length a.y.length in
    means-of fit'.ensures (ap₂ fit difference-length.ensures difference'.ensures.0 ∙ fit-difference l (number a.x.limbs) (number a.y.limbs))
