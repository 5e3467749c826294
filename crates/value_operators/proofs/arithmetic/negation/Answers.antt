use mathlib.Core.Path.{ap₂, ◌∙◌}
use Rattle.language.specs.Value.{negation, negation_length, fit}
use Rattle.value_limbs.specs.Limbs.{number}
use Rattle.value_operators.proofs.Fits.{means-of, fit-difference}
use Rattle.value_operators.proofs.arithmetic.negation.Goals as goal

pub returns : goal.returns
unfolding negation number
returns c =
    let x = c.args.x in
    means-of c.fit.ensures (ap₂ fit c.negation_length.ensures c.difference.ensures.0 ∙ fit-difference (negation_length x.length) 0 (number x.limbs))
