use mathlib.Core.Path.{ap, ap₂, ◌∙◌}
use Rattle.value_constants.specs.Digits.{held}
use Rattle.value_constants.specs.Doubling.{by_doubling}
use Rattle.value_constants.proofs.Doubling.{more, ten-by-doubling, twice}
use Rattle.value_constants.proofs.decimal_digit.Goals as goal

pub returns : goal.returns
unfolding by_doubling
returns c =
    let added4 = c.added-ten in
    let added3 = c.added-five in
    let added2 = c.added-four in
    let added = c.added-twice in
    let args = c.args in
    let x = held args.x in
    let four = added2.ensures ∙ ap twice added.ensures in
    let five = added3.ensures ∙ ap (more x.low) four in
    let ten = added4.ensures ∙ ap twice five in
    c.added.ensures ∙ ap₂ more c.small.ensures ten ∙ ten-by-doubling x args.d
