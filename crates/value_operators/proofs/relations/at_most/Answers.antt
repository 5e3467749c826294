use mathlib.Core.Bool.{not}
use mathlib.Core.Path.{ap, ◌∙◌}
use Rattle.language.specs.Value.{at_most, related}
use Rattle.value_limbs.specs.Limbs.{number}
use Rattle.value_operators.proofs.Fits.{means-of}
use Rattle.value_operators.proofs.Tests.{not-less}
use Rattle.value_operators.proofs.relations.at_most.Goals as goal

pub returns : goal.returns
unfolding at_most
returns c =
    let a = c.args in
    let less = c.less in
    let related' = c.related in
    means-of related'.ensures (ap related (ap not less.ensures ∙ not-less (number a.x.limbs) (number a.y.limbs)))
