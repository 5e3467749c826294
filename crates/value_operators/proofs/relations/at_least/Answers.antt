use Rattle.language.specs.Value.{at_most, at_least}
use Rattle.value_operators.proofs.relations.at_least.Goals as goal

pub returns : goal.returns
unfolding at_most at_least
returns c =
    c.at_most.ensures
