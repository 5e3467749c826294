use Rattle.language.specs.Value.{less, greater}
use Rattle.value_operators.proofs.relations.greater.Goals as goal

pub returns : goal.returns
unfolding less greater
returns c =
    c.less.ensures
