use Rattle.language.specs.Describe.{count}
use Rattle.parse_array.proofs.bounds.count.Goals as goal

pub returns : goal.returns
unfolding count
returns c = c.at_most.ensures.0
