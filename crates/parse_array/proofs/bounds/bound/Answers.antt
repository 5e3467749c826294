use Rattle.language.specs.Describe.{bound}
use Rattle.parse_array.proofs.bounds.bound.Goals as goal

pub returns : goal.returns
unfolding bound
returns c = c.at_most.ensures.0
