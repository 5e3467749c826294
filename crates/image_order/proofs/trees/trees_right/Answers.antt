use mathlib.Core.Path.{◌∙◌}
use Rattle.image_order.proofs.TreeLaws.{all-trees}
use Rattle.image_order.proofs.trees.trees_right.Goals as goal

pub returns : goal.returns
returns c =
    λ d f o e a s. c.ends_at.ensures d ∙ rw (← e.count) (all-trees d (c.facility_trees-first.ensures d e f) (c.operation_trees-second.ensures d e a o) (c.state_trees-last.ensures d e a s))
