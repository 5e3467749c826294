use mathlib.Core.Path.{sym}
use Rattle.image_order.proofs.TreeLaws.{after-nil}
use Rattle.image_order.proofs.trees.value_tree.Goals as goal

pub returns-in-Some : goal.returns-in-Some
returns-in-Some c =
    λ d h. rw c.in-Some.is (c.tree.ensures d h)

pub returns-in-None : goal.returns-in-None
returns-in-None c =
    λ d h. rw c.in-None.is (sym (after-nil d _))
