use mathlib.Core.List.{[], ◌∷◌}
use mathlib.Core.Path.{sym}
use Rattle.image_order.proofs.DeclaredLaws.{action-is}
use Rattle.image_order.proofs.TreeLaws.{after_more, after-nil}
use Rattle.image_order.specs.Edges.{edge}
use Rattle.image_order.proofs.trees.action_trees.Goals as goal

pub returns-in-Store : goal.returns-in-Store
returns-in-Store c =
    λ d h g. rw (action-is d c.args.acts.now c.args.i g c.action_at.ensures c.in-Store.is) (after_more d (edge c.args.at) (_ ∷ []) (_ ∷ []) (c.tree.ensures d h) (c.tree-in-Store.ensures d h))

pub returns-in-StorePair : goal.returns-in-StorePair
returns-in-StorePair c =
    λ d h g. rw (action-is d c.args.acts.now c.args.i g c.action_at.ensures c.in-StorePair.is) (after_more d (edge c.args.at) (_ ∷ _ ∷ []) (_ ∷ []) (after_more d (edge c.args.at) (_ ∷ []) (_ ∷ []) (c.tree-in-StorePair.ensures d h) (c.tree-in-StorePair-2.ensures d h)) (c.tree-in-StorePair-3.ensures d h))

pub returns-in-Set : goal.returns-in-Set
returns-in-Set c =
    λ d h g. rw (action-is d c.args.acts.now c.args.i g c.action_at.ensures c.in-Set.is) (c.tree-in-Set.ensures d h)

pub returns-in-When : goal.returns-in-When
returns-in-When c =
    λ d h g. rw (action-is d c.args.acts.now c.args.i g c.action_at.ensures c.in-When.is) (c.tree-in-When.ensures d h)

pub returns-in-Choose : goal.returns-in-Choose
returns-in-Choose c =
    λ d h g. rw (action-is d c.args.acts.now c.args.i g c.action_at.ensures c.in-Choose.is) (c.tree-in-Choose.ensures d h)

pub returns-in-Perform : goal.returns-in-Perform
returns-in-Perform c =
    λ d h g. rw (action-is d c.args.acts.now c.args.i g c.action_at.ensures c.in-Perform.is) (sym (after-nil d _))

pub returns-in-Goto : goal.returns-in-Goto
returns-in-Goto c =
    λ d h g. rw (action-is d c.args.acts.now c.args.i g c.action_at.ensures c.in-Goto.is) (sym (after-nil d _))

pub returns-in-Call : goal.returns-in-Call
returns-in-Call c =
    λ d h g. rw (action-is d c.args.acts.now c.args.i g c.action_at.ensures c.in-Call.is) (sym (after-nil d _))

pub returns-in-Return : goal.returns-in-Return
returns-in-Return c =
    λ d h g. rw (action-is d c.args.acts.now c.args.i g c.action_at.ensures c.in-Return.is) (sym (after-nil d _))

pub returns-in-Arm : goal.returns-in-Arm
returns-in-Arm c =
    λ d h g. rw (action-is d c.args.acts.now c.args.i g c.action_at.ensures c.in-Arm.is) (sym (after-nil d _))

pub returns-in-Broken : goal.returns-in-Broken
returns-in-Broken c =
    λ d h g. rw (action-is d c.args.acts.now c.args.i g c.action_at.ensures c.in-Broken.is) (sym (after-nil d _))
