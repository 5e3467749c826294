use mathlib.Core.Path.{sym, ◌∙◌}
use Rattle.image_order.proofs.DeclaredLaws.{computed-root, plain-root}
use Rattle.image_order.proofs.TreeLaws.{after-nil}
use Rattle.image_order.proofs.trees.facility_tree.Goals as goal

pub returns-then-is_computed : goal.returns-then-is_computed
returns-then-is_computed c =
    λ d h g. rw (computed-root d c.args.facilities.now c.args.n g c.facility_at-f.ensures (sym c.is_computed.ensures ∙ c.if-is_computed.true)) (c.tree.ensures d h)

pub returns : goal.returns
returns c =
    λ d h g. rw (plain-root d c.args.facilities.now c.args.n g c.facility_at-f.ensures (sym c.is_computed.ensures ∙ c.if-is_computed.false)) (sym (after-nil d _))
