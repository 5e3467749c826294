use native.Mathlib.Omega.{arith}
use Rattle.image_order.specs.Edges.{after}
use Rattle.image_order.proofs.TreeLaws.{tree-elsewhere, tree-here, tree-past}
use Rattle.image_order.proofs.trees.tree.Goals as goal
use Rattle.image_order.proofs.trees.tree.Goals.{then-at-eq-NONE-via-then-at-eq-NONE, then-at-eq-NONE-via-else-at-eq-NONE+then-start-at}

pub returns-then-at-eq-NONE : goal.returns-then-at-eq-NONE
unfolding after
returns-then-at-eq-NONE c =
    λ d h. elim c.then-at-eq-NONE.branch [
      | then-at-eq-NONE-via-then-at-eq-NONE w ↦ rw w.if-at-eq-NONE.true
      | then-at-eq-NONE-via-else-at-eq-NONE+then-start-at w ↦ tree-elsewhere d _ _ _ (w.start.ensures d h) w.if-start-at.true
    ]

pub returns-then-exprs-last : goal.returns-then-exprs-last
returns-then-exprs-last c =
    λ d h. tree-past d _ _ (c.start.ensures d h) c.if-start-at.false (omega (arith, h.count, c.if-exprs-last.true))

pub returns : goal.returns
returns c =
    λ d h. tree-here d _ _ (c.start.ensures d h) c.if-start-at.false c.if-at-eq-NONE.false (omega (arith, h.count, c.if-exprs-last.false))
