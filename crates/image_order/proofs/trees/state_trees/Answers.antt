use mathlib.Core.Path.{refl}
use native.Mathlib.Omega.{arith}
use Rattle.image_order.proofs.DeclaredLaws.{actions-are, value-is}
use Rattle.image_order.proofs.TreeLaws.{after_more, states-done, states-next}
use Rattle.image_order.specs.Edges.{edge}
use Rattle.image_order.proofs.trees.state_trees.Goals as goal

pub loop-n-init : goal.loop-n-init
loop-n-init c =
    λ d h g o. refl

pub loop-n-preserved : goal.loop-n-preserved
loop-n-preserved c =
    λ d h g o. states-next d (edge c.loop-n.end) c.loop-n.n (omega (arith, o.count, c.loop-n-test.true)) (rw (value-is d c.args.states.now c.loop-n.n o c.state_at-s.ensures, actions-are d c.args.states.now c.loop-n.n o c.state_at-s.ensures) (after_more d (edge c.loop-n.end) _ _ (c.value_tree-own.ensures d h) (c.run_trees-end.ensures d h g))) (c.loop-n.invariant d h g o)

pub returns : goal.returns
returns c =
    λ d h g o. states-done d _ c.loop-n.n (omega (arith, o.count, c.loop-n-test.false)) (c.loop-n.invariant d h g o)
