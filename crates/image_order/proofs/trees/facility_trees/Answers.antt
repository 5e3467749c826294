use mathlib.Core.Path.{refl}
use native.Mathlib.Omega.{arith}
use Rattle.image_order.proofs.TreeLaws.{facilities-done, facilities-next}
use Rattle.image_order.proofs.trees.facility_trees.Goals as goal

pub loop-n-init : goal.loop-n-init
loop-n-init c =
    λ d h g. refl

pub loop-n-preserved : goal.loop-n-preserved
loop-n-preserved c =
    λ d h g. facilities-next d _ c.loop-n.n (omega (arith, g.count, c.loop-n-test.true)) (c.facility_tree-end.ensures d h g) (c.loop-n.invariant d h g)

pub returns : goal.returns
returns c =
    λ d h g. facilities-done d _ c.loop-n.n (omega (arith, g.count, c.loop-n-test.false)) (c.loop-n.invariant d h g)
