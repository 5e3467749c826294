use native.Mathlib.Omega.{arith}
use Rattle.image_order.proofs.TreeLaws.{run-done, run-next, run-start}
use Rattle.image_order.proofs.trees.run_trees.Goals as goal

pub loop-i-init : goal.loop-i-init
loop-i-init c =
    λ d h g. run-start d _ c.args.count c.args.first

pub loop-i-preserved : goal.loop-i-preserved
loop-i-preserved c =
    λ d h g. run-next d _ c.args.count c.args.first c.loop-i.i c.loop-i-test.true (c.action_trees-end.ensures d h g) (c.loop-i.invariant d h g)

pub returns : goal.returns
returns c =
    λ d h g. run-done d _ c.args.count c.args.first c.loop-i.i (omega arith) (c.loop-i.invariant d h g)
