use mathlib.Core.Path.{refl, sym, ap, ◌∙◌}
use native.Mathlib.Omega.{arith}
use Rattle.language.specs.Description as D
use Rattle.language.specs.Description.{Description}
use Rattle.language.specs.Order.{run_roots}
use Rattle.image_order.proofs.DeclaredLaws.{body_is}
use Rattle.image_order.proofs.TreeLaws.{operations-done, operations-next}
use Rattle.image_order.specs.Edges.{after, edge}
use Rattle.image_order.proofs.trees.operation_trees.Goals as goal

pub loop-n-init : goal.loop-n-init
loop-n-init c =
    λ d h g o. refl

pub loop-n-preserved : goal.loop-n-preserved
loop-n-preserved c =
    λ d h g o. operations-next d (edge c.loop-n.end) c.loop-n.n (omega (arith, o.count, c.loop-n-test.true)) (c.run_trees-end.ensures d h g ∙ ap (λ (r : D.Run). after d (edge c.loop-n.end) (run_roots d r.count r.first)) (sym (body_is d c.args.operations.now c.loop-n.n o c.operation_at-o.ensures))) (c.loop-n.invariant d h g o)

pub returns : goal.returns
returns c =
    λ d h g o. operations-done d _ c.loop-n.n (omega (arith, o.count, c.loop-n-test.false)) (c.loop-n.invariant d h g o)
