use mathlib.Core.Path.{refl, sym, ap, ◌∙◌}
use native.Mathlib.Omega.{arith}
use Rattle.image_order.proofs.DeclaredLaws.{actions-are}
use Rattle.image_order.proofs.RunLaws.{states-done, states-next}
use Rattle.image_order.specs.Edges.{edge, run_end}
use Rattle.image_order.proofs.runs.states_end.Goals as goal

pub loop-n-init : goal.loop-n-init
loop-n-init c =
    λ d h. refl

pub loop-n-preserved : goal.loop-n-preserved
loop-n-preserved c =
    λ d h. states-next d (edge c.loop-n.end) c.loop-n.n (omega (arith, h.count, c.loop-n-test.true)) (c.run_end-end.ensures ∙ ap (run_end (edge c.loop-n.end)) (sym (actions-are d c.args.states.now c.loop-n.n h c.state_at.ensures))) (c.loop-n.invariant d h)

pub returns : goal.returns
returns c =
    λ d h. states-done d _ c.loop-n.n (omega (arith, h.count, c.loop-n-test.false)) (c.loop-n.invariant d h)
