use mathlib.Core.Path.{◌∙◌}
use native.Mathlib.Omega.{arith}
use Rattle.language.specs.Canonical.{value_count}
use Rattle.language.specs.Description.{state_at}
use Rattle.image_order.proofs.DeclaredLaws.{value-is}
use Rattle.image_form.proofs.CountLaws.{states-next, sum_done, value-counted}
use borrow.Author.Rules.{rules}
use Rattle.image_form.proofs.counts.values_count.Goals as goal

pub loop-n-init : goal.loop-n-init
loop-n-init c =
    (search rules, λ d h. omega arith)

pub loop-n-preserved : goal.loop-n-preserved
loop-n-preserved c =
    (search rules, λ d h. states-next d c.loop-n.n c.loop-n.sum (omega (arith, h.count, c.loop-n-test.true)) (c.value_count-sum.ensures.1 ∙ value-counted (state_at d c.loop-n.n) (value-is d c.args.states.now c.loop-n.n h c.state_at.ensures)) (c.loop-n.invariant.1 d h))

pub returns : goal.returns
returns c =
    (search rules, λ d h. sum_done value_count d.states c.loop-n.n c.loop-n.sum (omega (arith, h.count, c.loop-n-test.false)) (c.loop-n.invariant.1 d h))
