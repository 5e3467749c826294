use mathlib.Core.Path.{sym, ap, ◌∙◌}
use native.Mathlib.Omega.{arith}
use Rattle.language.specs.Canonical.{action_count, left_count}
use Rattle.image_records.proofs.ActionLaws.{action-whole}
use Rattle.image_form.proofs.CountLaws.{actions-next, sum_done}
use borrow.Author.Rules.{rules}
use Rattle.image_form.proofs.counts.actions_count.Goals as goal

pub loop-n-init : goal.loop-n-init
loop-n-init c =
    (search rules, search rules, λ d h. (omega arith, omega arith))

pub loop-n-preserved : goal.loop-n-preserved
loop-n-preserved c =
    (search rules, search rules, λ d h. (actions-next d c.loop-n.n action_count c.loop-n.all (omega (arith, h.count, c.loop-n-test.true)) (c.action_count-all.ensures.1 _ _ _ ∙ ap action_count (sym (h.at c.loop-n.n ∙ action-whole c.args.acts.now c.loop-n.n (omega arith)))) (c.loop-n.invariant.2 d h).0, actions-next d c.loop-n.n left_count c.loop-n.lefts (omega (arith, h.count, c.loop-n-test.true)) (c.left_count-lefts.ensures.1 _ _ _ ∙ ap left_count (sym (h.at c.loop-n.n ∙ action-whole c.args.acts.now c.loop-n.n (omega arith)))) (c.loop-n.invariant.2 d h).1))

pub returns : goal.returns
returns c =
    (search rules, search rules, λ d h. (sum_done action_count d.actions c.loop-n.n c.loop-n.all (omega (arith, h.count, c.loop-n-test.false)) (c.loop-n.invariant.2 d h).0, sum_done left_count d.actions c.loop-n.n c.loop-n.lefts (omega (arith, h.count, c.loop-n-test.false)) (c.loop-n.invariant.2 d h).1))
