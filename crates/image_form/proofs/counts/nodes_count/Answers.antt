use mathlib.Core.Path.{sym, ap, ◌∙◌}
use native.Mathlib.Omega.{arith}
use Rattle.language.specs.Canonical.{node_count}
use Rattle.image_form.proofs.CountLaws.{nodes-next, sum_done}
use borrow.Author.Rules.{rules}
use Rattle.image_form.proofs.counts.nodes_count.Goals as goal

pub loop-n-init : goal.loop-n-init
loop-n-init c =
    (search rules, λ d h. omega arith)

pub loop-n-preserved : goal.loop-n-preserved
loop-n-preserved c =
    (search rules, λ d h. nodes-next d c.loop-n.n c.loop-n.sum (omega (arith, h.count, c.loop-n-test.true)) (c.node_count-sum.ensures.1 ∙ ap node_count (sym (h.at c.loop-n.n))) (c.loop-n.invariant.1 d h))

pub returns : goal.returns
returns c =
    (search rules, λ d h. sum_done node_count d.expressions c.loop-n.n c.loop-n.sum (omega (arith, h.count, c.loop-n-test.false)) (c.loop-n.invariant.1 d h))
