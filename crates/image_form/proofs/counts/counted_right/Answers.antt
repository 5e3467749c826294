use mathlib.Core.Path.{sym}
use native.Mathlib.Omega.{arith}
use Rattle.image_form.proofs.CountLaws.{counted-few, counted-so}
use Rattle.image_form.proofs.counts.counted_right.Goals as goal

pub returns-then-records-le-MOST_COUNTED : goal.returns-then-records-le-MOST_COUNTED
returns-then-records-le-MOST_COUNTED c =
    λ d e a s. sym (counted-few d (omega (arith, e.count, a.count, c.if-records-le-MOST_COUNTED.true)))

pub returns : goal.returns
returns c =
    λ d e a s. counted-so d (c.nodes_count.ensures.1 d e) (c.actions_count-c.ensures.2 d a).0 (c.actions_count-c.ensures.2 d a).1 (c.values_count.ensures.1 d s)
