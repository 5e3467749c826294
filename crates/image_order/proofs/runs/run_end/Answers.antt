use Rattle.image_order.proofs.EdgeLaws.{run-elsewhere, run-here}
use Rattle.image_order.proofs.runs.run_end.Goals as goal

pub returns-then-first-at : goal.returns-then-first-at
returns-then-first-at c =
    run-elsewhere _ _ c.if-first-at.true

pub returns : goal.returns
returns c =
    run-here _ _ c.if-first-at.false
