use Rattle.language.specs.WordStage.{least}
use Rattle.judge_verdicts.proofs.faults.unless.Goals as goal

pub returns-then-right : goal.returns-then-right
unfolding least
returns-then-right c =
    rw c.if-right.true

pub returns-else-right : goal.returns-else-right
unfolding least
returns-else-right c =
    rw c.if-right.false
