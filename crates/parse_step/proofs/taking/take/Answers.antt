use Rattle.parse_step.proofs.TakenWords.{took-next}
use Rattle.parse_step.proofs.taking.take.Goals as goal

pub returns : goal.returns
returns c =
    took-next c.pass.ensures c.following.ensures
