use Rattle.parse_step.proofs.TakenWords.{followed}
use Rattle.parse_step.proofs.taking.following.Goals as goal

pub returns : goal.returns
returns c =
    followed c.end_of.result c.end_of.ensures c.next_word.ensures
