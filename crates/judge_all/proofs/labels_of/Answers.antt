use Rattle.judge_all.proofs.FaultLaws.{all_from}
use Rattle.judge_all.proofs.labels_of.Goals as goal

pub returns : goal.returns
returns c =
    all_from _ _ c.names_length-before.result c.names_length-between.result c.part.ensures c.names_length-before.ensures.0 c.names_length-between.ensures.0
