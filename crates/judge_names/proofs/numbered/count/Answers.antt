use Rattle.judge_names.proofs.NumberLaws.{count_of}
use Rattle.judge_names.proofs.numbered.count.Goals as goal

pub returns : goal.returns
returns c = count_of _ _ _
