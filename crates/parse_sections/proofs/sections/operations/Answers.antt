use Rattle.parse_step.proofs.Answers.{err-came}
use Rattle.parse_sections.proofs.ReadyLaws.{operations-not, operations-read, operations-stand}
use Rattle.parse_sections.proofs.sections.operations.Goals as goal

pub returns-in_err-first : goal.returns-in_err-first
returns-in_err-first c = rw (err-came c.from_residual.ensures.1) (operations-not c.whole.ensures c.in_err-first.ensures)

pub operations-requires : goal.operations-requires
operations-requires c = operations-stand c.whole.ensures c.in_ok-first.ensures c.requires

pub returns : goal.returns
returns c = operations-read c.whole.ensures c.in_ok-first.ensures c.operations.ensures
