use Rattle.parse_step.proofs.Answers.{err-came}
use Rattle.parse_sections.proofs.OperationLists.{list-more, list-not, list-stands}
use Rattle.parse_sections.proofs.operations.lists.operations.Goals as goal

pub returns-in_err-first : goal.returns-in_err-first
returns-in_err-first c = rw (err-came c.from_residual.ensures.1) (list-not c.in_err-first.ensures)

pub more-requires : goal.more-requires
more-requires c = list-stands c.in_ok-first.ensures c.requires

pub returns : goal.returns
returns c = list-more c.in_ok-first.ensures c.more.ensures
