use Rattle.parse_step.proofs.Answers.{err-came}
use Rattle.parse_sections.proofs.OneLaws.{one-bodiless, one-read, one-unheaded}
use Rattle.parse_sections.proofs.operations.one.operation.Goals as goal

pub returns-in_err-head : goal.returns-in_err-head
returns-in_err-head c = rw (err-came c.from_residual.ensures.1) (one-unheaded c.in_err-head.ensures)

pub returns-in_err-read : goal.returns-in_err-read
returns-in_err-read c = rw (err-came c.from_residual-in_err-read.ensures.1) (one-bodiless c.in_ok-head.ensures c.in_err-read.ensures)

pub returns : goal.returns
returns c = one-read c.in_ok-head.ensures c.in_ok-read.ensures c.saturating_sub.ensures c.add_operation.ensures
