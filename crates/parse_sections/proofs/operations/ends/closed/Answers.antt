use Rattle.parse_step.proofs.Answers.{err-came}
use Rattle.parse_sections.proofs.HeadLaws.{shut, shut-not}
use Rattle.parse_sections.proofs.operations.ends.closed.Goals as goal

pub returns-in_err-end : goal.returns-in_err-end
returns-in_err-end c = rw (err-came c.from_residual.ensures.1) (shut-not c.in_err-end.ensures)

pub returns : goal.returns
returns c = shut c.in_ok-end.ensures c.expect.ensures
