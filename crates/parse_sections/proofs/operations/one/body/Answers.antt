use Rattle.parse_step.proofs.Answers.{err-came}
use Rattle.parse_sections.proofs.HeadLaws.{body-not, body-read}
use Rattle.parse_sections.proofs.operations.one.body.Goals as goal

pub returns-in_err-list : goal.returns-in_err-list
returns-in_err-list c = rw (err-came c.from_residual.ensures.1) (body-not c.in_err-list.ensures)

pub returns : goal.returns
returns c = body-read c.in_ok-list.ensures c.expect.ensures
