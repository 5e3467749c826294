use Rattle.parse_step.proofs.Answers.{err-came}
use Rattle.parse_terminals.proofs.InputLaws.{closed-not, closed-read}
use Rattle.parse_terminals.proofs.inputs.closed.Goals as goal

pub returns-in_err-repeated : goal.returns-in_err-repeated
returns-in_err-repeated c = rw (err-came c.from_residual.ensures.1) (closed-not c.args.name c.in_err-repeated.ensures)

pub returns : goal.returns
returns c = closed-read c.args.name c.in_ok-repeated.ensures c.expect.ensures
