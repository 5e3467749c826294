use Rattle.parse_step.proofs.Answers.{err-came}
use Rattle.parse_terminals.proofs.InputLaws.{comma-not, input-not, input-read, open-not, value_not}
use Rattle.parse_terminals.proofs.inputs.input.Goals as goal

pub returns-in_err-first : goal.returns-in_err-first
returns-in_err-first c = rw (err-came c.from_residual.ensures.1) (input-not c.args.name c.in_err-first.ensures)

pub returns-in_err-open : goal.returns-in_err-open
returns-in_err-open c = rw (err-came c.from_residual-in_err-open.ensures.1) (open-not c.args.name c.in_ok-first.ensures c.in_err-open.ensures)

pub returns-in_err-value : goal.returns-in_err-value
returns-in_err-value c = rw (err-came c.from_residual-in_err-value.ensures.1) (value_not c.args.name c.in_ok-first.ensures c.in_ok-open.ensures c.in_err-value.ensures)

pub returns-in_err-comma : goal.returns-in_err-comma
returns-in_err-comma c =
    rw (err-came c.from_residual-in_err-comma.ensures.1) (comma-not c.args.name c.in_ok-first.ensures c.in_ok-open.ensures c.in_ok-value.ensures c.in_err-comma.ensures)

pub returns : goal.returns
returns c = input-read c.args.name c.in_ok-first.ensures c.in_ok-open.ensures c.in_ok-value.ensures c.in_ok-comma.ensures c.closed.ensures
