use Rattle.parse_states.proofs.BracketLaws.{brackets-read, close-not, colon-not, constant-not, open-not}
use Rattle.parse_step.proofs.Answers.{err-came}
use Rattle.parse_states.proofs.heads.in_brackets.Goals as goal

pub returns-in_err-open : goal.returns-in_err-open
returns-in_err-open c =
    rw (err-came c.from_residual.ensures.1) (open-not c.in_err-open.ensures)

pub returns-in_err-kept : goal.returns-in_err-kept
returns-in_err-kept c =
    rw (err-came c.from_residual-in_err-kept.ensures.1) (constant-not c.in_ok-open.ensures c.in_err-kept.ensures)

pub returns-in_err-close : goal.returns-in_err-close
returns-in_err-close c =
    rw (err-came c.from_residual-in_err-close.ensures.1) (close-not c.in_ok-open.ensures c.in_ok-kept.ensures c.in_err-close.ensures)

pub returns-in_err-reached : goal.returns-in_err-reached
returns-in_err-reached c =
    rw (err-came c.from_residual-in_err-reached.ensures.1) (colon-not c.in_ok-open.ensures c.in_ok-kept.ensures c.in_ok-close.ensures c.in_err-reached.ensures)

pub returns : goal.returns
returns c =
    brackets-read c.in_ok-open.ensures c.in_ok-kept.ensures c.in_ok-close.ensures c.in_ok-reached.ensures
