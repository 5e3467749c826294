use mathlib.Core.Path.{refl}
use Rattle.parse_step.proofs.Answers.{err-came}
use Rattle.parse_states.proofs.HeadLaws.{value-full, value_not, value_read}
use Rattle.parse_states.proofs.heads.valued.Goals as goal

pub returns-in_err-read : goal.returns-in_err-read
returns-in_err-read c =
    rw (err-came c.from_residual.ensures.1) (value_not c.args.name c.in_err-read.ensures)

pub returns-in_err-reached : goal.returns-in_err-reached
returns-in_err-reached c =
    rw (err-came c.from_residual-in_err-reached.ensures.1) (value-full c.args.name c.in_ok-read.ensures c.stated-v.ensures c.in_err-reached.ensures refl)

pub returns : goal.returns
returns c =
    value_read c.args.name c.in_ok-read.ensures c.stated-v.ensures c.in_ok-reached.ensures refl c.last.ensures
