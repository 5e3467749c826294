use Rattle.parse_states.proofs.StateLaws.{body-not, head-stands, not-begun, one-read}
use Rattle.parse_step.proofs.Answers.{err-came}
use mathlib.Core.Path.{refl}
use Rattle.parse_states.proofs.reading.one.Goals as goal

pub returns-in_err-begun : goal.returns-in_err-begun
returns-in_err-begun c =
    rw (err-came c.from_residual.ensures.1) (not-begun c.in_err-begun.ensures)

pub body-requires : goal.body-requires
body-requires c =
    head-stands c.in_ok-begun.ensures c.requires

pub returns-in_err-read : goal.returns-in_err-read
returns-in_err-read c =
    rw (err-came c.from_residual-in_err-read.ensures.1) (body-not c.in_ok-begun.ensures c.in_err-read.ensures refl)

pub returns : goal.returns
returns c =
    one-read c.in_ok-begun.ensures c.in_ok-read.ensures refl c.run-actions.ensures c.close.ensures
