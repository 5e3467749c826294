use Rattle.parse_step.proofs.Answers.{err-came}
use Rattle.parse_facilities.proofs.StoredLaws.{stored-read, stored-unmeasured, stored-unnamed}
use Rattle.parse_facilities.proofs.stored.stored.Goals as goal

pub returns-in_err-named : goal.returns-in_err-named
returns-in_err-named c = rw (err-came c.from_residual.ensures.1) (stored-unnamed c.in_err-named.ensures)

pub returns-in_err-measured : goal.returns-in_err-measured
returns-in_err-measured c = rw (err-came c.from_residual-in_err-measured.ensures.1) (stored-unmeasured c.in_ok-named.ensures c.in_err-measured.ensures)

pub returns : goal.returns
returns c = stored-read c.in_ok-named.ensures c.in_ok-measured.ensures c.position.ensures c.declare.ensures
