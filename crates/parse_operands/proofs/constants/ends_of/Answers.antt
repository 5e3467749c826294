use native.Mathlib.Omega.{arith}
use Rattle.parse_step.proofs.Paying.{goes_on, not-took, spent, took-comes}
use Rattle.parse_operands.proofs.EndLaws.{colon-not, ended-not, ended-says}
use Rattle.parse_step.proofs.Answers.{err-came}
use mathlib.Core.Path.{refl}
use Rattle.parse_operands.proofs.constants.ends_of.Goals as goal

pub returns-in_err-first : goal.returns-in_err-first
returns-in_err-first c =
    rw (err-came c.from_residual.ensures.1) (ended-not c.in_err-first.ensures, not-took c.in_err-first.ensures refl)

pub returns-in_err-colon : goal.returns-in_err-colon
returns-in_err-colon c =
    rw (err-came c.from_residual-in_err-colon.ensures.1) (colon-not c.in_ok-first.ensures c.in_err-colon.ensures, not-took c.in_err-colon.ensures refl)

pub returns : goal.returns
returns c =
    (ended-says c.in_ok-first.ensures c.in_ok-colon.ensures c.closed.ensures.0, spent (goes_on (took-comes c.in_ok-first.ensures refl) (took-comes c.in_ok-colon.ensures refl)) c.closed.ensures.1 (omega arith))
