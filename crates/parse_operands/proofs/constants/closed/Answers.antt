use native.Mathlib.Omega.{arith}
use mathlib.Core.Path.{refl}
use Rattle.parse_step.proofs.Answers.{err-came}
use Rattle.parse_step.proofs.Paying.{expected-spends, kept-comes, spent, unspent}
use Rattle.parse_operands.proofs.EndLaws.{closed-not, closed-open, closed-says}
use Rattle.parse_operands.proofs.constants.closed.Goals as goal

pub returns-in_err-kept : goal.returns-in_err-kept
returns-in_err-kept c =
    rw (err-came c.from_residual.ensures.1) (closed-not c.in_err-kept.ensures, unspent refl (λ z d. c.in_err-kept.ensures.full d))

pub returns-in_err-reached : goal.returns-in_err-reached
returns-in_err-reached c =
    rw (err-came c.from_residual-in_err-reached.ensures.1) (closed-open c.in_ok-kept.ensures c.in_err-reached.ensures, unspent refl (λ z d. c.in_err-reached.ensures.full d))

pub returns : goal.returns
returns c =
    (closed-says c.in_ok-kept.ensures c.in_ok-reached.ensures, spent (kept-comes c.in_ok-kept.ensures refl) (expected-spends c.in_ok-reached.ensures (omega arith)) (omega arith))
