use mathlib.Core.Path.{refl}
use Rattle.parse_step.proofs.Answers.{err-came}
use Rattle.parse_step.proofs.Paying.{unspent}
use Rattle.parse_operands.proofs.OperandCosts.{counting-spends}
use Rattle.parse_operands.proofs.OperandLaws.{counting, counting-not}
use Rattle.parse_operands.proofs.constants.counted.Goals as goal

pub returns-in_err-passed : goal.returns-in_err-passed
returns-in_err-passed c =
    rw (err-came c.from_residual.ensures.1) (counting-not c.in_err-passed.ensures refl, λ t h. unspent refl (λ z d. c.in_err-passed.ensures.full d))

pub returns : goal.returns
returns c =
    (counting c.in_ok-passed.ensures refl c.add_constant.ensures, λ t h. counting-spends h c.in_ok-passed.ensures refl c.add_constant.ensures)
