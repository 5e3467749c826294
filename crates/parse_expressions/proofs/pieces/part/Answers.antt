use native.Mathlib.Omega.{arith}
use Rattle.parse_step.proofs.Paying.{begins, spent}
use Rattle.parse_operands.proofs.OperandCosts.{adds-spends}
use Rattle.parse_expressions.proofs.PartLaws.{part-not, part_says}
use Rattle.parse_step.proofs.Answers.{err-came}
use mathlib.Core.Path.{refl}
use Rattle.parse_expressions.proofs.pieces.part.Goals as goal

pub returns-in_err-ends : goal.returns-in_err-ends
returns-in_err-ends c =
    rw (err-came c.from_residual.ensures.1) (λ g sc h. part-not c.args.name g h c.in_err-ends.ensures.0, spent begins c.in_err-ends.ensures.1 (omega arith))

pub returns : goal.returns
returns c =
    (λ g sc h. part_says c.args.name g h c.in_ok-ends.ensures.0 c.add_part.ensures, spent (c.in_ok-ends.ensures.1.done refl) (adds-spends c.add_part.ensures) (omega arith))
