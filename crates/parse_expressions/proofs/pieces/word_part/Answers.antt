use native.Mathlib.Omega.{arith}
use Rattle.parse_step.proofs.Paying.{begins, spent}
use Rattle.parse_operands.proofs.OperandCosts.{adds-spends}
use Rattle.parse_expressions.proofs.PartLaws.{word-part-not, word-part-says}
use Rattle.parse_step.proofs.Answers.{err-came}
use mathlib.Core.Path.{refl}
use Rattle.parse_expressions.proofs.pieces.word_part.Goals as goal

pub returns-in_err-ends : goal.returns-in_err-ends
returns-in_err-ends c =
    rw (err-came c.from_residual.ensures.1) (λ g sc h q base e p. word-part-not c.args.name g h p c.in_err-ends.ensures.0, spent begins c.in_err-ends.ensures.1 (omega arith))

pub returns : goal.returns
returns c =
    (λ g sc h q base e p. word-part-says c.args.name g h p c.in_ok-ends.ensures.0 c.last.ensures c.add_word_part.ensures, spent (c.in_ok-ends.ensures.1.done refl) (adds-spends c.add_word_part.ensures) (omega arith))
