use native.Mathlib.Omega.{arith}
use Rattle.parse_step.proofs.NodeGained.{grown}
use Rattle.parse_step.proofs.Paying.{gained-spends, kept-comes, spent, unspent}
use Rattle.text_words.specs.Meaning.{positioned}
use Rattle.parse_operands.proofs.OperandLaws.{cut-not, cut-says, kept-nodes}
use Rattle.parse_step.proofs.Answers.{err-came, ok_err}
use mathlib.Core.Path.{refl, sym}
use Rattle.parse_operands.proofs.cuts.cut.Goals as goal

pub returns-in_err-kept : goal.returns-in_err-kept
returns-in_err-kept c =
    rw (err-came c.from_residual.ensures.1) (λ sc h q base t o. cut-not c.args.kind (positioned c.args.operator.at) h o c.in_err-kept.ensures refl, λ z r d. ok_err (sym d), unspent refl (λ z d. c.in_err-kept.ensures.full d))

pub returns : goal.returns
returns c =
    (λ sc h q base t o. cut-says c.args.kind (positioned c.args.operator.at) h o c.in_ok-kept.ensures refl c.last-operand.ensures c.count-count.ensures c.plain-beside.ensures c.add.ensures, λ z. grown c.add.ensures c.args.s (kept-nodes c.in_ok-kept.ensures refl z), spent (kept-comes c.in_ok-kept.ensures refl) (gained-spends c.add.ensures) (omega arith))
