use Rattle.parse_actions.proofs.ConditionLaws.{branch-not, condition-deeper, condition-not, condition-says, word-not}
use Rattle.parse_step.proofs.Answers.{err-came, ok_err}
use mathlib.Core.Path.{refl, sym}
use Rattle.parse_actions.proofs.condition.Goals as goal

pub returns-in_err-opened : goal.returns-in_err-opened
returns-in_err-opened c =
    rw (err-came c.from_residual.ensures.1) ((λ m. word-not c.args.case c.in_err-opened.ensures refl), λ r d. ok_err (sym d))

pub returns-in_err-read : goal.returns-in_err-read
returns-in_err-read c =
    rw (err-came c.from_residual-in_err-read.ensures.1) ((λ m. condition-not c.args.case c.in_ok-opened.ensures refl c.in_err-read.ensures.0 c.in_err-read.ensures.1 refl), λ r d. ok_err (sym d))

pub returns-in_err-word : goal.returns-in_err-word
returns-in_err-word c =
    rw (err-came c.from_residual-in_err-word.ensures.1) ((λ m. branch-not c.args.case c.in_ok-opened.ensures refl c.in_ok-read.ensures.0 c.in_ok-read.ensures.1 refl (rw c.first_word-kind.ensures at c.in_err-word.ensures) refl), λ r d. ok_err (sym d))

pub returns : goal.returns
returns c =
    ((λ m. condition-says c.args.case c.in_ok-opened.ensures refl c.in_ok-read.ensures.0 c.in_ok-read.ensures.1 refl (rw c.first_word-kind.ensures at c.in_ok-word.ensures) refl c.at-inner.ensures c.put.ensures), condition-deeper c.in_ok-opened.ensures refl c.in_ok-word.word.state c.at-inner.ensures c.put.ensures)
