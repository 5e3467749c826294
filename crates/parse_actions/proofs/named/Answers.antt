use mathlib.Core.Bool.{true, false}
use Rattle.parse_actions.proofs.PlainLaws.{named-not, named-says}
use Rattle.parse_step.proofs.Answers.{err-came}
use mathlib.Core.Path.{refl}
use Rattle.parse_actions.proofs.named.Goals as goal

pub returns-in_err-name : goal.returns-in_err-name
returns-in_err-name c =
    rw (err-came c.from_residual.ensures.1) (named-not c.args.in_state c.in_err-name.ensures refl)

pub returns-then-in_state : goal.returns-then-in_state
returns-then-in_state c =
    rw c.if-in_state.true (named-says true c.in_ok-name.ensures refl c.named_in_state.ensures)

pub returns : goal.returns
returns c =
    rw c.if-in_state.false (named-says false c.in_ok-name.ensures refl c.named_in_operation.ensures)
