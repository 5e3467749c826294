use mathlib.Core.List.{[], ◌∷◌}
use Rattle.language.specs.Machine.{ask, dollar_option}
use Rattle.parse_states.proofs.EndLaws.{ends-behind, not-ended, to_end}
use Rattle.parse_step.proofs.Answers.{err-came}
use mathlib.Core.Path.{refl}
use Rattle.parse_states.proofs.ends.ended.Goals as goal

pub returns-in_err-answer : goal.returns-in_err-answer
returns-in_err-answer c =
    rw (err-came c.from_residual.ensures.1) (λ e. not-ended (ask dollar_option ∷ []) c.in_err-answer.ensures (to_end c.args.s e) refl)

pub returns : goal.returns
returns c =
    λ e. ends-behind (ask dollar_option ∷ []) c.in_ok-answer.ensures (to_end c.args.s e) refl c.dollar.ensures
