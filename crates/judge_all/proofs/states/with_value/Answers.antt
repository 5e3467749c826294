use Rattle.judge_all.proofs.StateLaws.{value-passed, value-refused}
use Rattle.text_words.specs.Meaning.{judged}
use mathlib.Core.Path.{ap, sym, ◌∙◌}
use Rattle.judge_all.proofs.states.with_value.Goals as goal

pub returns-in-Ok : goal.returns-in-Ok
returns-in-Ok c =
    λ x y z e f g. value-passed x y z (ap judged (sym c.in-Ok.is) ∙ e) f

pub returns-in-Err : goal.returns-in-Err
returns-in-Err c =
    λ x y z e f g. value-refused x y z _ (ap judged (sym c.in-Err.is) ∙ e) (c.also.ensures x z e g)
