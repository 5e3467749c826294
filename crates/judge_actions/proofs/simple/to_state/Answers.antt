use Rattle.judge_verdicts.proofs.VerdictLaws.{refuse-same}
use mathlib.Core.Path.{sym, ◌∙◌}
use Rattle.language.specs.declared.refusals.Refusal.TheVariants.{BadName}
use Rattle.judge_actions.proofs.simple.to_state.Goals as goal

pub returns-then-labelled : goal.returns-then-labelled
returns-then-labelled c =
    λ q z. rw (sym c.labelled.ensures ∙ c.if-labelled.true) c.alone.ensures

pub returns : goal.returns
returns c =
    λ q z. rw (sym c.labelled.ensures ∙ c.if-labelled.false) (c.refused.ensures ∙ refuse-same BadName z)
