use Rattle.judge_all.proofs.StateLaws.{there-unwanted, there-wanted}
use mathlib.Core.Bool.{not}
use mathlib.Core.Path.{ap, ◌∙◌}
use Rattle.judge_all.proofs.states.value_there.Goals as goal

pub returns-then-is_none : goal.returns-then-is_none
returns-then-is_none c =
    λ d p. c.if-is_none.true ∙ there-unwanted d p _ _ (c.is_none.ensures ∙ ap not c.if-is_none.true)

pub returns-else-is_none : goal.returns-else-is_none
returns-else-is_none c =
    λ d p. c.is_some.ensures ∙ there-wanted d p _ _ (c.is_none.ensures ∙ ap not c.if-is_none.false)
