use mathlib.Core.Path.{sym, ◌∙◌}
use Rattle.call_answers.proofs.numbers.declared.Goals as goal

pub returns-then-is_computed : goal.returns-then-is_computed
returns-then-is_computed c = λ name. rw (sym c.is_computed.ensures ∙ c.if-is_computed.true) (c.shown.ensures name)

pub returns-else-is_computed : goal.returns-else-is_computed
returns-else-is_computed c = λ name. rw (sym c.is_computed.ensures ∙ c.if-is_computed.false) (c.shown-else-is_computed.ensures name)
