use mathlib.Core.Path.{sym, ◌∙◌}
use Rattle.judge_terms.proofs.references.computed_work.Goals as goal

pub returns-then-is_computed : goal.returns-then-is_computed
returns-then-is_computed c =
    λ j e. rw (sym c.is_computed.ensures ∙ c.if-is_computed.true) (c.recall.ensures ∙ e (sym c.is_computed.ensures ∙ c.if-is_computed.true))

pub returns : goal.returns
returns c =
    λ j e. rw (sym c.is_computed.ensures ∙ c.if-is_computed.false) c.nothing.ensures
