use mathlib.Core.Path.{sym, ◌∙◌}
use Rattle.judge_actions.proofs.stores.may_set.Goals as goal

pub returns-then-is_plain : goal.returns-then-is_plain
returns-then-is_plain c =
    rw (sym c.is_plain.ensures ∙ c.if-is_plain.true)

pub returns-else-is_plain : goal.returns-else-is_plain
returns-else-is_plain c =
    c.if-is_plain.false ∙ rw (sym c.is_plain.ensures ∙ c.if-is_plain.false)
