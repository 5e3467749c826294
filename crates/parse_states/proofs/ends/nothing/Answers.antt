use mathlib.Core.Path.{sym, ◌∙◌}
use Rattle.parse_states.proofs.EndLaws.{no-word-left, word-left}
use Rattle.parse_states.proofs.ends.nothing.Goals as goal

pub returns-then-is_end : goal.returns-then-is_end
returns-then-is_end c =
    no-word-left (sym c.is_end.ensures ∙ c.if-is_end.true)

pub returns : goal.returns
returns c =
    word-left (sym c.is_end.ensures ∙ c.if-is_end.false) c.refuse.ensures
