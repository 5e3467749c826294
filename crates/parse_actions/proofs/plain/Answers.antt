use mathlib.Core.Path.{sym, ◌∙◌}
use Rattle.parse_actions.proofs.PlainLaws.{operation-not}
use Rattle.parse_actions.proofs.plain.Goals as goal

pub returns-then-kind_of-eq-NAME : goal.returns-then-kind_of-eq-NAME
returns-then-kind_of-eq-NAME c =
    λ m₂ m₃. c.named.ensures (sym c.kind_of.ensures ∙ c.if-kind_of-eq-NAME.true)

pub returns-then-in_state : goal.returns-then-in_state
returns-then-in_state c =
    λ m₂ m₃. rw c.if-in_state.true (c.signed.ensures (λ e. c.if-kind_of-eq-NAME.false (c.kind_of.ensures ∙ e)) m₂ m₃)

pub returns : goal.returns
returns c =
    rw c.if-in_state.false (operation-not c.refuse.ensures c.kind_of.ensures c.if-kind_of-eq-NAME.false)
