use mathlib.Core.Path.{ap, refl, sym, ◌∙◌}
use Prim.Native.Nat.{ℕ}
use Rattle.about_grammar.specs.Following.{among}
use Rattle.parse_states.specs.Heads.{state_kinds}
use Rattle.parse_states.proofs.CountLaws.{none-begins, one_more, one-over}
use Rattle.parse_states.proofs.heads.count.Goals as goal

pub returns-then-s-lt-STATES : goal.returns-then-s-lt-STATES
returns-then-s-lt-STATES c =
    one_more c.if-s-lt-STATES.true refl

pub returns-then-begins : goal.returns-then-begins
returns-then-begins c =
    one-over c.if-s-lt-STATES.false (sym (c.begins.ensures ∙ ap (λ (k : ℕ). among k state_kinds) c.kind_of.ensures) ∙ c.if-begins.true) c.refuse.ensures

pub returns : goal.returns
returns c =
    none-begins (sym (c.begins.ensures ∙ ap (λ (k : ℕ). among k state_kinds) c.kind_of.ensures) ∙ c.if-begins.false) c.refuse-2.ensures
