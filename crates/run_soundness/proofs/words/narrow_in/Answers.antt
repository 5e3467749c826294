use mathlib.Core.Path.{sym, ap₂, ◌∙◌}
use Rattle.store_layout.specs.Spare.{narrow_at}
use Rattle.run_soundness.proofs.WordLaws.{narrow-computed, narrow-stored}
use Rattle.run_soundness.proofs.words.narrow_in.Goals as goal

pub returns-then-is_computed : goal.returns-then-is_computed
returns-then-is_computed c =
    λ name. c.if-is_computed.true ∙ sym (narrow-computed _ _ _ (sym c.is_computed.ensures ∙ c.if-is_computed.true))

pub returns-else-is_computed : goal.returns-else-is_computed
returns-else-is_computed c =
    λ name.
    c.no_spare_bits.ensures
    ∙ (ap₂ (narrow_at c.args.store.now c.args.f.place) (c.word_count.ensures.1 name) (c.word_length.ensures.1 name)
    ∙ sym (narrow-stored _ _ _ (sym c.is_computed.ensures ∙ c.if-is_computed.false)))
