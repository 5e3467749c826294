use mathlib.Core.Path.{ap, sym, refl, subst, ◌∙◌}
use lib.ListN.{length}
use Rattle.text_items.specs.declared.Item.{Item}
use Rattle.text_words.specs.declared.Word.{Word}
use Rattle.text_words.specs.Meaning.{Next, is_end, word_item}
use Rattle.text_words.proofs.Walk.{item-fits, item-some, word_end, word-here, word_next}
use native.Mathlib.Omega.{arith}
use Rattle.text_words.proofs.next.next_word.Goals as goal

pub loop-at-init : goal.loop-at-init
loop-at-init c = (omega arith, refl)

pub overflow_add-at : goal.overflow_add-at
overflow_add-at c = omega (arith, item-fits c.args.text.now c.loop-at.at c.item_at-item.result (omega arith) c.item_at-item.ensures)

pub loop-at-smaller : goal.loop-at-smaller
loop-at-smaller c =
    omega (arith, item-fits c.args.text.now c.loop-at.at c.item_at-item.result (omega arith) c.item_at-item.ensures, item-some c.args.text.now c.loop-at.at c.item_at-item.result (omega arith) c.item_at-item.ensures)

pub loop-at-preserved : goal.loop-at-preserved
loop-at-preserved c =
    (omega arith, c.loop-at.invariant.1 ∙ word_next c.args.text.now c.loop-at.at c.item_at-item.result (omega arith) c.item_at-item.ensures (ap (λ (w : Word). is_end w.kind) (sym c.word_of-word.ensures) ∙ sym c.is_end.ensures ∙ c.if-not-is_end.false))

pub returns-then-not-is_end : goal.returns-then-not-is_end
returns-then-not-is_end c =
    subst (Next c.args.text.now c.args.from) (sym c.word_of-word.ensures) (word-here c.args.text.now c.loop-at.at c.item_at-item.result (omega arith) c.item_at-item.ensures c.args.from (omega arith) c.loop-at.invariant.1 (ap (λ (w : Word). is_end w.kind) (sym c.word_of-word.ensures) ∙ sym c.is_end.ensures ∙ c.if-not-is_end.true))

pub returns : goal.returns
returns c =
    subst (Next c.args.text.now c.args.from) (sym (c.word_of.ensures ∙ ap (λ (i : Item). word_item i (length c.args.text.now)) c.plain.ensures)) (word_end c.args.text.now c.args.from c.loop-at.at (omega arith) c.loop-at.invariant.1)
