-- What is wrong in front of the grammar, stage by stage.
use mathlib.Core.Bool.{Bool, cond, false, true}
use mathlib.Core.List.{List}
use mathlib.Core.Option.{none}
use mathlib.Core.Path.{◌≡◌, refl}
use native.Mathlib.Omega.{arith}
use Prim.Native.Nat.{ℕ, ◌≤◌}
use borrow.Author.Tests.{ltb-false, ltb-true}
use lib.Dec.{ltb}
use lib.ListN.{length}
use Rattle.language.specs.Reading.{after_words, read_text, refused_at}
use Rattle.language.specs.Ceilings.{longest_text}
use Rattle.language.specs.declared.refusals.Refusal.{Refusal}
use Rattle.language.specs.declared.refusals.Refusal.TheVariants.{TextTooLong}
use Rattle.language.specs.Words.{fault, position}
use Rattle.language.specs.WordStage.{word_fault}
use Rattle.text_words.specs.Meaning as M
use Rattle.text_words.specs.Meaning.{first_fault}

pub long-first : (text : List ℕ) → ltb longest_text (length text) ≡ true → M.refused_at 0 TextTooLong ≡ first_fault text
long-first text e = rw e

pub words-first : (text : List ℕ) → ltb longest_text (length text) ≡ false → word_fault text ≡ first_fault text
words-first text e = rw e

-- The first fault answers for the text, and where there is none, its grammar does.
pub read_first : (text : List ℕ) → after_words text (first_fault text) ≡ read_text text
unfolding read_text
read_first text = go (ltb longest_text (length text))
  where
    go : (b : Bool) → after_words text (cond b (M.refused_at 0 TextTooLong) (word_fault text)) ≡ cond b (refused_at (fault (position 0) TextTooLong)) (after_words text (word_fault text))
    go true = refl
    go false = refl

none-some : {A : Type 0} {r : Refusal} → M.refused_at 0 r ≡ none → A
none-some e = absurd (let z : ◌≡◌ {A = ℕ} 0 1 = cc in omega arith)

pub none-short : (text : List ℕ) → first_fault text ≡ none → length text ≤ 32768
unfolding longest_text
none-short text e = go (ltb 32768 (length text)) refl e
  where
    go : (b : Bool) → ltb 32768 (length text) ≡ b → cond b (M.refused_at 0 TextTooLong) (word_fault text) ≡ none → length text ≤ 32768
    go true q z = none-some z
    go false q z = ltb-false 32768 (length text) q

pub short_none : (text : List ℕ) → length text ≤ 32768 → word_fault text ≡ none → first_fault text ≡ none
unfolding longest_text
short_none text l e = go (ltb 32768 (length text)) refl
  where
    go : (b : Bool) → ltb 32768 (length text) ≡ b → cond b (M.refused_at 0 TextTooLong) (word_fault text) ≡ none
    go true q = absurd (omega (arith, l, ltb-true 32768 (length text) q))
    go false q = e
