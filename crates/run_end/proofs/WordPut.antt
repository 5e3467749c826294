-- A whole word put among the bytes is that word of the store set, and nothing else. Assumes nothing.
use mathlib.Core.List.{List}
use mathlib.Core.Path.{◌≡◌, sym, ap, ◌∙◌}
use Prim.Native.Nat.{ℕ, ◌+◌, ◌-◌, ◌*◌, ◌%◌, ◌^◌, ◌≤◌, ◌<◌}
use native.Mathlib.Nat.{div-one, mod-eq_of_lt}
use native.Mathlib.Omega.{arith}
use lib.ListN.{get_or, length}
use Rattle.language.specs.Description.{Facility, no_facility, word_length}
use Rattle.language.specs.Layout.{store_size_of, word_bytes}
use Rattle.language.specs.Store.{from_bytes, set_word, word_of}
use Rattle.language.specs.Value.{replaced}
use Rattle.store_layout.proofs.Numbers.{part-replaced, replaced-lt}
use Rattle.store_words.proofs.PartLaws.{inside_is, saved-inside, word-saved}
use Rattle.store_layout.proofs.StoreWords.{in-store, one_set, word-from, words-apart}
use Rattle.store_layout.proofs.Words.{word-apart, word_lt}
use Rattle.store_layout.specs.InBytes.{Stored, place_of_word}
use Rattle.store_layout.specs.Layout.{Bytes, word_in}
use Rattle.store_layout.specs.Parts.{saved, with_part}

-- ---- The whole of a word replaced.

all-replaced : (w c v : ℕ) → w < 2 ^ c → v < 2 ^ c → replaced w 0 c v ≡ v
all-replaced w c v h k =
    let y : ℕ = replaced w 0 c v in
    let l : y < 2 ^ c = replaced-lt w 0 c v c (omega arith) h in
    sym (mod-eq_of_lt l) ∙ (ap (λ (z : ℕ). z % 2 ^ c) (sym (div-one y)) ∙ (part-replaced w 0 c v ∙ mod-eq_of_lt k))

module _ (fs : List Facility) (B : List ℕ) (are : Bytes B) (room : store_size_of fs ≤ length B) (f w v : ℕ) (here : Stored fs f w) where
  abbrev l : ℕ
  l = word_length (get_or fs f no_facility)

  abbrev at : ℕ
  at = place_of_word fs f w

  -- All bits of its bytes, spare ones too.
  abbrev all : ℕ
  all = 8 * word_bytes l

  module _ (few : 8 * word_bytes (word_length (get_or fs f no_facility)) ≤ 256) (fits : v < 2 ^ (8 * word_bytes (word_length (get_or fs f no_facility)))) where
    abbrev new : List ℕ
    new = with_part B at all 0 all v

    same_bytes : word_bytes all ≡ word_bytes l
    unfolding word_bytes
    same_bytes = omega arith

    same_word : (X : List ℕ) → word_in X at all ≡ word_in X at l
    unfolding word_in
    same_word X = rw same_bytes

    in_bytes : at + word_bytes all ≤ length B
    in_bytes = omega (arith, in-store fs f w here, same_bytes, room)

    saved-is : saved B at all 0 all v ≡ new
    saved-is =
        let z : all - (0 + all) ≡ 0 = omega arith in
        saved-inside B at all 0 all v (inside_is (length B) at all 0 all in_bytes (omega arith) few) ∙ ap (λ (k : ℕ). with_part B at all k all v) z

    wide : all ≡ 8 * word_bytes all
    wide = ap (λ (k : ℕ). 8 * k) (sym same_bytes)

    new_word : word_of (from_bytes fs new) f w ≡ v
    new_word =
        let h : word_in B at all < 2 ^ all = rw (sym wide) at (word_lt B at all in_bytes are) in
        word-from fs new f w here
        ∙ (sym (same_word new) ∙ (word-saved B at all in_bytes are 0 all v (omega (arith, same_bytes)) ∙ all-replaced (word_in B at all) all v h fits))

    old-word : (g j : ℕ) → Stored fs g j → (g ≡ f → j ≡ w → ⊥) → word_of (from_bytes fs new) g j ≡ word_of (from_bytes fs B) g j
    unfolding with_part
    old-word g j s n =
        let a = words-apart fs f w g j here s n in
        word-from fs new g j s
        ∙ (word-apart B at all in_bytes (replaced (word_in B at all) 0 all v) (place_of_word fs g j) (word_length (get_or fs g no_facility)) (rw same_bytes a)
        ∙ sym (word-from fs B g j s))

    -- So the word has the number v.
    pub word-put : from_bytes fs (saved B (place_of_word fs f w) (8 * word_bytes (word_length (get_or fs f no_facility))) 0 (8 * word_bytes (word_length (get_or fs f no_facility))) v) ≡ set_word (from_bytes fs B) f w v
    word-put = ap (from_bytes fs) saved-is ∙ one_set fs new B f w v here new_word old-word
