-- A word has no spare bit where the bits above its own are zero, and words are tested one after the other. Assumes nothing.
use mathlib.Core.Path.{◌≡◌, refl, sym, ap, ◌∙◌, subst}
use mathlib.Core.Bool.{Bool, true, false, cond}
use mathlib.Core.List.{List, [], ◌∷◌}
use Prim.Native.Nat.{ℕ, zero, suc, ◌+◌, ◌-◌, ◌*◌, ◌/◌, ◌^◌, ◌≤◌, ◌<◌}
use native.Mathlib.Nat.{div-eq_of_lt, suc-mul}
use native.Mathlib.Omega.{arith}
use borrow.Author.Tests.{le-leb, lt-ltb, ltb-true}
use lib.Dec.{ltb}
use lib.ListN.{drop, length}
use lib.Pow.{shr_mod}
use lib.Seq.{drop-drop}
use Rattle.language.specs.Description.{Facility, is_computed, word_count, word_length}
use Rattle.language.specs.Layout.{facility_bytes, no_spare_bits, word_bytes}
use Rattle.language.specs.Store.{all_narrow, facility_words, words_from}
use Rattle.store_layout.specs.Layout.{Bytes, word_in}
use Rattle.store_layout.specs.Parts.{part_in}
use Rattle.store_layout.specs.Spare.{narrow_at}
use Rattle.store_layout.proofs.ByteOrder.{word_room}
use Rattle.store_layout.proofs.Numbers.{below-pow}
use Rattle.store_layout.proofs.Words.{word_lt}
use Rattle.language.specs.Tests.{both}

module _ (B : List ℕ) (at l : ℕ) (fits : at + word_bytes l ≤ length B) (bytes : Bytes B) where
  spare-all : part_in B at l l (8 * word_bytes l - l) ≡ word_in B at l / 2 ^ l
  unfolding part_in
  spare-all =
      let e : 8 * word_bytes l ≡ (8 * word_bytes l - l) + l = omega (arith, word_room l) in
      shr_mod (8 * word_bytes l - l) l (subst (λ (n : ℕ). word_in B at l < 2 ^ n) e (word_lt B at l fits bytes))

  pub spare-zero : part_in B at l l (8 * word_bytes l - l) ≡ 0 → no_spare_bits l (word_in B at l) ≡ true
  unfolding no_spare_bits
  spare-zero z = lt-ltb (word_in B at l) (2 ^ l) (below-pow (word_in B at l) l (sym spare-all ∙ z))

  pub spare-some : (part_in B at l l (8 * word_bytes l - l) ≡ 0 → ⊥) → no_spare_bits l (word_in B at l) ≡ false
  unfolding no_spare_bits
  spare-some n = go (ltb (word_in B at l) (2 ^ l)) refl
    where
      go : (t : Bool) → ltb (word_in B at l) (2 ^ l) ≡ t → t ≡ false
      go true e = absurd (n (spare-all ∙ div-eq_of_lt (ltb-true _ _ e)))
      go false e = refl

-- The first word, and the others.
words_step : (B : List ℕ) (at w l : ℕ) → 0 < w → words_from w l (drop at B) ≡ word_in B at l ∷ words_from (w - 1) l (drop (at + word_bytes l) B)
unfolding words_from word_in
words_step B at w l h =
    let e : w ≡ suc (w - 1) = omega arith in
    ap (λ (n : ℕ). words_from n l (drop at B)) e ∙ ap (λ (X : List ℕ). word_in B at l ∷ words_from (w - 1) l X) (drop-drop (word_bytes l) at B)

module _ (B : List ℕ) (at w l : ℕ) (some : 0 < w) where
  step : all_narrow l (words_from w l (drop at B)) ≡ both (no_spare_bits l (word_in B at l)) (all_narrow l (words_from (w - 1) l (drop (at + word_bytes l) B)))
  unfolding all_narrow
  step = ap (all_narrow l) (words_step B at w l some)

  pub narrow-more : no_spare_bits l (word_in B at l) ≡ true → all_narrow l (words_from w l (drop at B)) ≡ all_narrow l (words_from (w - 1) l (drop (at + word_bytes l) B))
  narrow-more h = step ∙ ap (λ (b : Bool). both b (all_narrow l (words_from (w - 1) l (drop (at + word_bytes l) B)))) h

  pub narrow-stop : no_spare_bits l (word_in B at l) ≡ false → all_narrow l (words_from w l (drop at B)) ≡ false
  narrow-stop h = step ∙ ap (λ (b : Bool). both b (all_narrow l (words_from (w - 1) l (drop (at + word_bytes l) B)))) h

pub narrow-inside : (B : List ℕ) (at w l : ℕ) → at + w * word_bytes l ≤ length B → narrow_at B at w l ≡ all_narrow l (words_from w l (drop at B))
unfolding narrow_at
narrow-inside B at w l h = rw (le-leb (at + w * word_bytes l) (length B) h) refl

-- The bytes of w words are those of one, and of the others.
pub one_word : (w n : ℕ) → 0 < w → w * n ≡ n + (w - 1) * n
one_word w n h =
    let e : w ≡ suc (w - 1) = omega arith in
    let f = suc-mul (w - 1) n in
    ap (λ (k : ℕ). k * n) e ∙ omega arith

-- Words that fill their bytes have no spare bits.
pub narrow-full : (B : List ℕ) (at w l : ℕ) → at + w * word_bytes l ≤ length B → Bytes B → 8 * word_bytes l ≡ l → all_narrow l (words_from w l (drop at B)) ≡ true
unfolding words_from all_narrow no_spare_bits
narrow-full B at zero l h b e = refl
narrow-full B at (suc w) l h b e =
    let p = one_word (suc w) (word_bytes l) (omega arith) in
    let q : suc w - 1 ≡ w = omega arith in
    let r : (suc w - 1) * word_bytes l ≡ w * word_bytes l = ap (λ (k : ℕ). k * word_bytes l) q in
    let x : word_in B at l < 2 ^ l = subst (λ (n : ℕ). word_in B at l < 2 ^ n) e (word_lt B at l (omega arith) b) in
    narrow-more B at (suc w) l (omega arith) (lt-ltb (word_in B at l) (2 ^ l) x) ∙ ap (λ (k : ℕ). all_narrow l (words_from k l (drop (at + word_bytes l) B))) q ∙ narrow-full B (at + word_bytes l) w l (omega arith) b e

-- The words of a facility whose first byte is at `at`.
pub facility-narrow : (f : Facility) (B : List ℕ) (at : ℕ) → is_computed f.kind ≡ false → at + facility_bytes f ≤ length B
    → all_narrow (word_length f) (facility_words f (drop at B)) ≡ narrow_at B at (word_count f) (word_length f)
unfolding facility_bytes
facility-narrow f B at e h =
    let s : cond (is_computed f.kind) 0 (word_count f * word_bytes (word_length f)) ≡ word_count f * word_bytes (word_length f) = ap (λ (b : Bool). cond b 0 (word_count f * word_bytes (word_length f))) e in
    ap (λ (b : Bool). all_narrow (word_length f) (cond b [] (words_from (word_count f) (word_length f) (drop at B)))) e
    ∙ sym (narrow-inside B at (word_count f) (word_length f) (omega arith))
