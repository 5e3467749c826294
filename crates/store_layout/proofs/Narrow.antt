-- A store without spare bits keeps none when a part is put. Assumes nothing.
use mathlib.Core.Path.{◌≡◌, refl, subst}
use mathlib.Core.Bool.{Bool, true, false}
use mathlib.Core.List.{List, [], ◌∷◌}
use Prim.Native.Nat.{ℕ, zero, suc, ◌+◌, ◌^◌, ◌≤◌, ◌<◌}
use native.Mathlib.Omega.{arith}
use borrow.Author.Tests.{eqb-false, eqb-true, lt-ltb, ltb-true}
use lib.Dec.{eqb}
use lib.ListN.{get_or, length}
use lib.Pow.{pow_pos}
use Rattle.language.specs.Description.{Description, Facility, facility_at, no_facility, word_length}
use Rattle.language.specs.Layout.{no_spare_bits}
use Rattle.language.specs.Meaning.{Write}
use Rattle.language.specs.Store.{StoreWords, all_narrow, low_of, narrow, put_part, set_word, word_of}
use Rattle.language.specs.Value.{replaced}
use Rattle.store_layout.proofs.Inverse.{both_true}
use Rattle.store_layout.proofs.Numbers.{replaced-lt}
use Rattle.store_layout.proofs.StoreWords.{word-other, word_set}

-- ---- No spare bits, word by word.

row_at : (l : ℕ) (ws : List ℕ) (w : ℕ) → all_narrow l ws ≡ true → get_or ws w 0 < 2 ^ l
unfolding all_narrow no_spare_bits
row_at l [] w h = pow_pos l
row_at l (x ∷ ws) zero h = ltb-true x (2 ^ l) (both_true (no_spare_bits l x) (all_narrow l ws) h).0
row_at l (x ∷ ws) (suc w) h = row_at l ws w (both_true (no_spare_bits l x) (all_narrow l ws) h).1

row_is : (l : ℕ) (ws : List ℕ) → ((w : ℕ) → get_or ws w 0 < 2 ^ l) → all_narrow l ws ≡ true
unfolding all_narrow no_spare_bits
row_is l [] h = refl
row_is l (x ∷ ws) h = rw (lt-ltb x (2 ^ l) (h 0)) (row_is l ws (λ w. h (suc w)))

pub narrow_at : (fs : List Facility) (s : StoreWords) → narrow fs s ≡ true → (f w : ℕ) → f < length fs → word_of s f w < 2 ^ word_length (get_or fs f no_facility)
unfolding narrow word_of
narrow_at [] s h f w l = absurd (omega arith)
narrow_at (c ∷ fs) [] h f w l = pow_pos (word_length (get_or (c ∷ fs) f no_facility))
narrow_at (c ∷ fs) (ws ∷ s) h zero w l = row_at (word_length c) ws w (both_true (all_narrow (word_length c) ws) (narrow fs s) h).0
narrow_at (c ∷ fs) (ws ∷ s) h (suc f) w l = narrow_at fs s (both_true (all_narrow (word_length c) ws) (narrow fs s) h).1 f w (omega arith)

pub narrow-is : (fs : List Facility) (s : StoreWords) → ((f w : ℕ) → f < length fs → word_of s f w < 2 ^ word_length (get_or fs f no_facility)) → narrow fs s ≡ true
unfolding narrow word_of
narrow-is [] s h = refl
narrow-is (c ∷ fs) [] h = refl
narrow-is (c ∷ fs) (ws ∷ s) h = rw (row_is (word_length c) ws (λ w. h 0 w (omega arith))) (narrow-is fs s (λ f w l. h (suc f) w (omega arith)))

-- ---- A part put.

pub narrow-put : (d : Description) (s : StoreWords) (w : Write) → w.at.facility < length s → w.at.word < length (get_or s w.at.facility []) → w.at.from + w.at.count ≤ word_length (facility_at d w.at.facility)
    → narrow d.facilities s ≡ true → narrow d.facilities (put_part d s w) ≡ true
unfolding put_part facility_at
narrow-put d s w row_in word_in part_in h = narrow-is d.facilities (set_word s w.at.facility w.at.word x) (λ f i l. go f i l (eqb f w.at.facility) refl (eqb i w.at.word) refl)
  where
    old : ℕ
    old = word_of s w.at.facility w.at.word

    x : ℕ
    x = replaced old (low_of d w.at) w.at.count w.number

    go : (f i : ℕ) → f < length d.facilities → (b : Bool) → eqb f w.at.facility ≡ b → (c : Bool) → eqb i w.at.word ≡ c
        → word_of (set_word s w.at.facility w.at.word x) f i < 2 ^ word_length (get_or d.facilities f no_facility)
    go f i l true e true g =
        let p = eqb-true f w.at.facility e in
        let n : w.at.facility < length d.facilities = subst (λ (k : ℕ). k < length d.facilities) p l in
        rw (p, eqb-true i w.at.word g, word_set s w.at.facility w.at.word x row_in word_in)
        (replaced-lt old (low_of d w.at) w.at.count w.number (word_length (get_or d.facilities w.at.facility no_facility)) (omega arith) (narrow_at d.facilities s h w.at.facility w.at.word n))
    go f i l true e false g = rw (word-other s w.at.facility w.at.word x row_in f i (λ p q. eqb-false i w.at.word g q)) (narrow_at d.facilities s h f i l)
    go f i l false e c g = rw (word-other s w.at.facility w.at.word x row_in f i (λ p q. eqb-false f w.at.facility e p)) (narrow_at d.facilities s h f i l)
