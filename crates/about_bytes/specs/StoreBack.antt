-- StoreWords that fit, written and read back, whatever lies behind them. Assumes nothing.
use Rattle.std.specs.Prelude.{Bool, true, false, cond, List, [], ◌∷◌, ◌++◌, ◌≡◌, refl, ℕ, zero, suc, ◌+◌, ◌*◌, ◌^◌, ◌≤◌, drop, length, take}
use Rattle.std.proofs.Common.{ap, ◌∙◌, suc-mul, arith, lt-ltb, length-drop}
use Rattle.language.specs.Description.{Facility, is_computed, word_count, word_length}
use Rattle.language.specs.Layout.{facility_bytes, no_spare_bits, store_size_of, word_bytes, word_from_bytes}
use Rattle.language.specs.Store.{StoreWords, all_narrow, facility_words, from_bytes, narrow, to_bytes, words_from}
use Rattle.store_layout.proofs.Inverse.{length_to, words_same}
use Rattle.store_layout.specs.InBytes.{Shaped, row_length}
use Rattle.about_running.specs.Fitting.{AllBelow, Fit, stored}
use Rattle.language.specs.Tests.{both}

pub both_so : {a b : Bool} → a ≡ true → b ≡ true → both a b ≡ true
both_so p q = rw p q

-- ---- StoreWords that fit are narrow, and shaped as their facilities say.

all-narrow : (l : ℕ) (ws : List ℕ) → AllBelow (2 ^ l) ws → all_narrow l ws ≡ true
unfolding all_narrow no_spare_bits
all-narrow l [] h = refl
all-narrow l (x ∷ xs) h = both_so (lt-ltb x (2 ^ l) h.0) (all-narrow l xs h.1)

pub fit-narrow : (fs : List Facility) (s : StoreWords) → Fit fs s → narrow fs s ≡ true
unfolding narrow
fit-narrow [] s h = refl
fit-narrow (f ∷ fs) [] h = refl
fit-narrow (f ∷ fs) (ws ∷ s) h = both_so (all-narrow (word_length f) ws h.0.small) (fit-narrow fs s h.1)

pub fit-shaped : (fs : List Facility) (s : StoreWords) → Fit fs s → Shaped fs s
unfolding row_length stored
fit-shaped [] [] h = tt
fit-shaped [] (ws ∷ s) h = absurd h
fit-shaped (f ∷ fs) [] h = absurd h
fit-shaped (f ∷ fs) (ws ∷ s) h = (h.0.count, fit-shaped fs s h.1)

-- ---- Bytes behind the store do not matter.

take-front : (n : ℕ) (bs rest : List ℕ) → n ≤ length bs → take n (bs ++ rest) ≡ take n bs
take-front zero bs rest l = refl
take-front (suc n) [] rest l = absurd (omega arith)
take-front (suc n) (b ∷ bs) rest l = ap (λ (s : List ℕ). b ∷ s) (take-front n bs rest (omega arith))

drop-front : (n : ℕ) (bs rest : List ℕ) → n ≤ length bs → drop n (bs ++ rest) ≡ drop n bs ++ rest
drop-front zero bs rest l = refl
drop-front (suc n) [] rest l = absurd (omega arith)
drop-front (suc n) (b ∷ bs) rest l = drop-front n bs rest (omega arith)

words-front : (n l : ℕ) (bs rest : List ℕ) → n * word_bytes l ≤ length bs → words_from n l (bs ++ rest) ≡ words_from n l bs
unfolding words_from
words-front zero l bs rest h = refl
words-front (suc n) l bs rest h =
    let e : suc n * word_bytes l ≡ n * word_bytes l + word_bytes l = suc-mul n (word_bytes l) in
    let a : word_bytes l ≤ length bs = omega (arith, h, e) in
    let d = length-drop (word_bytes l) bs in
    rw (take-front (word_bytes l) bs rest a, drop-front (word_bytes l) bs rest a)
    (ap (λ (ws : List ℕ). word_from_bytes (take (word_bytes l) bs) ∷ ws) (words-front n l (drop (word_bytes l) bs) rest (omega (arith, h, e, d))))

facility-front : (f : Facility) (bs rest : List ℕ) → facility_bytes f ≤ length bs → facility_words f (bs ++ rest) ≡ facility_words f bs
unfolding facility_bytes
facility-front f bs rest h = go (is_computed f.kind) h
  where
    go : (b : Bool) → cond b 0 (word_count f * word_bytes (word_length f)) ≤ length bs
        → cond b [] (words_from (word_count f) (word_length f) (bs ++ rest)) ≡ cond b [] (words_from (word_count f) (word_length f) bs)
    go true k = refl
    go false k = words-front (word_count f) (word_length f) bs rest k

from_front : (fs : List Facility) (bs rest : List ℕ) → store_size_of fs ≤ length bs → from_bytes fs (bs ++ rest) ≡ from_bytes fs bs
unfolding from_bytes store_size_of
from_front [] bs rest h = refl
from_front (f ∷ fs) bs rest h =
    let a : facility_bytes f ≤ length bs = omega arith in
    let d = length-drop (facility_bytes f) bs in
    rw (facility-front f bs rest a, drop-front (facility_bytes f) bs rest a)
    (ap (λ (s : StoreWords). facility_words f bs ∷ s) (from_front fs (drop (facility_bytes f) bs) rest (omega (arith, h, d))))

-- ---- StoreWords that fit are read back.

pub store-back : (fs : List Facility) (s : StoreWords) (rest : List ℕ) → Fit fs s → from_bytes fs (to_bytes fs s ++ rest) ≡ s
store-back fs s rest h =
    let n = length_to fs s (fit-shaped fs s h) in
    from_front fs (to_bytes fs s) rest (omega (arith, n)) ∙ words_same fs s (fit-shaped fs s h) (fit-narrow fs s h)

pub store_length : (fs : List Facility) (s : StoreWords) → Fit fs s → length (to_bytes fs s) ≡ store_size_of fs
store_length fs s h = length_to fs s (fit-shaped fs s h)
