-- Words of a store are tested facility by facility: what is left to test says the same as the whole. Assumes nothing.
use mathlib.Core.Bool.{Bool, true, false}
use mathlib.Core.List.{List, [], ◌∷◌}
use mathlib.Core.Path.{◌≡◌, refl, sym, ap, ◌∙◌}
use Prim.Native.Nat.{ℕ, zero, suc, ◌+◌, ◌-◌, ◌≤◌, ◌<◌}
use native.Mathlib.Omega.{arith}
use lib.ListN.{drop, drop_of_length-le, get_or, length}
use lib.Seq.{drop-drop}
use Rattle.language.specs.Description.{Facility, is_computed, no_facility, word_count, word_length}
use Rattle.language.specs.Layout.{facility_bytes, place_in, store_size_of, word_bytes}
use Rattle.language.specs.Store.{all_narrow, facility_words, from_bytes, narrow}
use Rattle.store_layout.proofs.SpareLaws.{facility-narrow, one_word}
use Rattle.store_layout.proofs.StoreWords.{in-store}
use Rattle.store_layout.specs.InBytes.{place_of_word}
use Rattle.store_layout.specs.Spare.{narrow_at}
use Rattle.about_running.specs.StateValues.{some_word}
use Rattle.run_soundness.specs.Tested.{narrow_in}
use Rattle.language.specs.Tests.{both}

pub narrow-computed : (B : List ℕ) (at : ℕ) (f : Facility) → is_computed f.kind ≡ true → narrow_in B at f ≡ true
unfolding narrow_in
narrow-computed B at f e = rw e

pub narrow-stored : (B : List ℕ) (at : ℕ) (f : Facility) → is_computed f.kind ≡ false → narrow_in B at f ≡ narrow_at B at (word_count f) (word_length f)
unfolding narrow_in
narrow-stored B at f e = rw e

-- The words of the facilities from the n-th on, in the bytes B of a store.
unfoldable pub narrow_from : List Facility → ℕ → List ℕ → Bool
narrow_from fs n B = narrow (drop n fs) (from_bytes (drop n fs) (drop (place_in fs n) B))

place-first : (fs : List Facility) → place_in fs 0 ≡ 0
unfolding place_in
place-first [] = refl
place-first (f ∷ fs) = refl

pub narrow-all : (fs : List Facility) (B : List ℕ) → narrow_from fs 0 B ≡ narrow fs (from_bytes fs B)
unfolding narrow_from
narrow-all fs B = rw (place-first fs)

pub narrow-none : (fs : List Facility) (n : ℕ) (B : List ℕ) → length fs ≤ n → narrow_from fs n B ≡ true
unfolding narrow_from narrow
narrow-none fs n B h = rw (drop_of_length-le fs h)

first-narrow : (fs : List Facility) (n : ℕ) (B : List ℕ) → n < length fs
    → narrow_from fs n B ≡ both (all_narrow (word_length (get_or fs n no_facility)) (facility_words (get_or fs n no_facility) (drop (place_in fs n) B))) (narrow_from fs (suc n) B)
unfolding narrow_from narrow from_bytes place_in
first-narrow [] n B h = absurd (omega arith)
first-narrow (f ∷ fs) zero B h = let e : facility_bytes f + place_in fs 0 ≡ facility_bytes f = omega (arith, place-first fs) in rw e
first-narrow (f ∷ fs) (suc n) B h =
    rw (← drop-drop (place_in fs n) (facility_bytes f) B, ← drop-drop (place_in fs (suc n)) (facility_bytes f) B) (first-narrow fs n (drop (facility_bytes f) B) (omega arith))

module _ (fs : List Facility) (n : ℕ) (f : Facility) (is : get_or fs n no_facility ≡ f) (there : n < length fs) where
  -- Its bytes lie in the store.
  pub in-room : is_computed f.kind ≡ false → place_in fs n + facility_bytes f ≤ store_size_of fs
  unfolding place_of_word facility_bytes
  in-room k =
      let t = in-store fs n (word_count f - 1) (record { there = there; kept = rw is k; below = rw is (omega (arith, some_word f)) }) in
      let m = one_word (word_count f) (word_bytes (word_length f)) (some_word f) in
      rw k (omega (arith, rw is at t, m))

  module _ (B : List ℕ) (room : store_size_of fs ≤ length B) (p : ℕ) (at : is_computed f.kind ≡ false → p ≡ place_in fs n) where
    same_test : all_narrow (word_length f) (facility_words f (drop (place_in fs n) B)) ≡ narrow_in B p f
    unfolding all_narrow
    same_test = by_kind (is_computed f.kind) refl
      where
        by_kind : (b : Bool) → is_computed f.kind ≡ b → all_narrow (word_length f) (facility_words f (drop (place_in fs n) B)) ≡ narrow_in B p f
        by_kind true e = rw e (sym (narrow-computed B p f e))
        by_kind false e = facility-narrow f B (place_in fs n) e (omega (arith, in-room e)) ∙ (ap (λ (k : ℕ). narrow_at B k (word_count f) (word_length f)) (sym (at e)) ∙ sym (narrow-stored B p f e))

    narrow-here : narrow_from fs n B ≡ both (narrow_in B p f) (narrow_from fs (suc n) B)
    narrow-here = first-narrow fs n B there ∙ rw (is, same_test)

    pub narrow-more : narrow_in B p f ≡ true → narrow_from fs n B ≡ narrow_from fs (suc n) B
    narrow-more t = narrow-here ∙ rw t

    pub narrow-stop : narrow_in B p f ≡ false → narrow_from fs n B ≡ false
    narrow-stop t = narrow-here ∙ rw t
