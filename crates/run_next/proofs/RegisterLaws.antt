-- The first sequencing register, facility by facility, and the value of its word.
use mathlib.Core.Bool.{true, false}
use mathlib.Core.List.{List, [], ◌∷◌}
use mathlib.Core.Option.{none, some}
use mathlib.Core.Path.{◌≡◌, refl, sym, ap, ◌∙◌}
use Prim.Native.Nat.{ℕ, zero, suc, ◌+◌, ◌-◌, ◌*◌, ◌/◌, ◌%◌, ◌^◌, ◌≤◌, ◌<◌}
use native.Mathlib.Nat.{div-one, mod-eq_of_lt}
use native.Mathlib.Omega.{arith}
use lib.ListN.{drop, length}
use lib.Seq.{drop-cons}
use Rattle.language.specs.Description.{Description, Facility, facility_at, is_computed, is_sequencing, no_facility, sequencing_from, word_count, word_length}
use Rattle.language.specs.Layout.{place_in, store_size_of, word_bytes}
use Rattle.language.specs.Store.{from_bytes, word_of}
use Rattle.language.specs.Ceilings.{longest}
use Rattle.image_sections.specs.Declarations.{FacilityRead, facility_meant}
use Rattle.image_sections.specs.declared.facilities.FacilityRecord as Read
use Rattle.store_layout.proofs.StoreWords.{in-store, word-from}
use Rattle.store_layout.proofs.Words.{word_lt}
use Rattle.store_layout.specs.InBytes.{Stored, place_of_word}
use Rattle.store_layout.specs.Layout.{Bytes, word_in}
use Rattle.store_layout.specs.Parts.{inside, loaded, part_in}
use Rattle.run_references.proofs.PlaceLaws.{facility-known, name_of, stored-place}
use Rattle.run_references.specs.Described.{Describes}
use borrow.Author.Tests.{le-leb}

drop_all : (fs : List Facility) (n : ℕ) → length fs ≤ n → drop n fs ≡ []
drop_all [] zero h = refl
drop_all [] (suc n) h = refl
drop_all (f ∷ fs) zero h = absurd (omega arith)
drop_all (f ∷ fs) (suc n) h = drop_all fs n (omega arith)

module _ (d : Description) (n : ℕ) where
  module _ (h : n < length d.facilities) where
    pub register-here : is_sequencing (facility_at d n).kind ≡ true → sequencing_from n (drop n d.facilities) ≡ some n
    unfolding sequencing_from facility_at
    register-here e = rw (drop-cons d.facilities n no_facility h, e)

    pub register-later : is_sequencing (facility_at d n).kind ≡ false → sequencing_from n (drop n d.facilities) ≡ sequencing_from (suc n) (drop (suc n) d.facilities)
    unfolding sequencing_from facility_at
    register-later e = rw (drop-cons d.facilities n no_facility h, e)

  pub register-none : length d.facilities ≤ n → sequencing_from n (drop n d.facilities) ≡ none
  unfolding sequencing_from
  register-none h = rw (drop_all d.facilities n h)

-- ---- A word of up to 32 bytes, loaded with its spare bits.

module _ (B : List ℕ) (are : Bytes B) (at l : ℕ) (fits : at + word_bytes l ≤ length B) (few : 8 * word_bytes l ≤ 256) where
  same_bytes : word_bytes (8 * word_bytes l) ≡ word_bytes l
  unfolding word_bytes
  same_bytes = omega arith

  whole_in : word_in B at (8 * word_bytes l) ≡ word_in B at l
  unfolding word_in
  whole_in = rw same_bytes

  pub whole_word : (loaded B at (8 * word_bytes l) 0 (8 * word_bytes l)).number ≡ word_in B at l
  unfolding loaded inside longest part_in
  whole_word =
      let w : ℕ = 8 * word_bytes l in
      let z : w - (0 + w) ≡ 0 = omega arith in
      let y : 0 + w ≡ w = omega arith in
      rw (same_bytes, le-leb (at + word_bytes l) (length B) fits, le-leb (0 + w) w (omega arith), le-leb w 256 few, z)
      (ap (λ (x : ℕ). x / 1 % 2 ^ w) whole_in ∙ (ap (λ (x : ℕ). x % 2 ^ w) (div-one (word_in B at l)) ∙ mod-eq_of_lt (word_lt B at l fits are)))

-- So it is the word of the store.
module _ {d : Description} {F E : List ℕ} (h : Describes d F E) (n : ℕ) (f : Read.FacilityRecord) (g : FacilityRead F n f) (l : n < length d.facilities) where
  pub first-word : is_computed (facility_meant (name_of h n f g) f).kind ≡ false → 0 < word_count (facility_at d n) → (B : List ℕ) → Bytes B → store_size_of d.facilities ≤ length B
      → 8 * word_bytes (word_length (facility_meant (name_of h n f g) f)) ≤ 256
      → (loaded B f.place (8 * word_bytes (word_length (facility_meant (name_of h n f g) f))) 0 (8 * word_bytes (word_length (facility_meant (name_of h n f g) f)))).number ≡ word_of (from_bytes d.facilities B) n 0
  unfolding facility_at place_of_word
  first-word k one B are room few =
      let m = word_length (facility_meant (name_of h n f g) f) in
      let q = facility-known h n f g in
      let s : Stored d.facilities n 0 = record { there = l; kept = ap (λ (y : Facility). is_computed y.kind) q ∙ k; below = one } in
      let e : word_length (facility_at d n) ≡ m = ap word_length q in
      let u : word_bytes (word_length (facility_at d n)) ≡ word_bytes m = ap word_bytes e in
      let p = stored-place h n f g l k in
      let i : place_of_word d.facilities n 0 ≡ place_in d.facilities n = omega arith in
      let t = in-store d.facilities n 0 s in
      whole_word B are f.place m (omega (arith, p, i, u, t)) few ∙ (ap (λ (a : ℕ). word_in B a m) (p ∙ sym i) ∙ (ap (λ (z : ℕ). word_in B (place_of_word d.facilities n 0) z) (sym e) ∙ sym (word-from d.facilities B n 0 s)))
