-- A facility's record has the bytes that writing gives it where its kind is one and, if it is not computed, its place is the right one.
use mathlib.Core.Bool.{false}
use mathlib.Core.List.{List, [], ◌∷◌, ◌++◌}
use mathlib.Core.Path.{◌≡◌, refl, sym, ◌∙◌}
use Prim.Native.Nat.{ℕ, zero, suc, ◌+◌, ◌*◌, ◌/◌, ◌%◌, ◌<◌, ◌≤◌}
use native.Mathlib.Nat.{mod-eq_of_lt}
use native.Mathlib.Omega.{arith}
use borrow.Author.Tests.{eq-eqb, ne_eqb}
use lib.Dec.{eqb}
use lib.ListN.{drop, get_or, length, take}
use lib.Seq.{drop-drop, take-add}
use Rattle.language.specs.Decode.{bounds_at, facility_of, kind_of, number_at}
use Rattle.language.specs.Description.{is_computed}
use Rattle.language.specs.Encode.{bound_bytes, facility_record, facility_size, kind_number, little}
use Rattle.language.specs.Scan.{same}
use Rattle.language.specs.Tests.{both}
use Rattle.language.specs.Tree as T
use Rattle.language.specs.Tree.{Name}
use Rattle.image_records.proofs.ByteLaws.{same_refl}
use Rattle.image_records.proofs.FieldLaws.{alone, low_same, next-byte, number-bytes, together, two-halves}
use Rattle.image_records.proofs.NodeBack.{Half}
use Rattle.image_records.proofs.NumberLaws.{number-two}
use Rattle.image_sections.proofs.DeclarationLaws.{facility-whole}
use Rattle.image_sections.specs.Declarations.{facility_in}

-- ---- Kinds.

kind-stored : (k : ℕ) → k < 5 → (kind_number (kind_of k) ≡ k) × (is_computed (kind_of k) ≡ false)
unfolding kind_of
kind-stored zero h = (refl, refl)
kind-stored (suc zero) h = (refl, refl)
kind-stored (suc (suc zero)) h = (refl, refl)
kind-stored (suc (suc (suc zero))) h = (refl, refl)
kind-stored (suc (suc (suc (suc zero)))) h = (refl, refl)
kind-stored (suc (suc (suc (suc (suc k))))) h = absurd (omega arith)

kind-computed : (k : ℕ) → 5 ≤ k → kind_of k ≡ T.computed
unfolding kind_of
kind-computed k h =
    rw (ne_eqb k 0 (λ e. omega arith), ne_eqb k 1 (λ e. omega arith), ne_eqb k 2 (λ e. omega arith), ne_eqb k 3 (λ e. omega arith), ne_eqb k 4 (λ e. omega arith))

-- ---- Bytes that are the same at both ends.

same-front : (p x y : List ℕ) → same (p ++ x) (p ++ y) ≡ same x y
unfolding same
same-front [] x y = refl
same-front (a ∷ p) x y = rw (eq-eqb a a refl, same-front p x y)

ends_same : (k k' d l : ℕ) (b c x y : List ℕ) → same (k ∷ d ∷ l ∷ (b ++ (c ++ x))) (k' ∷ d ∷ l ∷ (b ++ (c ++ y))) ≡ both (eqb k k') (same x y)
unfolding same
ends_same k k' d l b c x y = rw (eq-eqb d d refl, eq-eqb l l refl, same-front b (c ++ x) (c ++ y), same-front c x y) (together (eqb k k') (same x y))

module _ (s : List ℕ) (bytes : (i : ℕ) → get_or s i 0 < 256) (n : ℕ) (name : Name) (h : n < length s / facility_size) (l : length name ≡ get_or s (facility_size * n + 2) 0) where
  fields : take facility_size (drop (facility_size * n) s)
      ≡ get_or s (facility_size * n) 0 ∷ get_or s (facility_size * n + 1) 0 ∷ get_or s (facility_size * n + 2) 0
      ∷ (bound_bytes (bounds_at (facility_size * n + 3) s) ++ (bound_bytes (bounds_at (facility_size * n + 7) s) ++ little 2 (number_at 2 (facility_size * n + 11) s)))
  fields =
      let e2 : facility_size * n + 1 + 1 ≡ facility_size * n + 2 = omega arith in
      let e3 : facility_size * n + 2 + 1 ≡ facility_size * n + 3 = omega arith in
      let e7 : facility_size * n + 3 + 4 ≡ facility_size * n + 7 = omega arith in
      let e11 : facility_size * n + 7 + 4 ≡ facility_size * n + 11 = omega arith in
      rw (
        next-byte s bytes (facility_size * n) 12 (omega arith),
        next-byte s bytes (facility_size * n + 1) 11 (omega arith),
        e2,
        next-byte s bytes (facility_size * n + 2) 10 (omega arith),
        e3,
        take-add 4 6 (drop (facility_size * n + 3) s),
        drop-drop 4 (facility_size * n + 3) s,
        e7,
        take-add 4 2 (drop (facility_size * n + 7) s),
        drop-drop 4 (facility_size * n + 7) s,
        e11,
        two-halves s bytes (facility_size * n + 3) (omega arith),
        two-halves s bytes (facility_size * n + 7) (omega arith),
        number-bytes s bytes 2 (facility_size * n + 11) (omega arith),
      )

  pub facility-stored : (place : ℕ) → get_or s (facility_size * n) 0 < 5
      → eqb (number_at 2 (facility_size * n + 11) s) (place % 65536) ≡ same (take facility_size (drop (facility_size * n) s)) (facility_record place (facility_in s n name))
  unfolding facility_record facility_of
  facility-stored place k =
      let w = kind-stored (get_or s (facility_size * n) 0) k in
      let q : Half (number_at 2 (facility_size * n + 11) s) = omega (arith, number-two (facility_size * n + 11) s, bytes (facility_size * n + 11), bytes (facility_size * n + 11 + 1)) in
      rw (facility-whole s n name h, fields, l, mod-eq_of_lt (bytes (facility_size * n + 1)), mod-eq_of_lt (bytes (facility_size * n + 2)), w.0, w.1)
      (sym (ends_same (get_or s (facility_size * n) 0) (get_or s (facility_size * n) 0) (get_or s (facility_size * n + 1) 0) (get_or s (facility_size * n + 2) 0) (bound_bytes (bounds_at (facility_size * n + 3) s)) (bound_bytes (bounds_at (facility_size * n + 7) s)) (little 2 (number_at 2 (facility_size * n + 11) s)) (little 2 place) ∙ rw (eq-eqb (get_or s (facility_size * n) 0) (get_or s (facility_size * n) 0) refl) (low_same (number_at 2 (facility_size * n + 11) s) place q)))

  pub facility-computed : (place : ℕ) → 5 ≤ get_or s (facility_size * n) 0
      → eqb (get_or s (facility_size * n) 0) 5 ≡ same (take facility_size (drop (facility_size * n) s)) (facility_record place (facility_in s n name))
  unfolding facility_record facility_of
  facility-computed place k =
      rw (facility-whole s n name h, fields, l, mod-eq_of_lt (bytes (facility_size * n + 1)), mod-eq_of_lt (bytes (facility_size * n + 2)), kind-computed (get_or s (facility_size * n) 0) k)
      (sym (ends_same (get_or s (facility_size * n) 0) 5 (get_or s (facility_size * n + 1) 0) (get_or s (facility_size * n + 2) 0) (bound_bytes (bounds_at (facility_size * n + 3) s)) (bound_bytes (bounds_at (facility_size * n + 7) s)) (little 2 (number_at 2 (facility_size * n + 11) s)) (little 2 (number_at 2 (facility_size * n + 11) s)) ∙ rw (same_refl (little 2 (number_at 2 (facility_size * n + 11) s))) (alone (eqb (get_or s (facility_size * n) 0) 5))))
