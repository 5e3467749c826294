-- Facilities taken one by one: their ranks, dimensions and bounds.
use mathlib.Core.Bool.{true, false}
use mathlib.Core.Path.{◌≡◌, ◌∙◌}
use Prim.Native.Nat.{ℕ, ◌+◌, ◌<◌, ◌≤◌}
use native.Mathlib.Numerals.{add-one}
use native.Mathlib.Omega.{arith}
use borrow.Author.Tests.{le-leb, lt-leb}
use lib.Dec.{leb}
use lib.ListN.{drop, drop_of_length-le, length}
use lib.Seq.{drop-cons}
use Rattle.language.specs.Canonical.{facilities_right, facility_right, most_dimensions, no_bounds, rank_of}
use Rattle.language.specs.Description.{Description, Facility, facility_at, no_facility}
use Rattle.language.specs.Tests.{both}

-- ---- One facility.

module _ (f : Facility) where
  pub shape-many : most_dimensions f.kind < f.dimensions → facility_right f ≡ false
  unfolding facility_right
  shape-many h = rw (lt-leb _ _ h)

  module _ (h : f.dimensions ≤ most_dimensions f.kind) where
    pub shape_two : 2 ≤ f.dimensions → facility_right f ≡ true
    unfolding facility_right
    shape_two g = let k : 1 ≤ f.dimensions = omega arith in rw (le-leb _ _ h, le-leb _ _ g, le-leb _ _ k)

    module _ (g : f.dimensions < 2) where
      pub shape-words : no_bounds f.words ≡ false → facility_right f ≡ false
      unfolding facility_right
      shape-words e = rw (le-leb _ _ h, lt-leb _ _ g, e)

      pub shape_one : no_bounds f.words ≡ true → f.dimensions ≡ 1 → facility_right f ≡ true
      unfolding facility_right
      shape_one e k = let l : 1 ≤ f.dimensions = omega arith in rw (le-leb _ _ h, lt-leb _ _ g, e, le-leb _ _ l)

      pub shape-none : no_bounds f.words ≡ true → (f.dimensions ≡ 1 → ⊥) → facility_right f ≡ no_bounds f.bits
      unfolding facility_right
      shape-none e k = let l : f.dimensions < 1 = omega (arith, k) in rw (le-leb _ _ h, lt-leb _ _ g, e, lt-leb _ _ l)

-- ---- Facilities in order, n of which are done.

module _ (d : Description) (rank n : ℕ) where
  facilities-step : n < length d.facilities
      → facilities_right rank (drop n d.facilities)
      ≡ both (leb rank (rank_of (facility_at d n).kind)) (both (facility_right (facility_at d n)) (facilities_right (rank_of (facility_at d n).kind) (drop (n + 1) d.facilities)))
  unfolding facilities_right facility_at
  facilities-step h = rw (add-one n, drop-cons d.facilities n no_facility h)

  pub facilities-rank : n < length d.facilities → rank_of (facility_at d n).kind < rank → facilities_right rank (drop n d.facilities) ≡ false
  facilities-rank h g = facilities-step h ∙ rw (lt-leb _ _ g)

  pub facilities-shape : n < length d.facilities → rank ≤ rank_of (facility_at d n).kind → facility_right (facility_at d n) ≡ false
      → facilities_right rank (drop n d.facilities) ≡ false
  facilities-shape h g e = facilities-step h ∙ rw (le-leb _ _ g, e)

  pub facilities-next : n < length d.facilities → rank ≤ rank_of (facility_at d n).kind → facility_right (facility_at d n) ≡ true
      → facilities_right rank (drop n d.facilities) ≡ facilities_right (rank_of (facility_at d n).kind) (drop (n + 1) d.facilities)
  facilities-next h g e = facilities-step h ∙ rw (le-leb _ _ g, e)

  pub facilities-end : length d.facilities ≤ n → facilities_right rank (drop n d.facilities) ≡ true
  unfolding facilities_right
  facilities-end h = rw (drop_of_length-le d.facilities h)
