-- What the code reads of places and of the declarations that they widen.
use Rattle.std.specs.Prelude.{cond, List, [], ◌≡◌, ℕ, ◌+◌, ◌*◌, ◌/◌, ◌<◌, ltb, length}
use Rattle.image_sections.specs.Declarations.{facility_in, kind_meant}
use Rattle.language.specs.Decode.{pick}
use Rattle.language.specs.Description as D
use Rattle.language.specs.Description.{is_computed, nowhere}
use Rattle.language.specs.Encode.{facility_size}
use Rattle.language.specs.Tree.{Name}
use Rattle.language.specs.Words.{Position}
use Rattle.store_geometry.specs.Shapes.{bounds_meant}
use Rattle.judge_records.specs.Noted.{place_no, widened_facility}
use Rattle.judge_records.specs.declared.facilities.Facility.{Facility}

-- The k-th place of record n, in a section where each record has `size` of them.
unfoldable pub place_of : ℕ → List ℕ → ℕ → ℕ → Position
place_of size s n k = pick (ltb n (length s / (2 * size))) (place_no s (size * n + k)) nowhere

-- A facility with its name; only a computed terminal has an expression.
abbrev pub facility_meant : Name → Facility → D.Facility
facility_meant name f = record {
  name = name;
  kind = kind_meant f.kind;
  dimensions = f.dimensions;
  words = bounds_meant f.words;
  bits = bounds_meant f.bits;
  expression = cond (is_computed (kind_meant f.kind)) f.expression 0;
}

-- f is what record n says, with the marks beside it.
pub record FacilityRead (s places : List ℕ) (n : ℕ) (f : Facility) : Type 0 where
  pub kind : kind_meant f.kind ≡ (facility_in s n []).kind
  pub meaning : n < length s / facility_size → (name : Name) → facility_meant name f ≡ widened_facility places n (facility_in s n name)
