-- Facilities as they are declared, and what adding one leaves.
use Rattle.std.specs.Prelude.{List, [], ◌∷◌, ◌++◌, ◌≡◌, ℕ, ◌+◌, ◌%◌, length}
use Rattle.image_sections.specs.Declarations.{kind_meant}
use Rattle.language.specs.Description as D
use Rattle.language.specs.Description.{FacilityPlaces, bounds}
use Rattle.language.specs.Encode.{facility_record}
use Rattle.language.specs.Tree.{Name}
use Rattle.judge_records.specs.Noted.{facility_beside_bytes}
use Rattle.text_words.specs.Meaning.{positioned}
use Rattle.parse_array.specs.Layout.{work_size}
use Rattle.parse_tables.specs.declared.extents.Ends.{Ends}
use Rattle.parse_tables.specs.declared.facilities.Declared.{Declared}
use Rattle.parse_tables.specs.declared.Table.TheVariants as T
use Rattle.parse_tables.specs.Names.{name_row}
use Rattle.parse_tables.specs.Rows.{Kept, rows}

abbrev pub ends_bounds : Ends → D.Bounds
ends_bounds e = bounds e.first e.last

-- The facility that a declaration with this name says.
abbrev pub facility_said : Name → Declared → D.Facility
facility_said name x = record {
  name = name;
  kind = kind_meant x.kind;
  dimensions = x.extent.dimensions;
  words = ends_bounds x.extent.words;
  bits = ends_bounds x.extent.bits;
  expression = x.expression;
}

abbrev pub places_said : Declared → FacilityPlaces
places_said x = record {
  name = positioned x.at;
  words_first = positioned x.extent.words.left;
  words_last = positioned x.extent.words.right;
  bits_first = positioned x.extent.bits.left;
  bits_last = positioned x.extent.bits.right;
  equals = positioned x.equals;
}

-- Facility n stands behind those before it, with its places and its name; its place in the store ends in the bits of `place`.
pub record FacilityAdded (n place : ℕ) (x : Declared) (w w' : List ℕ) : Type 0 where
  pub whole : length w ≡ work_size
  pub records : (name : Name) (at : ℕ) → length name ≡ x.size → place ≡ at % 65536 → rows T.Facilities (n + 1) w' ≡ rows T.Facilities n w ++ facility_record at (facility_said name x)
  pub places : (name : Name) → rows T.FacilityPlaces (n + 1) w' ≡ rows T.FacilityPlaces n w ++ facility_beside_bytes (facility_said name x) (places_said x)
  pub names : rows T.FacilityNames (n + 1) w' ≡ rows T.FacilityNames n w ++ name_row x.at.place x.size
  pub kept : Kept (T.Facilities ∷ T.FacilityPlaces ∷ T.FacilityNames ∷ []) w w'
