-- A description by its sections of facilities and expressions: what evaluation knows of them.
use Rattle.std.specs.Prelude.{false, List, ◌≡◌, ℕ, ◌/◌, ◌^◌, ◌<◌, ◌≤◌, length}
use Rattle.language.specs.Decode.{node_of}
use Rattle.language.specs.Description as D
use Rattle.language.specs.Description.{Description, facility_at, is_computed, node_at}
use Rattle.language.specs.Layout.{place_in}
use Rattle.language.specs.Tree.{Name}
use Rattle.language.specs.Value.{Value}
use Rattle.image_sections.specs.Declarations.{FacilityRead, facility_in, place_field_in}
use Rattle.image_sections.specs.declared.facilities.FacilityRecord.{FacilityRecord}
use Rattle.language.specs.Encode.{facility_size}
use Rattle.store_layout.specs.InBytes.{InBytes}

-- The expressions of d are those of the section E.
abbrev pub Nodes : Description → List ℕ → Type 0
Nodes d E = (n : ℕ) → node_at d n ≡ node_of E n

-- FacilityRecord n of d is the one of the section F, under some name.
pub record FacilityOf (d : Description) (F : List ℕ) (n : ℕ) : Type 0 where
  pub name : Name
  pub is : facility_at d n ≡ facility_in F n name

-- The sections F and E describe d; each stored facility's record has its place in the store; and a constant's number fits its length, which is one that a value has.
pub record Describes (d : Description) (F E : List ℕ) : Type 0 where
  pub nodes : Nodes d E
  pub facilities : (n : ℕ) → FacilityOf d F n
  pub count : length d.facilities ≡ length F / facility_size
  pub places : (n : ℕ) → n < length d.facilities → is_computed (facility_at d n).kind ≡ false → place_field_in F n ≡ place_in d.facilities n
  pub fit : (n : ℕ) (v : Value) → node_at d n ≡ D.constant v → (v.number < 2 ^ v.length) × (v.length ≤ 256)

-- A claim about each description by the sections F and E, and each store of the bytes B.
abbrev pub ForEach : List ℕ → List ℕ → List ℕ → (Description → InBytes → Type 0) → Type 0
ForEach F E B claim = (d : Description) (x : InBytes) → Describes d F E → x.bytes ≡ B → claim d x

-- The facility f is the one of record n, which the description has.
pub record There (d : Description) (F : List ℕ) (n : ℕ) (f : FacilityRecord) : Type 0 where
  pub read : FacilityRead F n f
  pub listed : n < length d.facilities
