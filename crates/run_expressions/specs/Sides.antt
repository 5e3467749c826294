-- What a reference's facility and place mean, and what is known of them.
use Rattle.std.specs.Prelude.{Err, List, Ok, Result, ◌≡◌, ℕ}
use Rattle.language.specs.Description.{Description}
use Rattle.language.specs.Meaning as M
use Rattle.language.specs.Meaning.{Answer, place_of}
use Rattle.image_sections.specs.Declarations.{FacilityRead}
use Rattle.image_sections.specs.declared.facilities.FacilityRecord.{FacilityRecord}
use Rattle.run_references.specs.Described.{Describes, There}
use Rattle.run_references.specs.Places.{Worked, first_of, place_meant, refers_to, second_of, unlocated}
use Rattle.run_references.specs.declared.places.Place.{Place}
use Rattle.run_references.specs.declared.worth.Halted.{Halted}
use Rattle.store_geometry.specs.declared.subscripts.Subscripts.{Subscripts}

abbrev pub Side : Type 0
Side = Result (FacilityRecord × Place) Halted

abbrev pub side_meant : Side → M.Located
side_meant (Ok s) = M.Located.at (place_meant s.1)
side_meant (Err h) = unlocated h

-- Its facility is the one of record n.
abbrev pub SideRead : List ℕ → ℕ → Side → Type 0
SideRead F n (Ok s) = FacilityRead F n s.0
SideRead F n (Err h) = Unit {0}

-- Its facility is the place's own.
abbrev pub SideThere : Description → List ℕ → Side → Type 0
SideThere d F (Ok s) = There d F s.1.facility s.0
SideThere d F (Err h) = Unit {0}

-- It is the place of a reference to facility n whose subscripts are at the distances a and b.
abbrev pub PlaceWorked : List ℕ → ℕ → Subscripts → Result ℕ Halted → Result ℕ Halted → Side → Type 0
PlaceWorked F n s a b r =
    (d : Description) (E : List ℕ) → Describes d F E → (ev : ℕ → Answer)
    → ((f : FacilityRecord) → FacilityRead F n f → Worked ev (first_of f s) a × Worked ev (second_of f s a) b)
    → side_meant r ≡ place_of d ev (refers_to n s)
