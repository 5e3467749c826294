-- What the code's answers to lookups mean.
use Rattle.std.specs.Prelude.{cond, Err, List, Ok, Result, ◌≡◌, ℕ, length}
use Rattle.std.proofs.Math.Option.{none, some}
use Rattle.language.specs.Decode.{decode}
use Rattle.language.specs.Description.{facility_at, is_computed}
use Rattle.language.specs.Lookups as L
use Rattle.language.specs.Tree.{Name}
use Rattle.language.specs.declared.refusals.Refusal.{Refusal}
use Rattle.image_sections.specs.Declarations.{facility_meant, kind_meant}
use Rattle.image_sections.specs.declared.facilities.FacilityRecord.{FacilityRecord}
use Rattle.image_sections.specs.Names.{part_meant}
use Rattle.image_sections.specs.declared.names.Part.{Part}

abbrev pub name_meant : Result Part Refusal → L.NameAnswer
name_meant (Ok p) = L.named (part_meant p)
name_meant (Err k) = L.refused k

-- The name of a facility comes beside its declaration. A computed terminal has no place in the store.
abbrev pub answered : Name → Result FacilityRecord Refusal → L.FacilityAnswer
answered name (Ok f) = L.declared (facility_meant name f) (cond (is_computed (kind_meant f.kind)) none (some f.place))
answered name (Err k) = L.unknown k

-- The whole answer: the declaration with its place, and how long the name is.
pub record Looks (image : List ℕ) (n : ℕ) (r : Result FacilityRecord Refusal) : Type 0 where
  pub facility : answered (facility_at (decode image) n).name r ≡ L.facility image n
  pub name : (f : FacilityRecord) → r ≡ Ok f → f.name ≡ length (facility_at (decode image) n).name
