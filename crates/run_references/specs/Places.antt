-- What the code's places, subscripts and arms mean in the language.
use Rattle.std.specs.Prelude.{cond, Err, None, Ok, Option, Result, Some, ◌≡◌, ℕ, eqb}
use Rattle.std.proofs.Math.Option as O
use Rattle.std.proofs.Math.Option.{none, some}
use Rattle.language.specs.Description.{Description}
use Rattle.language.specs.Meaning as M
use Rattle.language.specs.Meaning.{Answer, Stores}
use Rattle.language.specs.References as R
use Rattle.image_records.specs.declared.nodes.Node.{Node}
use Rattle.image_records.specs.declared.nodes.Node.TheVariants as N
use Rattle.image_sections.specs.Declarations.{short_meant}
use Rattle.image_sections.specs.declared.facilities.FacilityRecord.{FacilityRecord}
use Rattle.image_sections.specs.declared.facilities.ShortBounds.{ShortBounds}
use Rattle.run_references.specs.Worth.{stuck_meant}
use Rattle.run_references.specs.declared.places.Place.{Place}
use Rattle.run_references.specs.declared.worth.Halted.{Halted}
use Rattle.run_references.specs.declared.worth.Halted.TheVariants as H
use Rattle.store_geometry.specs.Subscripts.{subscripts_meant}
use Rattle.store_geometry.specs.declared.subscripts.Subscripts.{Subscripts}
use Rattle.store_geometry.specs.declared.subscripts.Subscripts.TheVariants as S

abbrev pub place_meant : Place → M.Place
place_meant p = M.place p.facility p.word p.from p.count

-- A halt in place of a place.
abbrev pub unlocated : Halted → M.Located
unlocated (H.Stopped n) = M.Located.stops n
unlocated (H.Stuck s) = M.Located.stuck (stuck_meant s)

abbrev pub located_meant : Result Place Halted → M.Located
located_meant (Ok p) = M.Located.at (place_meant p)
located_meant (Err h) = unlocated h

-- What goes on with a subscript's distance.
abbrev pub on_distance : Result ℕ Halted → (ℕ → M.Located) → M.Located
on_distance (Ok n) on = on n
on_distance (Err h) on = unlocated h

-- The distance d is that of the subscript sought, if one is.
abbrev pub Worked : (ℕ → Answer) → Option (ℕ × ShortBounds) → Result ℕ Halted → Type 0
Worked ev (Some s) d = (on : ℕ → M.Located) → on_distance d on ≡ M.subscript (ev s.0) (short_meant s.1) on
Worked ev None d = Unit {0}

-- The subscript that is worked out first: of X[e] a bit's or a word's.
abbrev pub first_of : FacilityRecord → Subscripts → Option (ℕ × ShortBounds)
first_of f S.Whole = None
first_of f (S.One e) = cond (eqb f.dimensions 1) (Some (e, f.bits)) (Some (e, f.words))
first_of f (S.Part b) = None
first_of f (S.Two e g) = Some (e, f.words)
first_of f (S.WordPart e b) = Some (e, f.words)

-- A bit's subscript is worked out where there is a word.
abbrev pub bit_of : FacilityRecord → ℕ → Result ℕ Halted → Option (ℕ × ShortBounds)
bit_of f g (Ok w) = Some (g, f.bits)
bit_of f g (Err h) = None

-- The subscript that is worked out after one at the distance d.
abbrev pub second_of : FacilityRecord → Subscripts → Result ℕ Halted → Option (ℕ × ShortBounds)
second_of f S.Whole d = None
second_of f (S.One e) d = None
second_of f (S.Part b) d = None
second_of f (S.Two e g) d = bit_of f g d
second_of f (S.WordPart e b) d = None

abbrev pub found_meant : Option ℕ → O.Option ℕ
found_meant (Some n) = some n
found_meant None = none

-- The expression of a record that is an arm.
abbrev pub arm_expression : Node → O.Option ℕ
arm_expression (N.Constant l) = none
arm_expression (N.More d) = none
arm_expression (N.Whole f) = none
arm_expression (N.One f e) = none
arm_expression (N.Part f a b) = none
arm_expression (N.Two f e g) = none
arm_expression (N.WordPart f e a b) = none
arm_expression (N.Binary k a b) = none
arm_expression (N.Prefix k a) = none
arm_expression (N.Cut k a c) = none
arm_expression (N.FirstArm e) = some e
arm_expression (N.NextArm a e) = some e
arm_expression (N.Choice e a n) = none
arm_expression N.Broken = none

abbrev pub refers_to : ℕ → Subscripts → R.Reference
refers_to f s = record { facility = f; subscripts = subscripts_meant s }

-- What a reference is worth, and what is no reference.
abbrev pub referred : {X : Type 0} → Stores X → Description → X → (ℕ → Answer) → O.Option R.Reference → Answer
referred S d x ev none = M.Answer.stuck M.wrong_record
referred S d x ev (some r) = M.operand S d x ev r.facility r.subscripts
