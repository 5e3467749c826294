-- What the code's records of declarations mean in the language; a name comes beside its record.
use Rattle.std.specs.Prelude.{Option as StdOption, None, Some, cond, List, ◌≡◌, ℕ, ◌+◌, ◌*◌, leb, get_or, length}
use Rattle.std.proofs.Math.Option.{Option, none, some}
use Rattle.language.specs.Decode.{facility_of, half_at, pick, run_at, value_of}
use Rattle.language.specs.Description as D
use Rattle.language.specs.Description.{bounds, is_computed, no_run}
use Rattle.language.specs.Encode.{facility_size, operation_size, state_size}
use Rattle.language.specs.Tree as T
use Rattle.language.specs.Tree.{Name}
use Rattle.image_sections.specs.declared.facilities.ShortBounds.{ShortBounds}
use Rattle.image_sections.specs.declared.facilities.FacilityRecord.{FacilityRecord}
use Rattle.image_sections.specs.declared.facilities.FacilityKind.{FacilityKind}
use Rattle.image_sections.specs.declared.facilities.FacilityKind.TheVariants as K
use Rattle.image_sections.specs.declared.operations.OperationRecord.{OperationRecord}
use Rattle.image_sections.specs.declared.runs.Run.{Run}
use Rattle.image_sections.specs.declared.states.StateRecord.{StateRecord}

-- The length of the name of record n, which stands `inside` each record; none where the record is not whole.
unfoldable pub name_length_in : ℕ → ℕ → List ℕ → ℕ → ℕ
name_length_in size inside s n = pick (leb (size * n + size) (length s)) (get_or s (size * n + inside) 0) 0

-- ---- Facilities.

abbrev pub kind_meant : FacilityKind → T.Kind
kind_meant K.Register = T.register
kind_meant K.Sequencing = T.sequencing
kind_meant K.Memory = T.memory
kind_meant K.Plain = T.plain
kind_meant K.Input = T.input
kind_meant K.Computed = T.computed

abbrev pub short_meant : ShortBounds → D.Bounds
short_meant b = bounds b.first b.last

-- A facility with its name; only a computed terminal has an expression.
abbrev pub facility_meant : Name → FacilityRecord → D.Facility
facility_meant name f = record {
  name = name;
  kind = kind_meant f.kind;
  dimensions = f.dimensions;
  words = short_meant f.words;
  bits = short_meant f.bits;
  expression = cond (is_computed (kind_meant f.kind)) f.place 0;
}

-- What stands for a facility where there is none.
abbrev pub none_named : Name → D.Facility
none_named name = record { name = name; kind = T.plain; dimensions = 0; words = bounds 0 0; bits = bounds 0 0; expression = 0 }

-- Record n of a section; one that is not whole is no facility.
unfoldable pub facility_in : List ℕ → ℕ → Name → D.Facility
facility_in s n name = pick (leb (facility_size * n + facility_size) (length s)) (facility_of (facility_size * n) s name) (none_named name)

-- Where record n says that its facility is.
unfoldable pub place_field_in : List ℕ → ℕ → ℕ
place_field_in s n = pick (leb (facility_size * n + facility_size) (length s)) (half_at (facility_size * n + 11) s) 0

-- f is what record n says.
pub record FacilityRead (s : List ℕ) (n : ℕ) (f : FacilityRecord) : Type 0 where
  pub name : f.name ≡ name_length_in facility_size 2 s n
  pub place : f.place ≡ place_field_in s n
  pub meaning : (name : Name) → facility_meant name f ≡ facility_in s n name

-- ---- Operations and states.

abbrev pub run_meant : Run → D.Run
run_meant r = record { first = r.first; count = r.count }

abbrev pub operation_meant : Name → OperationRecord → D.Operation
operation_meant name o = record { name = name; body = run_meant o.body }

unfoldable pub operation_in : List ℕ → ℕ → Name → D.Operation
operation_in s n name =
    record { name = name; body = pick (leb (operation_size * n + operation_size) (length s)) (run_at (operation_size * n + 1) s) no_run }

pub record OperationRead (s : List ℕ) (n : ℕ) (o : OperationRecord) : Type 0 where
  pub name : o.name ≡ name_length_in operation_size 0 s n
  pub meaning : (name : Name) → operation_meant name o ≡ operation_in s n name

abbrev pub value_meant : StdOption ℕ → Option ℕ
value_meant (Some n) = some n
value_meant None = none

abbrev pub state_meant : Name → StateRecord → D.State
state_meant name s = record { name = name; value = value_meant s.value; actions = run_meant s.actions }

unfoldable pub state_in : List ℕ → ℕ → Name → D.State
state_in s n name =
    pick (leb (state_size * n + state_size) (length s))
    (record { name = name; value = value_of (half_at (state_size * n + 1) s); actions = run_at (state_size * n + 3) s })
    (record { name = name; value = none; actions = no_run })

pub record StateRead (s : List ℕ) (n : ℕ) (x : StateRecord) : Type 0 where
  pub name : x.name ≡ name_length_in state_size 0 s n
  pub meaning : (name : Name) → state_meant name x ≡ state_in s n name
