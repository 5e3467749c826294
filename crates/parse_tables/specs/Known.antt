-- The names known at a place of the text, as the working array holds them, and what one means.
use Rattle.std.specs.Prelude.{Bool, true, false, List, ◌≡◌, ℕ, ◌<◌}
use Rattle.std.proofs.Math.Option.{Option, none, some}
use Rattle.std.proofs.Math.ListN as N
use Rattle.language.specs.Naming as L
use Rattle.language.specs.Naming.{Scope, meaning}
use Rattle.language.specs.Tree.{Name}
use Rattle.parse_tables.specs.declared.Table.TheVariants as T
use Rattle.parse_tables.specs.Names.{facility_names, names_in}
use Rattle.parse_array.specs.Names.{letters}
use Rattle.parse_tables.specs.declared.meaning.KnownNames.{KnownNames}
use Rattle.parse_tables.specs.declared.meaning.Meaning.{Meaning}
use Rattle.parse_tables.specs.declared.meaning.Meaning.TheVariants as M

-- Among states a name waits for its state by its length, since the label may stand further on; elsewhere no name is a state's.
abbrev pub waiting : Bool → Name → Option ℕ
waiting true m = some (N.length m)
waiting false m = none

-- The names of facilities and operations stand in their tables.
pub record Known (text : List ℕ) (sc : Scope) (n : KnownNames) (work : List ℕ) : Type 0 where
  pub facilities : sc.facilities ≡ facility_names text work n.facilities
  pub operations : sc.operations ≡ names_in text T.OperationNames work n.operations
  pub states : (m : Name) → sc.state_named m ≡ waiting n.waiting m

abbrev pub meant : Meaning → L.Meaning
meant (M.Facility k) = L.facility k
meant (M.Operation k) = L.operation k
meant (M.State k) = L.state k
meant M.Unknown = L.unknown

abbrev pub Means : List ℕ → List ℕ → KnownNames → ℕ → ℕ → Meaning → Type 0
Means text work n place length r =
    N.length text < 65536 → (sc : Scope) → Known text sc n work → meant r ≡ meaning sc (letters text place length)
