-- Names by the places and sizes of their words.
use Rattle.std.specs.Prelude.{List, ◌++◌, ℕ, ◌+◌, ◌*◌, min}
use Rattle.std.proofs.Math.Option.{Option, none, some}
use Rattle.std.specs.Prelude as R
use Rattle.language.specs.Decode.{half_at, up_to}
use Rattle.language.specs.Encode.{two}
use Rattle.language.specs.Tree.{Name}
use Rattle.parse_array.specs.Names.{letters}
use Rattle.parse_tables.specs.declared.Table.{Table}
use Rattle.parse_tables.specs.declared.Table.TheVariants as T
use Rattle.parse_tables.specs.Rows.{most, rows}

unfoldable pub name_row : ℕ → ℕ → List ℕ
name_row place size = two place ++ two size

-- Name k of a table, and the first n.
unfoldable pub name_at : List ℕ → List ℕ → ℕ → Name
name_at text s k = letters text (half_at (4 * k) s) (half_at (4 * k + 2) s)

unfoldable pub names_of : List ℕ → List ℕ → ℕ → List Name
names_of text s n = up_to (name_at text s) 0 n

-- The first n names that a table of the working array holds; there are no more than it has room for.
unfoldable pub names_in : List ℕ → Table → List ℕ → ℕ → List Name
names_in text t w n = names_of text (rows t (min n (most t)) w) (min n (most t))

abbrev pub facility_names : List ℕ → List ℕ → ℕ → List Name
facility_names text w n = names_in text T.FacilityNames w n

abbrev pub found : R.Option ℕ → Option ℕ
found (R.Some k) = some k
found R.None = none
