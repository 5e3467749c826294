-- The tables of the working array behind the expressions: rows of records of one size, one table behind the other.
use Rattle.std.specs.Prelude.{Bool, true, false, cond, List, [], ◌∷◌, ◌++◌, ◌≡◌, ℕ, ◌+◌, ◌*◌, ◌<◌, ◌≤◌, leb, drop, length, take}
use Rattle.image_records.specs.Placed.{placed}
use Rattle.judge_records.specs.Noted.{action_beside, facility_beside, operation_beside, state_beside}
use Rattle.language.specs.Encode.{action_size, facility_size, operation_size, state_size}
use Rattle.parse_array.specs.Layout.{action_places_from, facilities_from, facility_names_from, facility_places_from, facility_rows, labels_from, most_actions, name_size, operation_names_from, operation_places_from, operation_rows, operations_from, other_from, state_places_from, state_rows, states_from, work_size}
use Rattle.parse_tables.specs.declared.Table.{Table}
use Rattle.parse_tables.specs.declared.Table.TheVariants as T

-- Bytes of a record.
abbrev pub size : Table → ℕ
size T.Actions = action_size
size T.ActionPlaces = action_beside
size T.Facilities = facility_size
size T.FacilityPlaces = facility_beside
size T.Operations = operation_size
size T.OperationPlaces = operation_beside
size T.States = state_size
size T.StatePlaces = state_beside
size T.FacilityNames = name_size
size T.OperationNames = name_size
size T.Labels = name_size

-- How many there is room for.
abbrev pub most : Table → ℕ
most T.Actions = most_actions
most T.ActionPlaces = most_actions
most T.Facilities = facility_rows
most T.FacilityPlaces = facility_rows
most T.Operations = operation_rows
most T.OperationPlaces = operation_rows
most T.States = state_rows
most T.StatePlaces = state_rows
most T.FacilityNames = facility_rows
most T.OperationNames = operation_rows
most T.Labels = state_rows

-- Where a table begins.
abbrev pub from : Table → ℕ
from T.Actions = other_from
from T.ActionPlaces = action_places_from
from T.Facilities = facilities_from
from T.FacilityPlaces = facility_places_from
from T.Operations = operations_from
from T.OperationPlaces = operation_places_from
from T.States = states_from
from T.StatePlaces = state_places_from
from T.FacilityNames = facility_names_from
from T.OperationNames = operation_names_from
from T.Labels = labels_from

-- The bytes of the first n records.
unfoldable pub rows : Table → ℕ → List ℕ → List ℕ
rows t n w = take (size t * n) (drop (from t) w)

-- All before the tables.
unfoldable pub expressions : List ℕ → List ℕ
expressions w = take other_from w

-- Two tables have no byte in common.
abbrev pub apart : Table → Table → Bool
apart t u = cond (leb (from t + size t * most t) (from u)) true (leb (from u + size u * most u) (from t))

-- A table has no byte in common with any of some.
abbrev pub apart_from : Table → List Table → Bool
apart_from t [] = true
apart_from t (u ∷ us) = cond (apart t u) (apart_from t us) false

-- Nothing but these tables changed.
pub record Kept (ts : List Table) (w w' : List ℕ) : Type 0 where
  pub tables : (u : Table) → apart_from u ts ≡ true → (m : ℕ) → m ≤ most u → rows u m w' ≡ rows u m w
  pub front : expressions w' ≡ expressions w

-- Record n of a table was written: behind those before it, or in the place of the one that was there.
pub record Wrote (t : Table) (n : ℕ) (bs w w' : List ℕ) : Type 0 where
  pub whole : length w ≡ work_size
  pub still : length w' ≡ work_size
  pub behind : rows t (n + 1) w' ≡ rows t n w ++ bs
  pub instead : (m : ℕ) → n < m → m ≤ most t → rows t m w' ≡ placed (rows t m w) (size t * n) bs
  pub kept : Kept (t ∷ []) w w'
