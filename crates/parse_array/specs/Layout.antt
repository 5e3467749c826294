-- Where everything stands in the working array: the records of the expressions, the places of their words, and the tables of the other sections, one behind the other.
use Rattle.std.specs.Prelude.{ℕ, ◌+◌, ◌*◌}
use Rattle.language.specs.Encode.{action_size, facility_size, node_size, operation_size, state_size}
use Rattle.judge_records.specs.Noted.{action_beside, facility_beside, node_beside, operation_beside, state_beside}

-- ---- How many of each there is room for.

abbrev pub most_nodes : ℕ
most_nodes = 15888

abbrev pub most_actions : ℕ
most_actions = 4352

abbrev pub facility_rows : ℕ
facility_rows = 256

abbrev pub operation_rows : ℕ
operation_rows = 128

abbrev pub state_rows : ℕ
state_rows = 256

-- Bytes of a name: the place and the size of the word that declares it.
abbrev pub name_size : ℕ
name_size = 4

-- ---- Where the places of the expressions begin, and each table.

abbrev pub places_from : ℕ
places_from = node_size * most_nodes

abbrev pub other_from : ℕ
other_from = places_from + node_beside * most_nodes

abbrev pub action_places_from : ℕ
action_places_from = other_from + action_size * most_actions

abbrev pub facilities_from : ℕ
facilities_from = action_places_from + action_beside * most_actions

abbrev pub facility_places_from : ℕ
facility_places_from = facilities_from + facility_size * facility_rows

abbrev pub operations_from : ℕ
operations_from = facility_places_from + facility_beside * facility_rows

abbrev pub operation_places_from : ℕ
operation_places_from = operations_from + operation_size * operation_rows

abbrev pub states_from : ℕ
states_from = operation_places_from + operation_beside * operation_rows

abbrev pub state_places_from : ℕ
state_places_from = states_from + state_size * state_rows

abbrev pub facility_names_from : ℕ
facility_names_from = state_places_from + state_beside * state_rows

abbrev pub operation_names_from : ℕ
operation_names_from = facility_names_from + name_size * facility_rows

abbrev pub labels_from : ℕ
labels_from = operation_names_from + name_size * operation_rows

abbrev pub work_size : ℕ
work_size = labels_from + name_size * state_rows
