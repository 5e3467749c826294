-- The header's thirteen numbers, from how many records the sections have.
use Rattle.std.specs.Prelude.{Bool, false, cond, List, [], ◌∷◌, ℕ, ◌+◌, ◌*◌, eqb, leb, drop, length, take}
use Rattle.language.specs.Decode.{count_of, number_at, pick}
use Rattle.language.specs.Encode.{action_size, actions_section, expressions_section, facilities_section, facility_size, header_size, length_field, name_size, names_section, node_size, operation_size, operations_section, state_size, states_section}
use Rattle.language.specs.RecordBytes.{fours}
use Rattle.language.specs.Scan.{same}
use Rattle.image_sections.specs.declared.header.Counts.{Counts}

-- How many bytes a record of section k has.
abbrev pub size_in : ℕ → ℕ
size_in k =
    pick (eqb k facilities_section) facility_size
    (pick (eqb k operations_section) operation_size
    (pick (eqb k expressions_section) node_size
    (pick (eqb k actions_section) action_size
    (pick (eqb k states_section) state_size name_size))))

unfoldable pub counts_in : List ℕ → Counts
counts_in s = record {
  facilities = count_of facilities_section s;
  operations = count_of operations_section s;
  expressions = count_of expressions_section s;
  actions = count_of actions_section s;
  states = count_of states_section s;
  names = count_of names_section s;
}

-- ---- Where the sections begin, one after the other behind the header.

abbrev pub operations_from : Counts → ℕ
operations_from c = header_size + facility_size * c.facilities

abbrev pub expressions_from : Counts → ℕ
expressions_from c = operations_from c + operation_size * c.operations

abbrev pub actions_from : Counts → ℕ
actions_from c = expressions_from c + node_size * c.expressions

abbrev pub states_from : Counts → ℕ
states_from c = actions_from c + action_size * c.actions

abbrev pub names_from : Counts → ℕ
names_from c = states_from c + state_size * c.states

abbrev pub total_of : Counts → ℕ
total_of c = names_from c + c.names

-- The total length, and the count and the offset of each section.
unfoldable pub header_numbers : Counts → List ℕ
header_numbers c =
    total_of c
    ∷ c.facilities ∷ header_size
    ∷ c.operations ∷ operations_from c
    ∷ c.expressions ∷ expressions_from c
    ∷ c.actions ∷ actions_from c
    ∷ c.states ∷ states_from c
    ∷ c.names ∷ names_from c
    ∷ []

-- The numbers are those for the counts, and the image is as long as they say.
unfoldable pub header_right : List ℕ → Bool
header_right s =
    let c = counts_in s in
    cond (leb (total_of c) (length s)) (cond (eqb (number_at 4 length_field s) (total_of c)) (same (take header_size (drop 0 s)) (fours (header_numbers c))) false) false
