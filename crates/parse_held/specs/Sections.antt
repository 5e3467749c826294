-- The sections that the working array holds, and the places beside them.
use Rattle.std.specs.Prelude.{List, ◌++◌, ℕ, ◌+◌, ◌*◌, ◌≤◌, min}
use Rattle.image_sections.specs.declared.header.Counts.{Counts}
use Rattle.language.specs.Encode.{Sections, concat}
use Rattle.judge_records.specs.Noted.{Beside}
use Rattle.parse_tables.specs.declared.Table.{Table}
use Rattle.parse_tables.specs.declared.Table.TheVariants as T
use Rattle.parse_tables.specs.Names.{names_of}
use Rattle.parse_tables.specs.Rows.{rows}
use Rattle.parse_array.specs.Held.{held}
use Rattle.parse_array.specs.Layout.{facility_rows, most_actions, most_nodes, operation_rows, state_rows}
use Rattle.parse_held.specs.declared.Holding.{Holding}

-- The array has room for as many.
pub record Few (c : Holding) : Type 0 where
  pub facilities : c.facilities ≤ facility_rows
  pub operations : c.operations ≤ operation_rows
  pub nodes : c.nodes ≤ most_nodes
  pub actions : c.actions ≤ most_actions
  pub states : c.states ≤ state_rows

unfoldable pub within : Holding → Holding
within c = record {
  facilities = min c.facilities facility_rows;
  operations = min c.operations operation_rows;
  nodes = min c.nodes most_nodes;
  actions = min c.actions most_actions;
  states = min c.states state_rows;
}

-- Letters of all names: at most a line's for each.
abbrev pub most_letters : ℕ
most_letters = 132 * (facility_rows + operation_rows + state_rows)

-- What a header counts, with the bytes of names.
abbrev pub counts_held : Holding → ℕ → Counts
counts_held c names = record {
  facilities = c.facilities;
  operations = c.operations;
  expressions = c.nodes;
  actions = c.actions;
  states = c.states;
  names = names;
}

-- The letters of the first n names of a table, one name after the other.
unfoldable pub letters_of : List ℕ → Table → ℕ → List ℕ → List ℕ
letters_of text t n w = concat (λ s. s) (names_of text (rows t n w) n)

-- Those of facilities, operations and states.
unfoldable pub names_held : List ℕ → List ℕ → Holding → List ℕ
names_held text w c =
    letters_of text T.FacilityNames c.facilities w
    ++ (letters_of text T.OperationNames c.operations w ++ letters_of text T.Labels c.states w)

-- The records of all sections.
unfoldable pub records_held : List ℕ → Holding → List ℕ
records_held w c =
    rows T.Facilities c.facilities w
    ++ (rows T.Operations c.operations w
    ++ ((held c.nodes w).nodes ++ (rows T.Actions c.actions w ++ rows T.States c.states w)))

unfoldable pub sections_held : List ℕ → List ℕ → Holding → Sections
sections_held text w c = record {
  facilities = rows T.Facilities c.facilities w;
  operations = rows T.Operations c.operations w;
  expressions = (held c.nodes w).nodes;
  actions = rows T.Actions c.actions w;
  states = rows T.States c.states w;
  names = names_held text w c;
}

unfoldable pub beside_held : List ℕ → Holding → Beside
beside_held w c = record {
  facilities = rows T.FacilityPlaces c.facilities w;
  operations = rows T.OperationPlaces c.operations w;
  expressions = (held c.nodes w).places;
  actions = rows T.ActionPlaces c.actions w;
  states = rows T.StatePlaces c.states w;
}
