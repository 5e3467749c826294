-- The records, places and labels of states behind those that stand.
use Rattle.std.specs.Prelude.{true, List, [], ◌∷◌, ◌++◌, map, ◌≡◌, ℕ, ◌+◌, ◌≤◌, length}
use Rattle.parse_step.specs.declared.State.{State}
use Rattle.image_sections.specs.declared.runs.Run.{Run}
use Rattle.image_sections.specs.Declarations.{run_meant, value_meant}
use Rattle.language.specs.Describe.{actions_in}
use Rattle.language.specs.DescribeText.{expressions_of_state, label_of, state_actions, state_nodes, states_of, value_place}
use Rattle.language.specs.Encode.{concat, state_record}
use Rattle.language.specs.Naming.{Scope}
use Rattle.language.specs.Tree as T
use Rattle.language.specs.Tree.{Name}
use Rattle.judge_records.specs.Noted.{state_beside_bytes}
use Rattle.parse_stores.specs.Actions.{action_besides, action_records, front_of}
use Rattle.parse_tables.specs.declared.Table.{Table}
use Rattle.parse_tables.specs.declared.Table.TheVariants as Tb
use Rattle.parse_tables.specs.Names.{name_row, names_of}
use Rattle.parse_tables.specs.Rows.{Kept, apart_from, most, rows}
use Rattle.text_words.specs.Meaning.{positioned}
use Rattle.parse_array.specs.Held.{with_nodes}
use Rattle.parse_array.specs.Layout.{work_size}
use Rattle.parse_states.specs.Begins.{length_of}
use Rattle.parse_states.specs.declared.Head.{Head}

-- Expression records and action records of states.
unfoldable pub states_size : ℕ → List T.State → ℕ
states_size l [] = 0
states_size l (t ∷ ts) = expressions_of_state (length_of l) t + states_size l ts

unfoldable pub states_actions : List T.State → ℕ
states_actions [] = 0
states_actions (t ∷ ts) = actions_in t.actions + states_actions ts

abbrev pub state_beside : T.State → List ℕ
state_beside t = state_beside_bytes (record { at = t.at; value = value_place t.value })

abbrev pub labels_of : List T.State → List Name
labels_of ts = map (λ t. label_of t.label) ts

-- The tables other than those of actions, states and labels are as they were.
abbrev pub OthersKept : List ℕ → List ℕ → Type 0
OthersKept work work' =
    (u : Table) → apart_from u (Tb.Actions ∷ Tb.ActionPlaces ∷ Tb.States ∷ Tb.StatePlaces ∷ Tb.Labels ∷ []) ≡ true → (m : ℕ) → m ≤ most u → rows u m work' ≡ rows u m work

pub record Written (text : List ℕ) (sc : Scope) (l : ℕ) (ts : List T.State) (s : State) (work : List ℕ) (s' : State) (work' : List ℕ) : Type 0 where
  pub nodes : s'.nodes ≡ s.nodes + states_size l ts
  pub expressions : front_of s'.nodes work' ≡ with_nodes (front_of s.nodes work) (state_nodes (length_of l) sc s.nodes ts)
  pub count : s'.actions ≡ s.actions + states_actions ts
  pub actions : rows Tb.Actions s'.actions work' ≡ rows Tb.Actions s.actions work ++ action_records (state_actions (length_of l) sc s.nodes ts)
  pub action_places : rows Tb.ActionPlaces s'.actions work' ≡ rows Tb.ActionPlaces s.actions work ++ action_besides (state_actions (length_of l) sc s.nodes ts)
  pub number : s'.states ≡ s.states + length ts
  pub records : rows Tb.States s'.states work' ≡ rows Tb.States s.states work ++ concat state_record (states_of (length_of l) s.nodes s.actions ts)
  pub places : rows Tb.StatePlaces s'.states work' ≡ rows Tb.StatePlaces s.states work ++ concat state_beside ts
  pub labels : names_of text (rows Tb.Labels s'.states work') s'.states ≡ names_of text (rows Tb.Labels s.states work) s.states ++ labels_of ts
  pub tables : OthersKept work work'

-- State n was added to its tables, with its label.
pub record Closed (n : ℕ) (x : Head) (actions : Run) (work work' : List ℕ) : Type 0 where
  pub whole : length work' ≡ work_size
  pub records : (name : Name) → length name ≡ x.size → rows Tb.States (n + 1) work' ≡ rows Tb.States n work ++ state_record (record { name = name; value = value_meant x.value; actions = run_meant actions })
  pub places : rows Tb.StatePlaces (n + 1) work' ≡ rows Tb.StatePlaces n work ++ state_beside_bytes (record { at = positioned x.at; value = positioned x.spot })
  pub labels : rows Tb.Labels (n + 1) work' ≡ rows Tb.Labels n work ++ name_row x.at.place x.size
  pub kept : Kept (Tb.Labels ∷ Tb.States ∷ Tb.StatePlaces ∷ []) work work'
