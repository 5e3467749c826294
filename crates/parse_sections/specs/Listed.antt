-- The operations declared so far, as the working array holds them.
use Rattle.std.specs.Prelude.{true, List, [], ◌∷◌, map, ◌≡◌, ℕ, ◌+◌, ◌*◌, ◌<◌, ◌≤◌, length}
use Rattle.parse_step.specs.declared.State.{State}
use Rattle.parse_step.specs.Course.{Seen, counts_of}
use Rattle.language.specs.DescribeText.{operation_actions, operation_expressions, operation_nodes, operation_records, operations_of}
use Rattle.language.specs.Encode.{concat, operation_record}
use Rattle.language.specs.Machine.{within_ceilings}
use Rattle.language.specs.Tree.{Name, Operation}
use Rattle.judge_records.specs.Noted.{place_bytes}
use Rattle.parse_stores.specs.Actions.{action_besides, action_records, front_of}
use Rattle.parse_tables.specs.declared.Table.{Table}
use Rattle.parse_tables.specs.declared.Table.TheVariants as T
use Rattle.parse_tables.specs.Names.{facility_names, names_of}
use Rattle.parse_tables.specs.Rows.{apart_from, most, rows}
use Rattle.text_words.specs.declared.Word.{Word}
use Rattle.parse_array.specs.Held.{Held, with_nodes}
use Rattle.parse_array.specs.Layout.{work_size}

-- The bytes of their places.
abbrev pub besides : List Operation → List ℕ
besides os = concat (λ o. place_bytes 0 o.at) os

-- The tables of operations hold os, which are n in number.
pub record Tabled (text : List ℕ) (os : List Operation) (n : ℕ) (work : List ℕ) : Type 0 where
  pub count : n ≡ length os
  pub records : rows T.Operations n work ≡ concat operation_record (operations_of 0 os)
  pub places : rows T.OperationPlaces n work ≡ besides os
  pub names : names_of text (rows T.OperationNames n work) n ≡ map (λ o. o.name) os

-- The actions of os and their expressions are written; the facilities are `names`, and before the operations there were `first` expression records, which h has.
pub record Bodies (names : List Name) (first : ℕ) (h : Held) (os : List Operation) (n acts : ℕ) (work : List ℕ) : Type 0 where
  pub count : acts ≡ operation_records os
  pub records : rows T.Actions acts work ≡ action_records (operation_actions names [] first os)
  pub places : rows T.ActionPlaces acts work ≡ action_besides (operation_actions names [] first os)
  pub nodes : n ≡ first + operation_expressions os
  pub expressions : front_of n work ≡ with_nodes h (operation_nodes names [] first os)

-- Where reading operations stands: behind os. Every record is paid for by what was counted.
pub record Standing (text : List ℕ) (names : List Name) (first : ℕ) (h : Held) (os : List Operation) (w : Word) (s : State) (work : List ℕ) : Type 0 where
  pub seen : Seen text w
  pub short : length text < 65536
  pub whole : length work ≡ work_size
  pub within : within_ceilings (counts_of s) ≡ true
  pub known : names ≡ facility_names text work s.known
  pub states : s.states ≡ 0
  pub nodes : s.nodes ≤ 7 * s.counted
  pub actions : s.actions ≤ 2 * s.counted
  pub tabled : Tabled text os s.operations work
  pub bodies : Bodies names first h os s.nodes s.actions work

-- The tables other than those of operations and actions are as they were.
abbrev pub TablesKept : List ℕ → List ℕ → Type 0
TablesKept work work' =
    (u : Table) → apart_from u (T.Actions ∷ T.ActionPlaces ∷ T.Operations ∷ T.OperationPlaces ∷ T.OperationNames ∷ []) ≡ true → (m : ℕ) → m ≤ most u → rows u m work' ≡ rows u m work

-- Counts that reading operations keeps.
pub record Stays (s s' : State) : Type 0 where
  pub facilities : s'.facilities ≡ s.facilities
  pub states : s'.states ≡ s.states
  pub nesting : s'.nesting ≡ s.nesting
  pub known : s'.known ≡ s.known
