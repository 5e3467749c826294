-- What reading actions answers: the list of actions that the machine builds, and its records behind those that stand.
use Rattle.std.specs.Prelude.{true, List, [], ◌∷◌, ◌++◌, ◌≡◌, ℕ, ◌+◌, ◌*◌, ◌<◌, ◌≤◌, drop, length, Err, Ok}
use Rattle.parse_step.specs.declared.State.{State}
use Rattle.parse_step.specs.declared.Unread.TheVariants as Vd
use Rattle.parse_step.specs.Course.{Seen, Stack, counts_of, runs}
use Rattle.language.specs.Building.{Built, joined, list_no, with_lists}
use Rattle.language.specs.Describe.{NotedAction, actions_in, actions_of, expressions_in, nodes_in}
use Rattle.language.specs.Encode.{action_bytes, concat}
use Rattle.language.specs.Machine.{refused, within_ceilings}
use Rattle.language.specs.Naming.{Scope}
use Rattle.language.specs.Tree.{Actions}
use Rattle.parse_tables.specs.declared.meaning.KnownNames.{KnownNames}
use Rattle.parse_tables.specs.Known.{Known}
use Rattle.judge_records.specs.Noted.{place_bytes}
use Rattle.parse_tables.specs.declared.Table.{Table}
use Rattle.parse_tables.specs.declared.Table.TheVariants as T
use Rattle.parse_tables.specs.Rows.{apart_from, most, rows}
use Rattle.text_words.specs.declared.Fault.{Fault}
use Rattle.text_words.specs.declared.Word.{Word}
use Rattle.text_words.specs.Meaning.{faulted}
use Rattle.parse_array.specs.Held.{Held, held, with_nodes}
use Rattle.parse_array.specs.Layout.{work_size}
use Rattle.parse_step.specs.Answers.{Answer}
use Rattle.parse_step.specs.declared.Reached.{Reached}

-- Where reading actions stands: the look-ahead is a word of the text, the names known are those of the scope, and every expression record and `acts` action records are paid for by what was counted: seven expression records and two action records for each counted word, six expression records for each state.
pub record Standing (text : List ℕ) (sc : Scope) (n : KnownNames) (w : Word) (s : State) (acts : ℕ) (work : List ℕ) : Type 0 where
  pub seen : Seen text w
  pub short : length text < 65536
  pub whole : length work ≡ work_size
  pub within : within_ceilings (counts_of s) ≡ true
  pub known : Known text sc n work
  pub facilities : n.facilities ≡ s.known
  pub nodes : s.nodes ≤ 7 * s.counted + 6 * s.states
  pub actions : acts ≤ 2 * s.counted

-- A list goes to the end of the one that waits.
abbrev pub grown : Actions → Built → Built
grown a b = with_lists b (joined (list_no 0 b) a ∷ drop 1 b.lists)

-- The first n expression records with their places, and nothing else.
unfoldable pub front_of : ℕ → List ℕ → Held
front_of n work = record { nodes = (held n work).nodes; places = (held n work).places; other = [] }

abbrev pub action_records : List NotedAction → List ℕ
action_records xs = concat (λ x. action_bytes x.action) xs

abbrev pub action_besides : List NotedAction → List ℕ
action_besides xs = concat (λ x. place_bytes 0 x.at) xs

-- The tables other than those of actions are as they were.
abbrev pub OthersKept : List ℕ → List ℕ → Type 0
OthersKept work work' = (u : Table) → apart_from u (T.Actions ∷ T.ActionPlaces ∷ []) ≡ true → (m : ℕ) → m ≤ most u → rows u m work' ≡ rows u m work

-- The records of a list stand behind those before it.
pub record Written (sc : Scope) (a : Actions) (s : State) (work : List ℕ) (s' : State) (work' : List ℕ) : Type 0 where
  pub nodes : s'.nodes ≡ s.nodes + expressions_in a
  pub expressions : front_of s'.nodes work' ≡ with_nodes (front_of s.nodes work) (nodes_in sc s.nodes a)
  pub count : s'.actions ≡ s.actions + actions_in a
  pub records : rows T.Actions s'.actions work' ≡ rows T.Actions s.actions work ++ action_records (actions_of sc s.nodes a)
  pub places : rows T.ActionPlaces s'.actions work' ≡ rows T.ActionPlaces s.actions work ++ action_besides (actions_of sc s.nodes a)
  pub tables : OthersKept work work'

-- Other counts are kept. Some action was read, so that of what was counted an action record is left, where `acts` are paid for in the state s.
pub record Paid (s : State) (acts : ℕ) (s' : State) : Type 0 where
  pub facilities : s'.facilities ≡ s.facilities
  pub operations : s'.operations ≡ s.operations
  pub states : s'.states ≡ s.states
  pub known : s'.known ≡ s.known
  pub nesting : s'.nesting ≡ s.nesting
  pub counted : s.counted ≤ s'.counted
  pub nodes : s'.nodes + 7 * s.counted ≤ s.nodes + 7 * s'.counted
  pub actions : s'.actions + 1 + 2 * s.counted ≤ acts + 2 * s'.counted

-- From the stack P and what `pre` makes of what was built the machine comes to the stack Q with some actions more.
pub record ActionsRead (text : List ℕ) (sc : Scope) (n : KnownNames) (P Q : Stack) (pre : Built → Built) (w : Word) (s : State) (work work' : List ℕ) (r : Reached) : Type 0 where
  pub tree : Actions
  pub course : (K : Stack) (b : Built) → runs text (P ++ K) w (pre b) s ≡ runs text (Q ++ K) r.next (grown tree b) r.state
  pub written : Written sc tree s work r.state work'
  pub paid : Paid s s.actions r.state
  pub standing : Standing text sc n r.next r.state r.state.actions work'

-- What was read, or the machine's refusal; there is room for everything.
pub record Reads (text : List ℕ) (sc : Scope) (n : KnownNames) (P Q : Stack) (pre : Built → Built) (w : Word) (s : State) (work work' : List ℕ) (r : Answer) : Type 0 where
  pub done : {r' : Reached} → r ≡ Ok r' → ActionsRead text sc n P Q pre w s work work' r'
  pub refused : (f : Fault) → r ≡ Err (Vd.Refused f) → (K : Stack) (b : Built) → runs text (P ++ K) w (pre b) s ≡ refused (faulted f)
  pub full : {z : State} → r ≡ Err (Vd.Full z) → ⊥

-- Actions by the stack P.
abbrev pub Acts : Stack → (List ℕ → Built → Built) → List ℕ → KnownNames → Word → State → List ℕ → List ℕ → Answer → Type 0
Acts P pre text n w s work work' r =
    (sc : Scope) → Standing text sc n w s s.actions work → Reads text sc n P [] (pre text) w s work work' r
