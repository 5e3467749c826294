-- How an operation begins and ends, and what the machine then asks for.
use Rattle.std.specs.Prelude.{true, false, List, [], ◌∷◌, ◌++◌, ◌≡◌, ℕ, suc, ◌-◌, ◌<◌}
use Rattle.parse_actions.specs.Lists.{Told, list_stack}
use Rattle.parse_step.specs.Answers.{Answer}
use Rattle.parse_step.specs.declared.Reached.{Reached}
use Rattle.parse_step.specs.declared.State.{State}
use Rattle.parse_step.specs.Course.{Seen, Stack, counts_of, kind_no, runs}
use Rattle.parse_facilities.specs.Specs.{named_word}
use Rattle.language.specs.Building.{Built, keep_word, with_lists}
use Rattle.language.specs.Declaring.{tree_steps}
use Rattle.language.specs.Kinds.{close_bracket, comma, end_word, equal_sign, open_bracket, period}
use Rattle.language.specs.Machine.{ask, closes, control, dollar_option, level, make, opens, operation_spec, operations_more, state_start, states_more, within_ceilings, word}
use Rattle.language.specs.Naming.{Scope}
use Rattle.language.specs.Tree as T
use Rattle.language.specs.Tree.{Actions}
use Rattle.parse_tables.specs.declared.meaning.KnownNames.{KnownNames}
use Rattle.parse_stores.specs.Actions.{Standing, Written, grown}
use Rattle.text_words.specs.declared.Word.{Word}

-- ---- The name, `=` and `[`.

-- One operation more, and one bracket more that is open.
abbrev pub more_state : State → State
more_state s = record { facilities = s.facilities; operations = suc s.operations; states = s.states; counted = s.counted; nesting = s.nesting; nodes = s.nodes; actions = s.actions; known = s.known }

abbrev pub open_state : State → State
open_state s = record { facilities = s.facilities; operations = suc s.operations; states = s.states; counted = s.counted; nesting = suc s.nesting; nodes = s.nodes; actions = s.actions; known = s.known }

-- What is still to come behind the body, and behind the name.
abbrev pub close_stack : Stack
close_stack = word close_bracket closes ∷ make tree_steps.make_operation ∷ []

abbrev pub body_stack : Stack
body_stack = make tree_steps.begin_body ∷ (list_stack false ++ close_stack)

abbrev pub name_stack : Stack
name_stack = word equal_sign level ∷ word open_bracket opens ∷ body_stack

-- The name is kept, and a list begins.
abbrev pub begun : List ℕ → Word → Built → Built
begun text w b = with_lists (keep_word (named_word text w) b) (T.done ∷ b.lists)

-- The name was taken, which counts the operation.
pub record NameRead (text : List ℕ) (w : Word) (s : State) (r : Reached) : Type 0 where
  pub course : (K : Stack) (b : Built) → runs text (ask operation_spec ∷ K) w b s ≡ runs text (name_stack ++ K) r.next (keep_word (named_word text w) b) r.state
  pub state : r.state ≡ more_state s
  pub room : s.operations < 128
  pub within : within_ceilings (counts_of (more_state s)) ≡ true
  pub seen : Seen text r.next

abbrev pub Names : List ℕ → Word → State → Answer → Type 0
Names text w s r = Seen text w → within_ceilings (counts_of s) ≡ true → Told text (ask operation_spec ∷ []) w s r (NameRead text w s)

-- All before the body was taken.
pub record HeadRead (text : List ℕ) (w : Word) (s : State) (r : Reached) : Type 0 where
  pub course : (K : Stack) (b : Built) → runs text (ask operation_spec ∷ K) w b s ≡ runs text (list_stack false ++ (close_stack ++ K)) r.next (begun text w b) r.state
  pub state : r.state ≡ open_state s
  pub room : s.operations < 128
  pub within : within_ceilings (counts_of (open_state s)) ≡ true
  pub seen : Seen text r.next

abbrev pub Heads : List ℕ → Word → State → Answer → Type 0
Heads text w s r = Seen text w → within_ceilings (counts_of s) ≡ true → Told text (ask operation_spec ∷ []) w s r (HeadRead text w s)

-- ---- The body and `]`.

-- What a body keeps: the bracket before it is closed.
pub record Closed (s s' : State) : Type 0 where
  pub facilities : s'.facilities ≡ s.facilities
  pub operations : s'.operations ≡ s.operations
  pub states : s'.states ≡ s.states
  pub known : s'.known ≡ s.known
  pub nesting : s'.nesting ≡ s.nesting - 1

pub record BodyRead (text : List ℕ) (sc : Scope) (n : KnownNames) (w : Word) (s : State) (work work' : List ℕ) (r : Reached) : Type 0 where
  pub tree : Actions
  pub course : (K : Stack) (b : Built) → runs text (list_stack false ++ (word close_bracket closes ∷ K)) w b s ≡ runs text K r.next (grown tree b) r.state
  pub written : Written sc tree s work r.state work'
  pub closed : Closed s r.state
  pub standing : Standing text sc n r.next r.state r.state.actions work'

abbrev pub Body : List ℕ → KnownNames → Word → State → List ℕ → List ℕ → Answer → Type 0
Body text n w s work work' r =
    (sc : Scope) → Standing text sc n w s s.actions work → Told text (list_stack false ++ word close_bracket closes ∷ []) w s r (BodyRead text sc n w s work work')

-- ---- The end of the section.

-- States come.
abbrev pub control_stack : Stack
control_stack = ask state_start ∷ ask states_more ∷ ask dollar_option ∷ []

pub record ControlRead (text : List ℕ) (P : Stack) (w : Word) (s : State) (r : Reached) : Type 0 where
  pub course : (K : Stack) (b : Built) → runs text (P ++ K) w b s ≡ runs text (control_stack ++ K) r.next b r.state
  pub state : r.state ≡ s
  pub seen : Seen text r.next

-- CONTROL must come.
abbrev pub Controls : List ℕ → Word → State → Answer → Type 0
Controls text w s r = Seen text w → Told text (ask control ∷ []) w s r (ControlRead text (ask control ∷ []) w s)

-- A period or END.
pub data Ending : ℕ → Type 0 where
  at_period : Ending period
  at_end : Ending end_word

-- And CONTROL behind it.
abbrev pub Shuts : List ℕ → Word → State → Answer → Type 0
Shuts text w s r =
    Seen text w → (k : ℕ) → Ending k → kind_no w.kind ≡ k → Told text (ask operations_more ∷ []) w s r (ControlRead text (ask operations_more ∷ []) w s)

-- No comma follows.
abbrev pub Ends : List ℕ → Word → State → Answer → Type 0
Ends text w s r = Seen text w → (kind_no w.kind ≡ comma → ⊥) → Told text (ask operations_more ∷ []) w s r (ControlRead text (ask operations_more ∷ []) w s)
