-- What reading states answers: the trees go to the text, their records to the tables.
use Rattle.std.specs.Prelude.{List, [], ◌∷◌, ◌++◌, ◌⊎◌, ◌≡◌, ℕ, ◌+◌, Err, Ok}
use Rattle.parse_step.specs.declared.State.{State}
use Rattle.parse_step.specs.declared.Unread.TheVariants as Vd
use Rattle.parse_step.specs.Course.{Seen, Stack, kind_no, runs}
use Rattle.language.specs.Building.{Built, with_text}
use Rattle.language.specs.Kinds.{end_word, period}
use Rattle.language.specs.Machine.{ask, dollar_option, parsed, refused, state_start, states_more}
use Rattle.language.specs.Naming.{Scope}
use Rattle.language.specs.Tree as T
use Rattle.language.specs.Tree.{Text}
use Rattle.parse_tables.specs.declared.meaning.KnownNames.{KnownNames}
use Rattle.parse_stores.specs.Actions.{Standing}
use Rattle.text_words.specs.declared.Fault.{Fault}
use Rattle.text_words.specs.declared.Word.{Word}
use Rattle.text_words.specs.Meaning.{faulted}
use Rattle.parse_states.specs.Begins.{Tells, same}
use Rattle.parse_states.specs.Written.{Written}
use Rattle.parse_step.specs.Answers.{Answer}
use Rattle.parse_step.specs.declared.Reached.{Reached}

-- States at the end of those of a text.
abbrev pub more_of : List T.State → Text → Text
more_of ts t = record { registers = t.registers; memories = t.memories; terminals = t.terminals; operations = t.operations; states = t.states ++ ts }

-- From the stack P the machine comes to the stack Q with some states more.
pub record SomeRead (text : List ℕ) (sc : Scope) (n : KnownNames) (l : ℕ) (P Q : Stack) (w : Word) (s : State) (work : List ℕ) (next : Word) (state : State) (work' : List ℕ) : Type 0 where
  pub trees : List T.State
  pub course : (K : Stack) (b : Built) → runs text (P ++ K) w b s ≡ runs text (Q ++ K) next (with_text b (more_of trees b.text)) state
  pub written : Written text sc l trees s work state work'
  pub standing : Standing text sc n next state state.actions work'

-- One state, and it is counted.
abbrev pub One : ℕ → List ℕ → KnownNames → Word → State → List ℕ → List ℕ → Answer → Type 0
One l text n w s work work' r =
    (sc : Scope) → Standing text sc n w s s.actions work
    → Tells text (ask state_start ∷ []) same w s r (λ x. SomeRead text sc n l (ask state_start ∷ []) [] w s work x.next x.state work' × (x.state.states ≡ s.states + 1))

-- ---- The end of the text.

-- From the stack P, with nothing below it, the machine takes the rest of the text.
pub record AllRead (text : List ℕ) (sc : Scope) (n : KnownNames) (l : ℕ) (P : Stack) (w : Word) (s : State) (work work' : List ℕ) (r : Reached) : Type 0 where
  pub trees : List T.State
  pub course : (b : Built) → runs text P w b s ≡ parsed (with_text b (more_of trees b.text))
  pub written : Written text sc l trees s work r.state work'
  pub standing : Standing text sc n r.next r.state r.state.actions work'

pub record Ends (text : List ℕ) (P : Stack) (w : Word) (s : State) (r : Answer) (Read : Reached → Type 0) : Type 0 where
  pub done : {x : Reached} → r ≡ Ok x → Read x
  pub refused : (f : Fault) → r ≡ Err (Vd.Refused f) → (b : Built) → runs text P w b s ≡ refused (faulted f)
  pub full : {z : State} → r ≡ Err (Vd.Full z) → ⊥

-- Nothing more of the text was read than the words that end it.
pub record Ended (text : List ℕ) (P : Stack) (w : Word) (s : State) (r : Reached) : Type 0 where
  pub course : (b : Built) → runs text P w b s ≡ parsed b
  pub state : r.state ≡ s
  pub seen : Seen text r.next

abbrev pub Finish : Stack → List ℕ → Word → State → Answer → Type 0
Finish P text w s r = (sc : Scope) (n : KnownNames) (work : List ℕ) → Standing text sc n w s s.actions work → Ends text P w s r (Ended text P w s)

-- A word behind which the text ends.
abbrev pub Ending : Word → Type 0
Ending w = (kind_no w.kind ≡ period) ⊎ (kind_no w.kind ≡ end_word)

abbrev pub more_stack : Stack
more_stack = ask states_more ∷ ask dollar_option ∷ []

abbrev pub start_stack : Stack
start_stack = ask state_start ∷ more_stack

abbrev pub All : Stack → ℕ → List ℕ → KnownNames → Word → State → List ℕ → List ℕ → Answer → Type 0
All P l text n w s work work' r =
    (sc : Scope) → Standing text sc n w s s.actions work → Ends text P w s r (AllRead text sc n l P w s work work')
