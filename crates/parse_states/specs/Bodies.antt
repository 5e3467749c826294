-- What reading the actions of a state and its `/` answers.
use Rattle.std.specs.Prelude.{Bool, true, false, List, [], ◌∷◌, ◌++◌, ◌≡◌, ℕ}
use Rattle.parse_step.specs.declared.State.{State}
use Rattle.parse_step.specs.Course.{Stack, runs}
use Rattle.language.specs.Building.{Built, joined}
use Rattle.language.specs.Declaring.{tree_steps}
use Rattle.language.specs.Machine.{Ask, ask, make, state_action, state_name, state_rest}
use Rattle.language.specs.Naming.{Scope}
use Rattle.language.specs.Tree as T
use Rattle.language.specs.Tree.{Actions}
use Rattle.parse_tables.specs.declared.meaning.KnownNames.{KnownNames}
use Rattle.parse_expressions.specs.Phrases.{after_name}
use Rattle.parse_stores.specs.Actions.{Acts, Standing, Written}
use Rattle.text_words.specs.declared.Word.{Word}
use Rattle.parse_states.specs.Begins.{Stays, Tells, with_list}
use Rattle.parse_states.specs.Heads.{head_built, head_stack}
use Rattle.parse_step.specs.Answers.{Answer}
use Rattle.parse_step.specs.declared.Reached.{Reached}

-- Reading stands where some scope is known.
pub record Stands (text : List ℕ) (n : KnownNames) (w : Word) (s : State) (work : List ℕ) : Type 0 where
  pub scope : Scope
  pub standing : Standing text scope n w s s.actions work

-- Where a state is complete but for the step that makes it.
abbrev pub complete : Stack
complete = make tree_steps.make_state ∷ []

-- ---- Behind an action: from a list t the machine comes to the stack Q with some actions more at its end.

pub record RestRead (text : List ℕ) (sc : Scope) (n : KnownNames) (Q : Stack) (w : Word) (s : State) (work : List ℕ) (next : Word) (state : State) (work' : List ℕ) : Type 0 where
  pub tree : Actions
  pub course : (K : Stack) (b : Built) (t : Actions) → runs text (ask state_rest ∷ K) w (with_list t b) s ≡ runs text (Q ++ K) next (with_list (joined t tree) b) state
  pub written : Written sc tree s work state work'
  pub stays : Stays s state
  pub standing : Standing text sc n next state state.actions work'

abbrev pub Rests : List ℕ → KnownNames → Word → State → List ℕ → List ℕ → Answer → Type 0
Rests text n w s work work' r =
    (sc : Scope) → Standing text sc n w s s.actions work → (t : Actions)
    → Tells text (ask state_rest ∷ []) (with_list t) w s r (λ x. RestRead text sc n complete w s work x.next x.state work')

-- ---- The first action, whose name was taken or not.

abbrev pub first_ask : Bool → Ask
first_ask true = state_name
first_ask false = state_action

abbrev pub first_built : Bool → Word → List ℕ → Built → Built
first_built true name text b = after_name name text b
first_built false name text b = b

abbrev pub Firsts : Bool → Word → List ℕ → KnownNames → Word → State → List ℕ → List ℕ → Answer → Type 0
Firsts named name text n w s work work' r = Acts (ask (first_ask named) ∷ []) (first_built named name) text n w s work work' r

-- ---- The whole.

pub record BodyRead (text : List ℕ) (sc : Scope) (n : KnownNames) (P : Stack) (pre : Built → Built) (w : Word) (s : State) (work work' : List ℕ) (r : Reached) : Type 0 where
  pub tree : Actions
  pub course : (K : Stack) (b : Built) → runs text (P ++ K) w (pre b) s ≡ runs text (complete ++ K) r.next (with_list tree b) r.state
  pub written : Written sc tree s work r.state work'
  pub stays : Stays s r.state
  pub standing : Standing text sc n r.next r.state r.state.actions work'

abbrev pub Tolds : Stack → (Built → Built) → List ℕ → KnownNames → Word → State → List ℕ → List ℕ → Answer → Type 0
Tolds P pre text n w s work work' r =
    (sc : Scope) → Standing text sc n w s s.actions work → Tells text P pre w s r (BodyRead text sc n P pre w s work work')

-- Some actions and the `/`; and the same, or only the `/`.
abbrev pub Lists : Bool → Word → List ℕ → KnownNames → Word → State → List ℕ → List ℕ → Answer → Type 0
Lists named name text n w s work work' r =
    Tolds (ask (first_ask named) ∷ ask state_rest ∷ []) (λ b. first_built named name text (with_list T.done b)) text n w s work work' r

abbrev pub Bodies : Bool → Word → List ℕ → KnownNames → Word → State → List ℕ → List ℕ → Answer → Type 0
Bodies named name text n w s work work' r = Tolds (head_stack named) (head_built named name text) text n w s work work' r
