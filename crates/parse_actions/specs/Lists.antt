-- What reading lists of actions and conditionals answers.
use Rattle.std.specs.Prelude.{Bool, true, false, List, [], ◌∷◌, ◌++◌, ◌≡◌, ℕ, suc, ◌+◌, ◌-◌, ◌*◌, ◌≤◌, Err, Ok, Result}
use Rattle.parse_step.specs.declared.State.{State}
use Rattle.parse_step.specs.declared.Unread.TheVariants as Vd
use Rattle.parse_step.specs.Course.{Stack, kind_no, runs}
use Rattle.parse_step.specs.Says.{pushed}
use Rattle.language.specs.Building.{Built, joined, keep_word, with_lists}
use Rattle.language.specs.Declaring.{tree_steps}
use Rattle.language.specs.Describe.{act, arms_in, expression_size, nodes_of}
use Rattle.language.specs.Description as D
use Rattle.language.specs.Encode.{action_bytes}
use Rattle.language.specs.Kinds.{a_name, case_word, comma, do_word, end_case_word, end_if_word, if_word}
use Rattle.language.specs.Machine.{Ask, ask, closes, make, operation_action, operation_arms, operation_if_rest, operation_more, operation_name, refused, state_action, state_arms, state_if_rest, state_more, state_name, word}
use Rattle.language.specs.Naming.{Scope}
use Rattle.language.specs.Tree as T
use Rattle.language.specs.Tree.{Actions, Expression}
use Rattle.language.specs.Words as L
use Rattle.parse_tables.specs.declared.meaning.KnownNames.{KnownNames}
use Rattle.judge_records.specs.Noted.{place_bytes}
use Rattle.parse_expressions.specs.Phrases.{choice_word, same}
use Rattle.parse_stores.specs.Actions.{Acts, Paid, Reads, Standing, Written, grown}
use Rattle.parse_tables.specs.declared.Table.TheVariants as Tb
use Rattle.parse_tables.specs.Rows.{Wrote}
use Rattle.text_words.specs.declared.Fault.{Fault}
use Rattle.text_words.specs.declared.Position.{Position}
use Rattle.text_words.specs.declared.Word.{Word}
use Rattle.text_words.specs.Meaning.{faulted, positioned}
use Rattle.parse_expressions.specs.declared.pieces.Armed.{Armed}
use Rattle.parse_actions.specs.Laid.{Laid}
use Rattle.parse_step.specs.Answers.{Answer}
use Rattle.parse_step.specs.declared.Reached.{Reached}
use Rattle.parse_step.specs.declared.Unread.{Unread}

-- ---- The machine's notions, in an operation or in a state.

abbrev pub action_ask : Bool → Ask
action_ask false = operation_action
action_ask true = state_action

abbrev pub more_ask : Bool → Ask
more_ask false = operation_more
more_ask true = state_more

abbrev pub rest_ask : Bool → Ask
rest_ask false = operation_if_rest
rest_ask true = state_if_rest

abbrev pub arms_ask : Bool → Ask
arms_ask false = operation_arms
arms_ask true = state_arms

abbrev pub name_ask : Bool → Ask
name_ask false = operation_name
name_ask true = state_name

-- A list; a list of its own; an arm of CASE and those behind it.
abbrev pub list_stack : Bool → Stack
list_stack q = ask (action_ask q) ∷ ask (more_ask q) ∷ []

abbrev pub own_stack : Bool → Stack
own_stack q = make tree_steps.begin_arm ∷ list_stack q

abbrev pub arm_stack : Bool → Stack
arm_stack q = own_stack q ++ make tree_steps.make_arm ∷ ask (arms_ask q) ∷ []

-- ---- Answers.

-- What was read, or the machine's refusal; there is room for everything.
pub record Told {A : Type 0} (text : List ℕ) (P : Stack) (w : Word) (s : State) (a : Result A Unread) (Read : A → Type 0) : Type 0 where
  pub done : {x : A} → a ≡ Ok x → Read x
  pub refused : (f : Fault) → a ≡ Err (Vd.Refused f) → (K : Stack) (b : Built) → runs text (P ++ K) w b s ≡ refused (faulted f)
  pub full : {z : State} → a ≡ Err (Vd.Full z) → ⊥

-- A comma and the action behind it.
abbrev pub Another : Bool → List ℕ → KnownNames → Word → State → List ℕ → List ℕ → Answer → Type 0
Another q text n w s work work' r =
    kind_no w.kind ≡ comma → (sc : Scope) → Standing text sc n w s s.actions work → Reads text sc n (ask (more_ask q) ∷ []) (ask (more_ask q) ∷ []) (same text) w s work work' r

-- ---- Arms. An arm's own record is paid for beforehand.

-- From the stack P to the stack Q with a list of its own, and the records of an arm that holds it.
pub record ArmRead (P Q : Stack) (text : List ℕ) (sc : Scope) (n : KnownNames) (w : Word) (s : State) (work work' : List ℕ) (r : Reached) : Type 0 where
  pub tree : Actions
  pub course : (K : Stack) (b : Built) → runs text (P ++ K) w b s ≡ runs text (Q ++ K) r.next (with_lists b (tree ∷ b.lists)) r.state
  pub written : Written sc (T.arm tree T.done) s work r.state work'
  pub paid : Paid s (s.actions + 1) r.state
  pub standing : Standing text sc n r.next r.state r.state.actions work'

abbrev pub Arm : Bool → List ℕ → KnownNames → Word → State → List ℕ → List ℕ → Answer → Type 0
Arm q text n w s work work' r =
    (sc : Scope) → Standing text sc n w s (s.actions + 1) work → Told text (own_stack q) w s r (ArmRead (own_stack q) [] text sc n w s work work')

-- ELSE and its list; the end of the conditional is still to come.
abbrev pub else_stack : Stack
else_stack = word end_if_word closes ∷ make tree_steps.make_if ∷ []

abbrev pub Else : Bool → List ℕ → KnownNames → Word → State → List ℕ → List ℕ → Answer → Type 0
Else q text n w s work work' r =
    (kind_no w.kind ≡ end_if_word → ⊥) → (sc : Scope) → Standing text sc n w s (s.actions + 1) work
    → Told text (ask (rest_ask q) ∷ []) w s r (ArmRead (ask (rest_ask q) ∷ []) else_stack text sc n w s work work')

-- From the stack P to the stack Q with k arms more.
pub record ArmsRead (k : ℕ) (P Q : Stack) (text : List ℕ) (sc : Scope) (n : KnownNames) (w : Word) (s : State) (work work' : List ℕ) (r : Reached) : Type 0 where
  pub tree : Actions
  pub arms : (t : Actions) → arms_in (joined tree t) ≡ k + arms_in t
  pub counted : s.counted + k ≤ r.state.counted
  pub course : (K : Stack) (b : Built) → runs text (P ++ K) w b s ≡ runs text (Q ++ K) r.next (grown tree b) r.state
  pub written : Written sc tree s work r.state work'
  pub paid : Paid s (s.actions + 1) r.state
  pub standing : Standing text sc n r.next r.state r.state.actions work'

abbrev pub NextArm : Bool → List ℕ → KnownNames → Word → State → List ℕ → List ℕ → Answer → Type 0
NextArm q text n w s work work' r =
    kind_no w.kind ≡ do_word → (sc : Scope) → Standing text sc n w s (s.actions + 1) work
    → Told text (ask (arms_ask q) ∷ []) w s r (ArmsRead 1 (ask (arms_ask q) ∷ []) (ask (arms_ask q) ∷ []) text sc n w s work work')

abbrev pub Arms : Bool → List ℕ → KnownNames → Word → State → List ℕ → List ℕ → Result Armed Unread → Type 0
Arms q text n w s work work' r =
    (sc : Scope) → Standing text sc n w s (s.actions + 1) work
    → Told text (arm_stack q) w s r (λ a. ArmsRead a.count (arm_stack q) [] text sc n w s work work' a.reached)

-- An action that begins with a name.
abbrev pub Named : Bool → List ℕ → KnownNames → Word → State → List ℕ → List ℕ → Answer → Type 0
Named q text n w s work work' r = kind_no w.kind ≡ a_name → Acts (ask (action_ask q) ∷ []) same text n w s work work' r

-- An action of a state that begins with no name and is no conditional.
abbrev pub Signed : List ℕ → KnownNames → Word → State → List ℕ → List ℕ → Answer → Type 0
Signed text n w s work work' r =
    (kind_no w.kind ≡ a_name → ⊥) → (kind_no w.kind ≡ if_word → ⊥) → (kind_no w.kind ≡ case_word → ⊥) → Acts (ask state_action ∷ []) same text n w s work work' r

-- An action that is no conditional.
abbrev pub Plain : Bool → List ℕ → KnownNames → Word → State → List ℕ → List ℕ → Answer → Type 0
Plain q text n w s work work' r =
    (kind_no w.kind ≡ if_word → ⊥) → (kind_no w.kind ≡ case_word → ⊥) → Acts (ask (action_ask q) ∷ []) same text n w s work work' r

-- ---- Conditionals.

-- What is still to come behind the word before the first arm.
abbrev pub branch_stack : Bool → Bool → Stack
branch_stack q false = own_stack q ++ ask (rest_ask q) ∷ []
branch_stack q true = arm_stack q ++ word end_case_word closes ∷ make tree_steps.make_choose ∷ []

-- CASE begins a list for its arms.
abbrev pub branching : Bool → Built → Built
branching false b = b
branching true b = with_lists b (T.done ∷ b.lists)

abbrev pub sign_of : Bool → Word → L.Word
sign_of case w = L.sign (choice_word case) (positioned w.at)

-- What is counted and open behind a condition.
pub record Entered (s s' : State) : Type 0 where
  pub facilities : s'.facilities ≡ s.facilities
  pub operations : s'.operations ≡ s.operations
  pub states : s'.states ≡ s.states
  pub known : s'.known ≡ s.known
  pub nesting : s'.nesting ≡ suc s.nesting
  pub counted : s.counted + 1 ≤ s'.counted
  pub nodes : s'.nodes + 7 * s.counted ≤ s.nodes + 7 * s'.counted

-- A conditional up to its first arm. Its own record is still to be written again; that of an arm is paid for besides.
pub record ConditionRead (case : Bool) (text : List ℕ) (sc : Scope) (n : KnownNames) (w : Word) (s : State) (work work' : List ℕ) (r : Reached) : Type 0 where
  pub tree : Expression
  pub course : (q : Bool) (K : Stack) (b : Built) → runs text (ask (action_ask q) ∷ K) w b s ≡ runs text (branch_stack q case ++ K) r.next (branching case (pushed tree (keep_word (sign_of case w) b))) r.state
  pub laid : Laid (expression_size tree) (nodes_of sc s.nodes tree) 1 (act D.Action.broken (positioned w.at) ∷ []) s work r.state work'
  pub entered : Entered s r.state
  pub standing : Standing text sc n r.next r.state (r.state.actions + 1) work'

abbrev pub Condition : Bool → List ℕ → KnownNames → Word → State → List ℕ → List ℕ → Answer → Type 0
Condition case text n w s work work' r =
    kind_no w.kind ≡ choice_word case → (q : Bool) (sc : Scope) → Standing text sc n w s s.actions work → Told text (ask (action_ask q) ∷ []) w s r (ConditionRead case text sc n w s work work')

-- One more is open, and not too many.
abbrev pub Deeper : State → Answer → Type 0
Deeper s r = (r' : Reached) → r ≡ Ok r' → (r'.state.nesting ≡ suc s.nesting) × (r'.state.nesting ≤ 24)

abbrev pub Conditional : Bool → Bool → List ℕ → KnownNames → Word → State → List ℕ → List ℕ → Answer → Type 0
Conditional q case text n w s work work' r =
    kind_no w.kind ≡ choice_word case → Acts (ask (action_ask q) ∷ []) same text n w s work work' r

-- ---- Records.

-- The record of IF, and the place of its arm, which is that of IF.
pub record OneBranch (acts arm condition count : ℕ) (at : Position) (work work' : List ℕ) : Type 0 where
  pub between : List ℕ
  pub again : Wrote Tb.Actions acts (action_bytes (D.when condition (count - acts - 1))) work between
  pub place : Wrote Tb.ActionPlaces arm (place_bytes 0 (positioned at)) between work'
