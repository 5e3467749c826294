-- What reading the head of a state answers: its label and value, and whether its first action's name was taken.
use Rattle.std.specs.Prelude.{Bool, true, false, List, [], ◌∷◌, ◌++◌, ◌≡◌, ℕ, ◌+◌, ◌*◌, ◌<◌, ◌≤◌, length, Err, Ok, Result}
use Rattle.parse_step.specs.declared.State.{State}
use Rattle.parse_step.specs.declared.Unread.TheVariants as Vd
use Rattle.parse_step.specs.Course.{Seen, Stack, counts_of, kind_no, runs}
use Rattle.parse_step.specs.Taken.{constant_word}
use Rattle.std.specs.Prelude as Sv
use Rattle.image_sections.specs.Declarations.{value_meant}
use Rattle.language.specs.Building.{Built, keep_word}
use Rattle.language.specs.Declaring.{tree_steps}
use Rattle.language.specs.Description.{nowhere}
use Rattle.language.specs.DescribeText.{label_of, state_constant, value_nodes, value_number, value_place, value_size}
use Rattle.language.specs.Kinds.{a_constant, a_name, call_sign, case_word, goto_sign, if_word, open_paren, return_word, slash}
use Rattle.language.specs.Machine.{ask, first_name, make, refused, state_body, state_name, state_rest, state_start, within_ceilings}
use Rattle.language.specs.Naming.{Scope}
use Rattle.language.specs.Scan.{written}
use Rattle.language.specs.Tree as T
use Rattle.parse_tables.specs.declared.meaning.KnownNames.{KnownNames}
use Rattle.parse_expressions.specs.Phrases.{after_name, stayed}
use Rattle.parse_stores.specs.Actions.{Standing, front_of}
use Rattle.value_operators.specs.Meaning.{valued}
use Rattle.text_words.specs.declared.Fault.{Fault}
use Rattle.text_words.specs.declared.Position.{Position}
use Rattle.text_words.specs.declared.Word.{Word}
use Rattle.text_words.specs.Meaning.{faulted, positioned}
use Rattle.parse_array.specs.Held.{other_in, with_nodes}
use Rattle.parse_array.specs.Names.{letters}
use Rattle.parse_states.specs.Begins.{Stays, Tells, length_of, more_states, opened, same, with_list}
use Rattle.parse_states.specs.declared.Begun.{Begun}
use Rattle.parse_states.specs.declared.Head.{Head}
use Rattle.parse_states.specs.declared.heads.Bracketed.{Bracketed}
use Rattle.parse_step.specs.Answers.{Answer}
use Rattle.parse_step.specs.declared.Reached.{Reached}
use Rattle.parse_step.specs.declared.Unread.{Unread}

-- The words that a state may begin with.
abbrev pub state_kinds : List ℕ
state_kinds = a_name ∷ slash ∷ goto_sign ∷ call_sign ∷ return_word ∷ if_word ∷ case_word ∷ []

-- A state is counted at its first word, which is not yet taken.
pub record Counted (w : Word) (s : State) (r : Answer) : Type 0 where
  pub done : {r' : Reached} → r ≡ Ok r' → (r' ≡ stayed (more_states s) w) × (s.states < 256)
  pub refused : (f : Fault) → r ≡ Err (Vd.Refused f) → (text : List ℕ) → Seen text w → within_ceilings (counts_of s) ≡ true → (K : Stack) (b : Built) → runs text (ask state_start ∷ K) w b s ≡ refused (faulted f)
  pub full : {z : State} → r ≡ Err (Vd.Full z) → ⊥

-- ---- A value in parentheses, and the colon behind it.

pub record BracketsRead (text : List ℕ) (w : Word) (s : State) (r : Bracketed) : Type 0 where
  pub course : (K : Stack) (b : Built) → runs text (ask first_name ∷ ask state_rest ∷ K) w b s ≡ runs text (make tree_steps.begin_valued ∷ ask state_body ∷ K) r.reached.next (keep_word (constant_word r.constant) b) r.reached.state
  pub state : r.reached.state ≡ s
  pub kind : kind_no r.constant.kind ≡ a_constant
  pub constant : Seen text r.constant
  pub seen : Seen text r.reached.next

abbrev pub Brackets : List ℕ → Word → State → Result Bracketed Unread → Type 0
Brackets text w s r =
    kind_no w.kind ≡ open_paren → Seen text w → Tells text (ask first_name ∷ ask state_rest ∷ []) same w s r (BracketsRead text w s)

-- A word with the value that a constant gives a state.
pub record Stated (l : ℕ) (w r : Word) : Type 0 where
  pub value : valued r.value ≡ state_constant (length_of l) (written w.bare (valued w.value))
  pub place : r.at ≡ w.at

-- ---- The head.

-- The code's head says what the tree does; the number of the value's first record is `base`.
pub record Says (text : List ℕ) (l base : ℕ) (t : T.State) (x : Head) : Type 0 where
  pub at : t.at ≡ positioned x.at
  pub label : label_of t.label ≡ letters text x.at.place x.size
  pub length : length (label_of t.label) ≡ x.size
  pub value : value_number base (length_of l) t.value ≡ value_meant x.value
  pub spot : value_place t.value ≡ positioned x.spot
  pub near : x.at.place < 65536
  pub short : x.size < 65536

-- A head without a value.
pub record PlainHead (p : Position) (k : ℕ) (x : Head) : Type 0 where
  pub at : x.at ≡ p
  pub size : x.size ≡ k
  pub value : x.value ≡ Sv.None
  pub spot : positioned x.spot ≡ nowhere

-- What comes behind a head, where the first action's name was taken and where not.
abbrev pub head_stack : Bool → Stack
head_stack true = ask state_name ∷ ask state_rest ∷ []
head_stack false = ask state_body ∷ []

abbrev pub head_built : Bool → Word → List ℕ → Built → Built
head_built true name text b = after_name name text (with_list T.done b)
head_built false name text b = b

-- From the stack P in the state s the machine comes to the head's end; s₁ is the state with this one counted.
pub record HeadRead (text : List ℕ) (sc : Scope) (n : KnownNames) (l : ℕ) (name : Word) (P : Stack) (pre : Built → Built) (w : Word) (s s₁ : State) (work work' : List ℕ) (r : Begun) : Type 0 where
  pub tree : T.State
  pub course : (K : Stack) (b : Built) → runs text (P ++ K) w (pre b) s ≡ runs text (head_stack r.named ++ K) r.reached.next (head_built r.named name text (opened tree b)) r.reached.state
  pub says : Says text l s₁.nodes tree r.head
  pub stays : Stays s₁ r.reached.state
  pub nodes : r.reached.state.nodes ≡ s₁.nodes + value_size (length_of l) tree.value
  pub expressions : front_of r.reached.state.nodes work' ≡ with_nodes (front_of s₁.nodes work) (value_nodes (length_of l) tree.value)
  pub other : other_in work' ≡ other_in work
  pub actions : r.reached.state.actions ≡ s₁.actions
  pub standing : Standing text sc n r.reached.next r.reached.state r.reached.state.actions work'

-- Behind the name that a state begins with. Six records of its value are not yet written.
abbrev pub AfterName : ℕ → Word → List ℕ → Word → State → List ℕ → List ℕ → Result Begun Unread → Type 0
AfterName l name text w s work work' r =
    (sc : Scope) (n : KnownNames) → Seen text name → Standing text sc n w s s.actions work → s.nodes + 6 ≤ 7 * s.counted + 6 * s.states
    → Tells text (ask first_name ∷ ask state_rest ∷ []) (after_name name text) w s r (HeadRead text sc n l name (ask first_name ∷ ask state_rest ∷ []) (after_name name text) w s s work work')

-- The same by a parenthesis.
abbrev pub Valued : ℕ → Word → List ℕ → Word → State → List ℕ → List ℕ → Result Begun Unread → Type 0
Valued l name text w s work work' r = kind_no w.kind ≡ open_paren → AfterName l name text w s work work' r

abbrev pub Heads : ℕ → List ℕ → Word → State → List ℕ → List ℕ → Result Begun Unread → Type 0
Heads l text w s work work' r =
    (sc : Scope) (n : KnownNames) → Standing text sc n w s s.actions work
    → Tells text (ask state_start ∷ []) same w s r (HeadRead text sc n l w (ask state_start ∷ []) same w s (more_states s) work work')
