-- What stands behind a terminal's dimensions: nothing, the words of an input, or an expression.
use Rattle.std.specs.Prelude.{true, List, [], ◌∷◌, ◌++◌, ◌≡◌, ℕ, ◌*◌, ◌<◌, ◌≤◌, Ok, Result}
use Rattle.parse_step.specs.declared.State.{State}
use Rattle.parse_step.specs.declared.Unread.{Unread}
use Rattle.parse_step.specs.Course.{Seen, Stack, counts_of, kind_no, runs}
use Rattle.parse_facilities.specs.Declares.{OthersKept}
use Rattle.parse_facilities.specs.Listed.{Awaiting, Listed}
use Rattle.parse_facilities.specs.Specs.{declaration_of, more_state}
use Rattle.parse_bounds.specs.Extents.{of_terminal, to_come}
use Rattle.parse_bounds.specs.Telling.{Tells}
use Rattle.language.specs.Building.{Built}
use Rattle.language.specs.Declaring.{make_plain}
use Rattle.language.specs.DescribeText.{dimensions_of, equals_place, function_number, function_sizes}
use Rattle.language.specs.Kinds.{input_word}
use Rattle.language.specs.Machine.{ask, function_of, within_ceilings}
use Rattle.language.specs.Tree.{Declaration, Extent, Function}
use Rattle.language.specs.Words as L
use Rattle.text_words.specs.declared.Word.{Word}
use Rattle.text_words.specs.Meaning.{positioned}
use Rattle.parse_terminals.specs.declared.Defined.{Defined}
use Rattle.parse_terminals.specs.Inputs.{at_dimensions, at_function, with_one}

-- A terminal has been counted behind those of ds, and is not declared yet.
pub record Begun (text : List ℕ) (ds : List Declaration) (place : ℕ) (w : Word) (s : State) (work : List ℕ) : Type 0 where
  pub before : State
  pub listed : Listed text ds place before work
  pub room : before.facilities < 256
  pub state : s ≡ more_state before
  pub seen : Seen text w
  pub within : within_ceilings (counts_of s) ≡ true
  pub paid : s.nodes ≤ 7 * s.counted

-- From the stack P and what `pre` makes of what was built the machine comes to the end of the terminal's declaration; its function's records are written.
pub record FunctionRead (text : List ℕ) (ds : List Declaration) (place : ℕ) (name : Word) (x : Extent) (P : Stack) (pre : Built → Built) (w : Word) (s : State) (work' : List ℕ) (r : Defined) : Type 0 where
  pub function : Function
  pub course : (K : Stack) (b : Built) → runs text (P ++ K) w (pre b) s ≡ runs text K r.reached.next (with_one (declaration_of text r.kind name x function) b) r.reached.state
  pub number : function_number (function_sizes ds) function ≡ r.expression
  pub equals : equals_place function ≡ positioned r.equals
  pub awaiting : Awaiting text ds (declaration_of text r.kind name x function) place r.reached.state work'
  pub seen : Seen text r.reached.next
  pub within : within_ceilings (counts_of r.reached.state) ≡ true
  pub paid : r.reached.state.nodes ≤ 7 * r.reached.state.counted
  pub others : OthersKept s r.reached.state

abbrev pub Defines : List ℕ → List Declaration → ℕ → Word → Extent → Stack → (Built → Built) → Word → State → List ℕ → Result Defined Unread → Type 0
Defines text ds place name x P pre w s work' r = Tells text P pre w s r (FunctionRead text ds place name x P pre w s work')

-- No function: from the stack P the machine makes a plain terminal before w.
abbrev pub Plains : Word → State → Defined → Type 0
Plains w s r =
    (text : List ℕ) (ds : List Declaration) (place : ℕ) (name : Word) (x : Extent) (P : Stack) (work : List ℕ) → Begun text ds place w s work
    → ((K : Stack) (b d : Built) → ((p : L.Position) → make_plain p b ≡ d) → runs text (P ++ K) w b s ≡ runs text K w d s)
    → Defines text ds place name x P (at_dimensions text name x) w s work (Ok r)

-- An expression, whichever terminal it is of.
abbrev pub Computes : List ℕ → Word → Word → State → List ℕ → List ℕ → Result Defined Unread → Type 0
Computes text equal w s work work' r =
    (kind_no w.kind ≡ input_word → ⊥) → (ds : List Declaration) (place : ℕ) (name : Word) (x : Extent) → Begun text ds place w s work
    → Defines text ds place name x (ask function_of ∷ []) (at_function text name x equal) w s work' r

-- Behind the `=`.
abbrev pub Follows : List ℕ → Word → Word → Word → State → List ℕ → List ℕ → Result Defined Unread → Type 0
Follows text name equal w s work work' r =
    (ds : List Declaration) (place : ℕ) (x : Extent) → Begun text ds place w s work → Defines text ds place name x (ask function_of ∷ []) (at_function text name x equal) w s work' r

-- Behind dimensions of this number.
abbrev pub Functions : List ℕ → Word → ℕ → Word → State → List ℕ → List ℕ → Result Defined Unread → Type 0
Functions text name n w s work work' r =
    (ds : List Declaration) (place : ℕ) (x : Extent) → dimensions_of x ≡ n → Begun text ds place w s work
    → Defines text ds place name x (to_come of_terminal x) (at_dimensions text name x) w s work' r
