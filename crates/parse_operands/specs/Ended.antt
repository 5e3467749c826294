-- What the operands that hold no expression answer.
use Rattle.std.specs.Prelude.{Bool, true, false, List, [], ◌∷◌, ◌≡◌, ℕ, suc, ◌-◌, ◌≤◌, Err, Ok, Result}
use Rattle.language.specs.Building.{Built, keep_word}
use Rattle.language.specs.Declaring.{tree_steps}
use Rattle.language.specs.Describe.{constant_nodes, constant_size}
use Rattle.language.specs.Kinds.{a_constant, close_bracket}
use Rattle.language.specs.Machine.{ask, closes, keep, make, refused, within_ceilings, word}
use Rattle.language.specs.Naming.{Scope}
use Rattle.language.specs.declared.refusals.Refusal.TheVariants.{CeilingPassed}
use Rattle.language.specs.Tree.{Expression}
use Rattle.language.specs.Words as L
use Rattle.value_operators.specs.Meaning.{valued}
use Rattle.text_words.specs.declared.Fault.{Fault}
use Rattle.text_words.specs.declared.Word.{Word}
use Rattle.text_words.specs.Meaning.{faulted, positioned}
use Rattle.parse_array.specs.Held.{Held}
use Rattle.parse_array.specs.Layout.{most_nodes}
use Rattle.parse_step.specs.declared.State.{State}
use Rattle.parse_step.specs.Course.{Seen, Stack, ahead, counts_of, runs}
use Rattle.parse_step.specs.Gained.{Written}
use Rattle.parse_step.specs.Says.{Here, Pending, Says, pushed}
use Rattle.parse_step.specs.Taken.{constant_word, ends_ahead}
use Rattle.parse_operands.specs.declared.constants.EndsRead.{EndsRead}
use Rattle.parse_operands.specs.Brackets.{bracket_ask, bracket_make}
use Rattle.parse_step.specs.declared.Unread.TheVariants.{Full, Refused}
use Rattle.parse_step.specs.Answers.{Answer}
use Rattle.parse_step.specs.declared.Reached.{Reached}
use Rattle.parse_step.specs.declared.Unread.{Unread}

-- The state with one more counted.
abbrev pub one_more : State → State
one_more s = record { facilities = s.facilities; operations = s.operations; states = s.states; counted = suc s.counted; nesting = s.nesting; nodes = s.nodes; actions = s.actions; known = s.known }

-- A constant that was kept counts, and its records are written.
pub record Counting (w next : Word) (s : State) (work work' : List ℕ) (r : Answer) : Type 0 where
  pub done : {r' : Reached} → r ≡ Ok r' → (within_ceilings (counts_of (one_more s)) ≡ true) × Written (constant_nodes (valued w.value) (positioned w.at)) (constant_size (valued w.value)) next (one_more s) work work' r
  pub refused : (f : Fault) → r ≡ Err (Refused f) → (within_ceilings (counts_of (one_more s)) ≡ false) × (faulted f ≡ L.fault (positioned w.at) CeilingPassed)
  pub full : {z : State} → r ≡ Err (Full z) → most_nodes ≤ z.nodes

-- The ends of a part are read with their bracket.
pub record Through (text : List ℕ) (s : State) (r : EndsRead) : Type 0 where
  pub seen : Seen text r.reached.next
  pub nesting : r.reached.state.nesting ≡ s.nesting - 1
  pub nodes : r.reached.state.nodes ≡ s.nodes
  pub known : r.reached.state.known ≡ s.known

pub record Closed (text : List ℕ) (w : Word) (s : State) (r : Result EndsRead Unread) : Type 0 where
  pub done : {x : EndsRead} → r ≡ Ok x → Seen text w → Through text s x
      × ((K : Stack) (b : Built) → runs text (keep a_constant ∷ word close_bracket closes ∷ K) w b s ≡ runs text K x.reached.next (keep_word (constant_word x.last) b) x.reached.state)
  pub refused : (f : Fault) → r ≡ Err (Refused f) → Seen text w → (K : Stack) (b : Built) → runs text (keep a_constant ∷ word close_bracket closes ∷ K) w b s ≡ refused (faulted f)
  pub full : {z : State} → r ≡ Err (Full z) → ⊥

pub record Ended (text : List ℕ) (w : Word) (s : State) (r : Result EndsRead Unread) : Type 0 where
  pub done : {x : EndsRead} → r ≡ Ok x → Seen text w → ends_ahead (ahead text w) ≡ true → Through text s x
      × ((q : Bool) (K : Stack) (b : Built) → runs text (ask (bracket_ask q) ∷ K) w b s ≡ runs text (make (bracket_make q) ∷ K) x.reached.next (keep_word (constant_word x.last) (keep_word (constant_word w) b)) x.reached.state)
  pub refused : (f : Fault) → r ≡ Err (Refused f) → Seen text w → ends_ahead (ahead text w) ≡ true → (q : Bool) (K : Stack) (b : Built) → runs text (ask (bracket_ask q) ∷ K) w b s ≡ refused (faulted f)
  pub full : {z : State} → r ≡ Err (Full z) → ⊥

-- A cut's count behind an expression that waits.
abbrev pub Cuts : ℕ → Word → List ℕ → Word → State → List ℕ → List ℕ → Answer → Type 0
Cuts kind op text w s work work' r =
    (sc : Scope) → Here text sc w s work → (h : Held) (base : ℕ) (t : Expression) → Pending sc h base t s work
    → Says text sc (keep a_constant ∷ make tree_steps.make_cut ∷ []) [] (λ b. keep_word (L.sign kind (positioned op.at)) (pushed t b)) h base s.nesting w s r work'
