-- What a parsing function answers, as a claim of the machine, whatever stack K stands below and whatever was built; and what the working array then holds.
use Rattle.std.specs.Prelude.{List, [], ◌∷◌, ◌++◌, ◌≡◌, ℕ, ◌+◌, ◌≤◌, Err, Ok}
use Rattle.language.specs.Building.{Built, with_expressions}
use Rattle.language.specs.Describe.{expression_size, nodes_of}
use Rattle.language.specs.Machine.{refused}
use Rattle.language.specs.Naming.{Scope}
use Rattle.language.specs.Tree.{Expression}
use Rattle.text_words.specs.declared.Fault.{Fault}
use Rattle.text_words.specs.declared.Word.{Word}
use Rattle.text_words.specs.Meaning.{faulted}
use Rattle.parse_tables.specs.Names.{facility_names}
use Rattle.parse_array.specs.Held.{Held, held, with_nodes}
use Rattle.parse_array.specs.Layout.{most_nodes}
use Rattle.parse_step.specs.declared.State.{State}
use Rattle.parse_step.specs.declared.Unread.TheVariants as Vd
use Rattle.parse_step.specs.Course.{Seen, Stack, runs}
use Rattle.parse_step.specs.Answers.{Answer}
use Rattle.parse_step.specs.declared.Reached.{Reached}

-- An expression waits on its row.
abbrev pub pushed : Expression → Built → Built
pushed t b = with_expressions b (t ∷ b.expressions)

-- Where parsing stands: the look-ahead is a word of the text, and the facilities known are those of the scope.
pub record Here (text : List ℕ) (sc : Scope) (w : Word) (s : State) (work : List ℕ) : Type 0 where
  pub seen : Seen text w
  pub names : sc.facilities ≡ facility_names text work s.known

-- The last records written are those of the expression t, from number base on; before them the array held h.
pub record Pending (sc : Scope) (h : Held) (base : ℕ) (t : Expression) (s : State) (work : List ℕ) : Type 0 where
  pub records : held s.nodes work ≡ with_nodes h (nodes_of sc base t)
  pub nodes : s.nodes ≡ base + expression_size t

-- The machine comes from the stack P and what `pre` makes of what was built to the stack Q with an expression on its row; the expression's records stand behind what h holds. The answer's nesting is `depth`.
pub record Read (text : List ℕ) (sc : Scope) (P Q : Stack) (pre : Built → Built) (h : Held) (base depth : ℕ) (w : Word) (s : State) (r : Reached) (work : List ℕ) : Type 0 where
  pub tree : Expression
  pub course : (K : Stack) (b : Built) → runs text (P ++ K) w (pre b) s ≡ runs text (Q ++ K) r.next (pushed tree b) r.state
  pub pending : Pending sc h base tree r.state work
  pub nesting : r.state.nesting ≡ depth
  pub here : Here text sc r.next r.state work

pub record Says (text : List ℕ) (sc : Scope) (P Q : Stack) (pre : Built → Built) (h : Held) (base depth : ℕ) (w : Word) (s : State) (r : Answer) (work : List ℕ) : Type 0 where
  pub done : {r' : Reached} → r ≡ Ok r' → Read text sc P Q pre h base depth w s r' work
  pub refused : (f : Fault) → r ≡ Err (Vd.Refused f) → (K : Stack) (b : Built) → runs text (P ++ K) w (pre b) s ≡ refused (faulted f)
  pub full : {z : State} → r ≡ Err (Vd.Full z) → most_nodes ≤ z.nodes

-- An expression by the stack P, behind all that is written.
abbrev pub Parses : Stack → (List ℕ → Built → Built) → ℕ → List ℕ → Word → State → List ℕ → List ℕ → Answer → Type 0
Parses P pre depth text w s work work' r =
    (sc : Scope) → Here text sc w s work → Says text sc P [] (pre text) (held s.nodes work) s.nodes depth w s r work'

-- An expression goes on by the stack P to the stack Q.
abbrev pub Extends : Stack → Stack → ℕ → List ℕ → Word → State → List ℕ → List ℕ → Answer → Type 0
Extends P Q depth text w s work work' r =
    (sc : Scope) → Here text sc w s work → (h : Held) (base : ℕ) (t : Expression) → Pending sc h base t s work
    → Says text sc P Q (pushed t) h base depth w s r work'
