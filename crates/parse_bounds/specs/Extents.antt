-- Dimensions: their extent as a tree, and as the code has it. Those of terminals are read by rules of their own, since a function may follow.
use Rattle.std.specs.Prelude.{List, [], ◌∷◌, ◌++◌, ◌≡◌, ℕ, ◌-◌, Result}
use Rattle.parse_step.specs.declared.State.{State}
use Rattle.parse_step.specs.Course.{Seen, Stack, runs}
use Rattle.language.specs.Building.{Built, with_extents}
use Rattle.language.specs.Declaring.{make_plain}
use Rattle.language.specs.DescribeText.{bit_bounds, dimensions_of, word_bounds}
use Rattle.language.specs.Description.{nowhere}
use Rattle.language.specs.Machine.{Ask, ask, dimension_rest, dimensions, make, terminal_dimensions, terminal_function, terminal_rest}
use Rattle.language.specs.Tree as T
use Rattle.language.specs.Tree.{Extent}
use Rattle.language.specs.Words.{Position}
use Rattle.parse_tables.specs.declared.extents.Ends.{Ends}
use Rattle.parse_tables.specs.declared.extents.Extent as C
use Rattle.parse_tables.specs.Facilities.{ends_bounds}
use Rattle.text_words.specs.declared.Word.{Word}
use Rattle.text_words.specs.Meaning.{positioned}
use Rattle.parse_bounds.specs.declared.extents.Measured.{Measured}
use Rattle.parse_bounds.specs.Ranges.{Bounded, with_range}
use Rattle.parse_bounds.specs.Telling.{Tells, same}
use Rattle.parse_step.specs.declared.Unread.{Unread}

-- Of what: of a terminal, or of another facility.
pub data Whose : Type 0 where
  of_terminal of_other : Whose

abbrev pub ask_of : Whose → Ask
ask_of of_terminal = terminal_dimensions
ask_of of_other = dimensions

abbrev pub rest_of : Whose → Ask
rest_of of_terminal = terminal_rest
rest_of of_other = dimension_rest

-- What then comes: a terminal of two dimensions has no function.
abbrev pub to_come : Whose → Extent → Stack
to_come of_other x = []
to_come of_terminal T.single = ask terminal_function ∷ []
to_come of_terminal (T.row x) = ask terminal_function ∷ []
to_come of_terminal (T.table x y) = make make_plain ∷ []

-- Bounds that are not there.
pub record Absent (e : Ends) : Type 0 where
  pub first : e.first ≡ 0
  pub last : e.last ≡ 0
  pub left : nowhere ≡ positioned e.left
  pub right : nowhere ≡ positioned e.right

-- The places of the bounds.
abbrev pub words_left : Extent → Position
words_left T.single = nowhere
words_left (T.row x) = nowhere
words_left (T.table x y) = x.first_at

abbrev pub words_right : Extent → Position
words_right T.single = nowhere
words_right (T.row x) = nowhere
words_right (T.table x y) = x.last_at

abbrev pub bits_left : Extent → Position
bits_left T.single = nowhere
bits_left (T.row x) = x.first_at
bits_left (T.table x y) = y.first_at

abbrev pub bits_right : Extent → Position
bits_right T.single = nowhere
bits_right (T.row x) = x.last_at
bits_right (T.table x y) = y.last_at

-- The code's extent is that of the tree.
pub record Sized (x : Extent) (e : C.Extent) : Type 0 where
  pub dimensions : dimensions_of x ≡ e.dimensions
  pub words : word_bounds x ≡ ends_bounds e.words
  pub bits : bit_bounds x ≡ ends_bounds e.bits
  pub words_from : words_left x ≡ positioned e.words.left
  pub words_to : words_right x ≡ positioned e.words.right
  pub bits_from : bits_left x ≡ positioned e.bits.left
  pub bits_to : bits_right x ≡ positioned e.bits.right

-- An extent waits on its row.
abbrev pub with_extent : Extent → Built → Built
with_extent x b = with_extents b (x ∷ b.extents)

-- The state after a bracket is closed.
abbrev pub closed_state : State → State
closed_state s = record { facilities = s.facilities; operations = s.operations; states = s.states; counted = s.counted; nesting = s.nesting - 1; nodes = s.nodes; actions = s.actions; known = s.known }

-- From the stack P the machine comes to what follows the dimensions, with their extent on its row.
pub record ExtentRead (text : List ℕ) (o : Whose) (P : Stack) (pre : Built → Built) (w : Word) (s s' : State) (r : Measured) : Type 0 where
  pub tree : Extent
  pub course : (K : Stack) (b : Built) → runs text (P ++ K) w (pre b) s ≡ runs text (to_come o tree ++ K) r.reached.next (with_extent tree b) r.reached.state
  pub state : r.reached.state ≡ s'
  pub extent : Sized tree r.extent
  pub seen : Seen text r.reached.next

abbrev pub Measures : List ℕ → Word → State → Result Measured Unread → Type 0
Measures text w s r = (o : Whose) → Seen text w → Tells text (ask (ask_of o) ∷ []) same w s r (ExtentRead text o (ask (ask_of o) ∷ []) same w s s)

-- Behind a first range.
abbrev pub Follows : List ℕ → Word → State → Ends → Result Measured Unread → Type 0
Follows text w s e r =
    (o : Whose) → Seen text w → (x : T.Ends) → Bounded x e
    → Tells text (ask (rest_of o) ∷ []) (with_range x) w s r (ExtentRead text o (ask (rest_of o) ∷ []) (with_range x) w s (closed_state s))
