-- The notions of the grammar (the manual, Appendix B; 01, "The language taken"), the trees they have, and the words that a rule has a choice of.
use Rattle.std.specs.Prelude.{Bool, true, ◌||◌, List, [], ◌∷◌, ℕ, eqb}
use Rattle.std.proofs.Math.Option.{Option}
use Rattle.language.specs.Constants.{bare_constant}
use Rattle.language.specs.Kinds.{close_bracket, delayed_sign, end_word, equal_sign, open_bracket, period}
use Rattle.language.specs.Tree as T
use Rattle.language.specs.Tree.{Actions, Declaration, Ends, Expression, Extent, Function, Kind, Label, Left, Name, Operation, State, StateValue, Text, row, table}
use Rattle.language.specs.Words as W
use Rattle.language.specs.Words.{Constant, Position, Word, sign}

-- What a notion of the grammar has for a tree.
pub data Tree : Type 0 where
  expression : Expression → Tree
  left : Left → Tree
  actions : Actions → Tree
  ends : Ends → Tree
  extent : Extent → Tree
  facility : Declaration → Tree
  facilities : List Declaration → Tree
  declared : List Declaration → List Declaration → List Declaration → Tree
  operations : List Operation → Tree
  label : Option Label → Option StateValue → Tree
  states : List State → Tree
  text : Text → Tree
  nothing : Tree

-- Actions stand in an operation or in a state.
pub data Section : Type 0 where
  in_operation in_state : Section

-- The notions, in the manual's words.
pub data Notion : Type 0 where
  reference boolean_exp minterm product complement chain reduction adjustment relation arithmetic term expression_arms : Notion
  range dimensions : Notion
  left_side : Notion
  action_list rest arms more_arms : Section → Notion
  register_spec memory_spec terminal_spec register_specs memory_specs terminal_specs : Notion
  register_section memory_section terminal_section memory_option terminal_option declaration : Notion
  operation_defs operation_section : Notion
  state_label state_def state_defs control_section : Notion
  ending optional_ending dollar_option whole_text : Notion

-- ---- The words that a rule has a choice of.

abbrev pub is_store : ℕ → Bool
is_store k = eqb k delayed_sign || eqb k equal_sign

abbrev pub ends_section : ℕ → Bool
ends_section k = eqb k period || eqb k end_word

abbrev pub between_subscripts : Position → Position → List Word
between_subscripts p q = sign close_bracket p ∷ sign open_bracket q ∷ []

abbrev pub pair_of : Constant → Position → Constant → Position → Ends
pair_of c p d q = record { first = c; first_at = p; last = d; last_at = q }

-- A first bound that is left out is one (the manual, 4.1); it is never at fault.
abbrev pub one_bound : Constant
one_bound = record { bare = true; value = bare_constant (1 ∷ []) }

abbrev pub as_declared : Kind → Name → Position → Extent → Function → Declaration
as_declared k n p x f = record { kind = k; name = n; at = p; extent = x; function = f }

abbrev pub operation_of : Name → Position → Actions → Operation
operation_of n p a = record { name = n; at = p; body = a }

abbrev pub state_of : Position → Option Label → Option StateValue → Actions → State
state_of p l v a = record { at = p; label = l; value = v; actions = a }

abbrev pub first_place : List Word → Position → Position
first_place [] p = p
first_place (w ∷ ws) p = W.word_at w

-- A terminal with a function has at most one dimension.
abbrev pub AtMostOne : Extent → Type 0
AtMostOne T.single = Unit {0}
AtMostOne (row x) = Unit {0}
AtMostOne (table x y) = ⊥
