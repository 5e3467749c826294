-- The counted words of a tree (01, "Ceilings"): operators, operands and actions. A conditional counts one; a count after HEAD, TAIL, EXT, a part's ends and a store's left side do not count, but expressions in its subscripts do.
use Rattle.std.specs.Prelude.{List, [], ◌∷◌, ℕ, suc, ◌+◌, ◌≤◌, length}
use Rattle.language.specs.Ceilings.{most_counted, most_facilities, most_operations, most_states}
use Rattle.language.specs.Tree as T
use Rattle.language.specs.Tree.{Actions, Declaration, Expression, Function, Left, Operation, State, Text}

unfoldable pub counted_expression : Expression → ℕ
counted_expression (T.constant c p) = 1
counted_expression (T.whole n p) = 1
counted_expression (T.one n p e) = suc (counted_expression e)
counted_expression (T.part n p x) = 1
counted_expression (T.two n p e f) = suc (counted_expression e + counted_expression f)
counted_expression (T.word_part n p e x) = suc (counted_expression e)
counted_expression (T.binary k p e f) = suc (counted_expression e + counted_expression f)
counted_expression (T.prefix k p e) = suc (counted_expression e)
counted_expression (T.cut k p e c) = suc (counted_expression e)
counted_expression (T.choice p e f) = suc (counted_expression e + counted_expression f)
counted_expression (T.first_arm e) = counted_expression e
counted_expression (T.next_arm e f) = counted_expression e + counted_expression f

-- A reference on the left of a store is no operand.
abbrev pub counted_reference : Expression → ℕ
counted_reference (T.constant c p) = 0
counted_reference (T.whole n p) = 0
counted_reference (T.one n p e) = counted_expression e
counted_reference (T.part n p x) = 0
counted_reference (T.two n p e f) = counted_expression e + counted_expression f
counted_reference (T.word_part n p e x) = counted_expression e
counted_reference (T.binary k p e f) = 0
counted_reference (T.prefix k p e) = 0
counted_reference (T.cut k p e c) = 0
counted_reference (T.choice p e f) = 0
counted_reference (T.first_arm e) = 0
counted_reference (T.next_arm e f) = 0

abbrev pub counted_left : Left → ℕ
counted_left (T.single e) = counted_reference e
counted_left (T.pair e f) = counted_reference e + counted_reference f

unfoldable pub counted_actions : Actions → ℕ
counted_actions T.done = 0
counted_actions (T.store k p l e a) = suc (counted_left l + counted_expression e + counted_actions a)
counted_actions (T.set p e a) = suc (counted_reference e + counted_actions a)
counted_actions (T.perform n p a) = suc (counted_actions a)
counted_actions (T.goto n p a) = suc (counted_actions a)
counted_actions (T.call n p a) = suc (counted_actions a)
counted_actions (T.return p a) = suc (counted_actions a)
counted_actions (T.when p e l a) = suc (counted_expression e + counted_actions l + counted_actions a)
counted_actions (T.choose p e l a) = suc (counted_expression e + counted_actions l + counted_actions a)
counted_actions (T.arm l a) = counted_actions l + counted_actions a

abbrev pub counted_function : Function → ℕ
counted_function T.unspecified = 0
counted_function T.from_input = 0
counted_function (T.given p e) = counted_expression e

unfoldable pub counted_terminals : List Declaration → ℕ
counted_terminals [] = 0
counted_terminals (d ∷ ds) = counted_function d.function + counted_terminals ds

unfoldable pub counted_operations : List Operation → ℕ
counted_operations [] = 0
counted_operations (o ∷ os) = counted_actions o.body + counted_operations os

unfoldable pub counted_states : List State → ℕ
counted_states [] = 0
counted_states (s ∷ ss) = counted_actions s.actions + counted_states ss

unfoldable pub counted_words : Text → ℕ
counted_words t = counted_terminals t.terminals + counted_operations t.operations + counted_states t.states

-- A text within the ceilings of the stage of grammar, nesting apart.
pub record WithinCeilings (t : Text) : Type 0 where
  pub facilities : length t.registers + length t.memories + length t.terminals ≤ most_facilities
  pub operations : length t.operations ≤ most_operations
  pub states : length t.states ≤ most_states
  pub counted : counted_words t ≤ most_counted
