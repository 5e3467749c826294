-- Stacks that can be completed: behind each notion stands no word that would go on with it.
use Rattle.std.specs.Prelude.{Bool, false, cond, List, [], ◌∷◌, ◌≡◌, ℕ, eqb}
use Rattle.language.specs.Kinds.{a_constant, a_name, at_sign, close_bracket, colon, comma, control_word, delayed_sign, do_word, dollar, end_if_word, equal_sign, input_word, open_bracket, open_paren, period, return_word, slash, terminal_word}
use Rattle.language.specs.Machine
use Rattle.language.specs.Machine.{Ask, again, ask, ease, keep, make, word}
use Rattle.about_grammar.specs.Courses.{Stack}
use Rattle.about_grammar.specs.Following.{after_and, after_con, after_cut, after_exclusive, after_or, after_relation, after_sum, among}

-- The kind of the word with which a notion is completed; 0 for the loops, which are left out.
abbrev pub first_of : Ask → ℕ
first_of Machine.expression = a_constant
first_of Machine.minterm = a_constant
first_of Machine.product = a_constant
first_of Machine.complement = a_constant
first_of Machine.reduction = a_constant
first_of Machine.adjustment = a_constant
first_of Machine.arithmetic = a_constant
first_of Machine.term = a_constant
first_of Machine.or_tail = 0
first_of Machine.exclusive_tail = 0
first_of Machine.and_tail = 0
first_of Machine.con_tail = 0
first_of Machine.cut_tail = 0
first_of Machine.relation_tail = 0
first_of Machine.arithmetic_tail = 0
first_of Machine.more_arms = 0
first_of Machine.subscripts = open_bracket
first_of Machine.subscript = a_constant
first_of Machine.after_constant = colon
first_of Machine.operand_rest = comma
first_of Machine.after_subscript = comma
first_of Machine.second_option = open_bracket
first_of Machine.second = a_constant
first_of Machine.after_second_constant = colon
first_of Machine.second_rest = close_bracket
first_of Machine.second_end = close_bracket
first_of Machine.operation_action = a_name
first_of Machine.state_action = return_word
first_of Machine.operation_more = 0
first_of Machine.state_rest = slash
first_of Machine.state_more = 0
first_of Machine.operation_name = at_sign
first_of Machine.state_name = at_sign
first_of Machine.left_rest = at_sign
first_of Machine.store_sign = equal_sign
first_of Machine.set_sign = at_sign
first_of Machine.operation_if_rest = end_if_word
first_of Machine.state_if_rest = end_if_word
first_of Machine.operation_arms = 0
first_of Machine.state_arms = 0
first_of Machine.dimensions = open_bracket
first_of Machine.range_rest = colon
first_of Machine.dimension_rest = close_bracket
first_of Machine.register_spec = a_name
first_of Machine.sequencing_spec = a_name
first_of Machine.memory_spec = a_name
first_of Machine.terminal_spec = a_name
first_of Machine.register_more = period
first_of Machine.memory_more = period
first_of Machine.terminal_more = period
first_of Machine.terminal_dimensions = open_bracket
first_of Machine.terminal_rest = comma
first_of Machine.terminal_function = equal_sign
first_of Machine.function_of = input_word
first_of Machine.operation_spec = a_name
first_of Machine.operations_more = control_word
first_of Machine.state_start = slash
first_of Machine.first_name = at_sign
first_of Machine.state_body = slash
first_of Machine.states_more = period
first_of Machine.sections = terminal_word
first_of Machine.after_registers = control_word
first_of Machine.after_memories = control_word
first_of Machine.after_terminals = control_word
first_of Machine.control = control_word
first_of Machine.dollar_option = dollar

abbrev pub skips : Ask → Bool
skips n = eqb (first_of n) 0

-- Signs that make a name at the start of an action a left side, and what goes on with an expression.
abbrev pub after_left : List ℕ
after_left = at_sign ∷ delayed_sign ∷ equal_sign ∷ after_or

-- Kinds that would go on with a notion.
abbrev pub bad : Ask → List ℕ
bad Machine.expression = after_or
bad Machine.minterm = after_exclusive
bad Machine.product = after_and
bad Machine.complement = after_con
bad Machine.reduction = after_cut
bad Machine.adjustment = after_cut
bad Machine.arithmetic = after_sum
bad Machine.term = []
bad Machine.or_tail = after_or
bad Machine.exclusive_tail = after_exclusive
bad Machine.and_tail = after_and
bad Machine.con_tail = after_con
bad Machine.cut_tail = after_cut
bad Machine.relation_tail = after_relation
bad Machine.arithmetic_tail = after_sum
bad Machine.more_arms = do_word ∷ after_or
bad Machine.subscripts = []
bad Machine.subscript = []
bad Machine.after_constant = colon ∷ []
bad Machine.operand_rest = []
bad Machine.after_subscript = []
bad Machine.second_option = []
bad Machine.second = []
bad Machine.after_second_constant = colon ∷ []
bad Machine.second_rest = []
bad Machine.second_end = []
bad Machine.operation_action = after_left
bad Machine.state_action = open_bracket ∷ at_sign ∷ []
bad Machine.operation_more = comma ∷ after_left
bad Machine.state_rest = []
bad Machine.state_more = comma ∷ open_bracket ∷ at_sign ∷ []
bad Machine.operation_name = after_left
bad Machine.state_name = open_bracket ∷ at_sign ∷ []
bad Machine.left_rest = after_or
bad Machine.store_sign = after_or
bad Machine.set_sign = []
bad Machine.operation_if_rest = []
bad Machine.state_if_rest = []
bad Machine.operation_arms = do_word ∷ comma ∷ after_left
bad Machine.state_arms = do_word ∷ comma ∷ open_bracket ∷ at_sign ∷ []
bad Machine.dimensions = []
bad Machine.range_rest = []
bad Machine.dimension_rest = []
bad Machine.register_spec = []
bad Machine.sequencing_spec = []
bad Machine.memory_spec = []
bad Machine.terminal_spec = after_or
bad Machine.register_more = []
bad Machine.memory_more = []
bad Machine.terminal_more = []
bad Machine.terminal_dimensions = after_or
bad Machine.terminal_rest = after_or
bad Machine.terminal_function = after_or
bad Machine.function_of = after_or
bad Machine.operation_spec = []
bad Machine.operations_more = []
bad Machine.state_start = []
bad Machine.first_name = colon ∷ open_paren ∷ open_bracket ∷ at_sign ∷ []
bad Machine.state_body = []
bad Machine.states_more = []
bad Machine.sections = []
bad Machine.after_registers = []
bad Machine.after_memories = []
bad Machine.after_terminals = []
bad Machine.control = []
bad Machine.dollar_option = []

-- The kind of the first word that completes a stack.
abbrev pub head_of : Stack → ℕ
head_of [] = 0
head_of (word k g ∷ K) = k
head_of (keep k ∷ K) = k
head_of (again ∷ K) = a_name
head_of (make f ∷ K) = head_of K
head_of (ease ∷ K) = head_of K
head_of (ask n ∷ K) = cond (skips n) (head_of K) (first_of n)

abbrev pub Fine : Stack → Type 0
Fine [] = Unit {0}
Fine (word k g ∷ K) = Fine K
Fine (keep k ∷ K) = Fine K
Fine (again ∷ K) = Fine K
Fine (make f ∷ K) = Fine K
Fine (ease ∷ K) = Fine K
Fine (ask n ∷ K) = (among (head_of K) (bad n) ≡ false) × Fine K
