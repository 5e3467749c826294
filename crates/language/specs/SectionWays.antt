-- The machine's rules for declarations, states and sections, and the table of all of them.
use Rattle.std.specs.Prelude.{Bool, true, false, List, [], ◌∷◌, ◌++◌, map, ℕ}
use Rattle.language.specs.Kinds.{a_constant, a_name, close_bracket, close_paren, colon, comma, control_word, do_word, dollar, end_word, equal_sign, hash, input_word, memory_word, open_bracket, open_paren, operation_word, period, register_word, terminal_word}
use Rattle.language.specs.Alternatives.{after_step, always, closing, enter, followed, kept, lead, no_step, optional, plain_word, shut, way}
use Rattle.language.specs.Building.{Built, nothing_built}
use Rattle.language.specs.Declaring.{tree_steps}
use Rattle.language.specs.Machine.{Counts, no_counts, run, Alternative, Ask, Parsed, Rule, Sym, adjustment, after_constant, after_memories, after_registers, after_second_constant, after_subscript, after_terminals, again, and_tail, arithmetic, arithmetic_tail, ask, complement, con_tail, control, cut_tail, dimension_rest, dimensions, dollar_option, exclusive_tail, expression, facility, first_name, function_of, keep, left_rest, level, make, may, memory_more, memory_spec, minterm, more_arms, opens, operand, operand_rest, operation, operation_action, operation_arms, operation_if_rest, operation_more, operation_name, operation_spec, operations_more, or_tail, product, range_rest, reduction, register_more, register_spec, relation_tail, second, second_option, second_end, second_rest, sections, sequencing_spec, set_sign, state, state_action, state_arms, state_body, state_if_rest, state_more, state_name, state_rest, state_start, states_more, store_sign, subscript, subscripts, term, terminal_dimensions, terminal_function, terminal_more, terminal_rest, terminal_spec, word, within_ceilings}
use Rattle.language.specs.Ways.{adjustment_ways, after_subscript_ways, and_ways, arithmetic_tail_ways, arithmetic_ways, arm_ways, colon_instead, complement_ways, con_ways, cut_ways, end_state, exclusive_ways, expression_ways, if_rest_ways, left_ways, minterm_ways, operation_action_ways, operation_list, or_ways, product_ways, reduction_ways, relation_ways, rest_ways, second_end_ways, set_way, signed_state_ways, state_list, state_name_ways, store_ways, subscript_ways, term_ways}
use Rattle.language.specs.Words.{Word}
use Rattle.language.specs.BuildSteps.{Steps}

module _ {B : Type 0} (S : Steps B) where
  -- ---- Declarations (the manual, 4 and 6).

  abbrev facility_name : List (Sym B) → Alternative B
  facility_name to = way a_name no_step true (facility ∷ []) level false to

  -- A declaration list goes on with a comma or ends with a period or END.
  abbrev more_ways : Ask → Ask → List (Alternative B)
  more_ways spec more = lead comma (ask spec ∷ ask more ∷ []) ∷ lead period [] ∷ lead end_word [] ∷ []

  abbrev ending_ways : List (Sym B) → List (Alternative B)
  ending_ways to = lead period to ∷ lead end_word to ∷ []

  abbrev register_way : Alternative B
  register_way = lead register_word (ask register_spec ∷ ask register_more ∷ ask after_registers ∷ [])

  abbrev memory_way : Alternative B
  memory_way = lead memory_word (ask memory_spec ∷ ask memory_more ∷ ask after_memories ∷ [])

  abbrev terminal_way : Alternative B
  terminal_way = lead terminal_word (ask terminal_spec ∷ ask terminal_more ∷ ask after_terminals ∷ [])

  abbrev operation_way : Alternative B
  operation_way = lead operation_word (ask operation_spec ∷ ask operations_more ∷ [])

  abbrev control_way : Alternative B
  control_way = lead control_word (ask state_start ∷ ask states_more ∷ ask dollar_option ∷ [])

  abbrev after_terminal_ways : List (Alternative B)
  after_terminal_ways = operation_way ∷ control_way ∷ []

  -- T = INPUT ( c , T )
  abbrev input_way : Alternative B
  input_way =
      lead input_word (word open_paren opens ∷ plain_word a_constant ∷ plain_word comma ∷ again ∷ closing close_paren ∷ make S.make_input ∷ [])

  -- ---- States (the manual, 8.1). A state's first word counts it.

  abbrev state_action_ways : List (Alternative B)
  state_action_ways = kept a_name (ask state_name ∷ []) ∷ signed_state_ways S

  abbrev labelled_ways : List (Alternative B)
  labelled_ways = map (after_step S.begin_actions []) ((end_state S) ∷ map (followed (ask state_rest ∷ [])) state_action_ways)

  abbrev state_start_ways : List (Alternative B)
  state_start_ways =
      way a_name no_step true (state ∷ []) level false (ask first_name ∷ ask state_rest ∷ [])
      ∷ map (after_step (λ p b. S.begin_actions p (S.begin_unlabelled p b)) (state ∷ [])) ((end_state S) ∷ map (followed (ask state_rest ∷ [])) (signed_state_ways S))

  -- After a state's first word that is a name: a label, with or without a value, or the state's first action.
  abbrev first_name_ways : List (Alternative B)
  first_name_ways =
      way colon no_step false [] level true (make S.begin_labelled ∷ ask state_body ∷ [])
      ∷ way open_paren no_step false [] opens true (keep a_constant ∷ closing close_paren ∷ plain_word colon ∷ make S.begin_valued ∷ ask state_body ∷ [])
      ∷ map (after_step S.begin_at_name []) (state_name_ways S)

  -- ---- The table.

  unfoldable pub rule_of : Ask → Rule B
  rule_of expression = always (expression_ways S (term_ways S))
  rule_of minterm = always (minterm_ways S (term_ways S))
  rule_of product = always (product_ways S (term_ways S))
  rule_of complement = always (complement_ways S (term_ways S))
  rule_of reduction = always (reduction_ways S (term_ways S))
  rule_of adjustment = always (adjustment_ways S (term_ways S))
  rule_of arithmetic = always (arithmetic_ways S (term_ways S))
  rule_of term = always (term_ways S)
  rule_of or_tail = optional (or_ways S)
  rule_of exclusive_tail = optional (exclusive_ways S)
  rule_of and_tail = optional (and_ways S)
  rule_of con_tail = optional (con_ways S)
  rule_of cut_tail = optional (cut_ways S)
  rule_of relation_tail = optional (relation_ways S)
  rule_of arithmetic_tail = optional (arithmetic_tail_ways S)
  rule_of more_arms = optional (lead do_word (ask expression ∷ make S.make_next_arm ∷ ask more_arms ∷ []) ∷ [])
  rule_of subscripts = record { ways = enter open_bracket (ask subscript ∷ []) ∷ []; without = may S.make_whole }
  rule_of subscript = always (subscript_ways S after_constant operand_rest (ask after_subscript ∷ []))
  rule_of after_constant = record { ways = colon_instead S (keep a_constant ∷ closing close_bracket ∷ make S.make_part ∷ []) ∷ []; without = operand S.make_constant }
  rule_of operand_rest = always (rest_ways S (after_subscript_ways S) after_subscript)
  rule_of after_subscript = always (after_subscript_ways S)
  rule_of second_option = record { ways = enter open_bracket (ask second ∷ []) ∷ []; without = may S.make_one }
  rule_of second = always (subscript_ways S after_second_constant second_rest (ask second_end ∷ []))
  rule_of after_second_constant = record { ways = colon_instead S (keep a_constant ∷ closing close_bracket ∷ make S.make_word_part ∷ []) ∷ []; without = operand S.make_constant }
  rule_of second_rest = always (rest_ways S (second_end_ways S) second_end)
  rule_of second_end = always (second_end_ways S)
  rule_of operation_action = always (operation_action_ways S)
  rule_of state_action = always state_action_ways
  rule_of operation_more = optional (lead comma (ask operation_action ∷ ask operation_more ∷ []) ∷ [])
  rule_of state_rest = always (lead comma (ask state_action ∷ ask state_rest ∷ []) ∷ end_state S ∷ [])
  rule_of state_more = optional (lead comma (ask state_action ∷ ask state_more ∷ []) ∷ [])
  rule_of operation_name = record { ways = enter open_bracket (ask subscript ∷ ask left_rest ∷ []) ∷ map (after_step S.make_whole []) (left_ways S); without = operand S.make_perform }
  rule_of state_name = record { ways = state_name_ways S; without = operand S.make_perform }
  rule_of left_rest = always (left_ways S)
  rule_of store_sign = always (store_ways S)
  rule_of set_sign = always ((set_way S) ∷ [])
  rule_of operation_if_rest = always (if_rest_ways S (operation_list S))
  rule_of state_if_rest = always (if_rest_ways S (state_list S))
  rule_of operation_arms = optional (arm_ways S (operation_list S) operation_arms)
  rule_of state_arms = optional (arm_ways S (state_list S) state_arms)
  rule_of dimensions = record { ways = enter open_bracket (keep a_constant ∷ ask range_rest ∷ ask dimension_rest ∷ []) ∷ []; without = may S.make_no_dimension }
  rule_of range_rest = record { ways = lead colon (keep a_constant ∷ make S.make_both ∷ []) ∷ []; without = may S.make_last }
  rule_of dimension_rest = always (shut close_bracket (make S.make_row ∷ []) ∷ lead comma (keep a_constant ∷ ask range_rest ∷ closing close_bracket ∷ make S.make_table ∷ []) ∷ [])
  rule_of register_spec = always (facility_name (ask dimensions ∷ make S.make_register ∷ []) ∷ lead hash (ask sequencing_spec ∷ []) ∷ [])
  rule_of sequencing_spec = always (facility_name (ask dimensions ∷ make S.make_sequencing ∷ []) ∷ [])
  rule_of memory_spec = always (facility_name (ask dimensions ∷ make S.make_memory ∷ []) ∷ [])
  rule_of terminal_spec = always (facility_name (ask terminal_dimensions ∷ []) ∷ [])
  rule_of register_more = always (more_ways register_spec register_more)
  rule_of memory_more = always (more_ways memory_spec memory_more)
  rule_of terminal_more = always (more_ways terminal_spec terminal_more)
  rule_of terminal_dimensions = record { ways = enter open_bracket (keep a_constant ∷ ask range_rest ∷ ask terminal_rest ∷ []) ∷ after_step S.make_no_dimension [] (kept equal_sign (ask function_of ∷ [])) ∷ []; without = may (λ p b. S.make_plain p (S.make_no_dimension p b)) }
  rule_of terminal_rest = always (shut close_bracket (make S.make_row ∷ ask terminal_function ∷ []) ∷ lead comma (keep a_constant ∷ ask range_rest ∷ closing close_bracket ∷ make S.make_table ∷ make S.make_plain ∷ []) ∷ [])
  rule_of terminal_function = record { ways = kept equal_sign (ask function_of ∷ []) ∷ []; without = may S.make_plain }
  rule_of function_of = always (input_way ∷ map (followed (make S.make_computed ∷ [])) (expression_ways S (term_ways S)))
  rule_of operation_spec = always (way a_name no_step true (operation ∷ []) level false (plain_word equal_sign ∷ word open_bracket opens ∷ (operation_list S S.begin_body ++ closing close_bracket ∷ make S.make_operation ∷ [])) ∷ [])
  rule_of operations_more = always (lead comma (ask operation_spec ∷ ask operations_more ∷ []) ∷ control_way ∷ ending_ways (ask control ∷ []))
  rule_of state_start = always state_start_ways
  rule_of first_name = record { ways = first_name_ways; without = operand (λ p b. S.make_perform p (S.begin_at_name p b)) }
  rule_of state_body = always labelled_ways
  rule_of states_more = always (map (followed (ask states_more ∷ [])) state_start_ways ++ ending_ways [])
  rule_of sections = always (register_way ∷ memory_way ∷ terminal_way ∷ [])
  rule_of after_registers = always (memory_way ∷ terminal_way ∷ after_terminal_ways)
  rule_of after_memories = always (terminal_way ∷ after_terminal_ways)
  rule_of after_terminals = always after_terminal_ways
  rule_of control = always (control_way ∷ [])
  rule_of dollar_option = optional (lead dollar [] ∷ [])

  -- The stage of grammar with these steps, on the words of a text of `end` bytes.
  unfoldable pub parse_with : (Counts → Bool) → B → List Word → ℕ → Parsed B
  parse_with fits start ws end = run S fits rule_of (ask sections ∷ []) ws end (record { built = start; counts = no_counts })

-- The stage of grammar: the tree of a text, or its first fault.
unfoldable pub parse : List Word → ℕ → Parsed Built
unfolding parse_with
parse ws end = parse_with tree_steps within_ceilings nothing_built ws end
