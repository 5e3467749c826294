-- Each notion on top of a stack that can be completed.
use Rattle.std.specs.Prelude.{false, [], ◌∷◌, ◌≡◌, refl, drop}
use Rattle.language.specs.Alternatives.{closing}
use Rattle.language.specs.Building.{Built, make_constant, make_part, make_return, make_set, make_store, make_two, make_when, make_word_part, expression_no, joined, list_no, word_no}
use Rattle.language.specs.Declaring.{make_both, make_input, make_memory, make_operation, make_plain, make_register, make_row, make_sequencing, make_state, make_table}
use Rattle.language.specs.Kinds.{at_sign, close_bracket, close_paren, colon, comma, control_word, dollar, end_if_word, equal_sign, input_word, open_bracket, open_paren, period, return_word, slash, terminal_word}
use Rattle.language.specs.Machine
use Rattle.language.specs.Machine.{Counts, again, ask, choose, feed, make, run, tallied}
use Rattle.language.specs.SectionWays.{rule_of}
use Rattle.about_grammar.specs.Courses.{Stack}
use Rattle.about_grammar.specs.Fine.{head_of}
use Rattle.about_grammar.specs.Following.{after_and, after_con, after_cut, after_exclusive, after_or, after_sum, among, within}
use Rattle.about_grammar.specs.Completing.{Completed, at, begin, i, makes, repeats, tails-1, tails-3, tails-4, tails-5, tails-6, tails-7, words, x}

pub by-term : (K : Stack) (b : Built) (c : Counts) → ((b : Built) (c : Counts) → Completed K b c) → Completed (ask Machine.term ∷ K) b c
unfolding run feed choose rule_of tallied among within word_no expression_no list_no joined
by-term K b c r = begin (make make_constant ∷ K) i [] refl refl (tt, tt) (λ vs. refl) (makes make_constant (r _ _))

pub by-arithmetic : (K : Stack) (b : Built) (c : Counts) → among (head_of K) after_sum ≡ false → ((b : Built) (c : Counts) → Completed K b c) → Completed (ask Machine.arithmetic ∷ K) b c
unfolding run feed choose rule_of tallied among within word_no expression_no list_no joined
by-arithmetic K b c f r = begin (make make_constant ∷ ask Machine.arithmetic_tail ∷ K) i [] refl refl (tt, tt) (λ vs. refl) (makes make_constant (tails-1 f (r _ _)))

pub by-adjustment : (K : Stack) (b : Built) (c : Counts) → among (head_of K) after_cut ≡ false → ((b : Built) (c : Counts) → Completed K b c) → Completed (ask Machine.adjustment ∷ K) b c
unfolding run feed choose rule_of tallied among within word_no expression_no list_no joined
by-adjustment K b c f r = begin (make make_constant ∷ ask Machine.arithmetic_tail ∷ ask Machine.relation_tail ∷ ask Machine.cut_tail ∷ K) i [] refl refl (tt, tt) (λ vs. refl) (makes make_constant (tails-3 f (r _ _)))

pub by-reduction : (K : Stack) (b : Built) (c : Counts) → among (head_of K) after_cut ≡ false → ((b : Built) (c : Counts) → Completed K b c) → Completed (ask Machine.reduction ∷ K) b c
unfolding run feed choose rule_of tallied among within word_no expression_no list_no joined
by-reduction K b c f r = begin (make make_constant ∷ ask Machine.arithmetic_tail ∷ ask Machine.relation_tail ∷ ask Machine.cut_tail ∷ K) i [] refl refl (tt, tt) (λ vs. refl) (makes make_constant (tails-3 f (r _ _)))

pub by-complement : (K : Stack) (b : Built) (c : Counts) → among (head_of K) after_con ≡ false → ((b : Built) (c : Counts) → Completed K b c) → Completed (ask Machine.complement ∷ K) b c
unfolding run feed choose rule_of tallied among within word_no expression_no list_no joined
by-complement K b c f r = begin (make make_constant ∷ ask Machine.arithmetic_tail ∷ ask Machine.relation_tail ∷ ask Machine.cut_tail ∷ ask Machine.con_tail ∷ K) i [] refl refl (tt, tt) (λ vs. refl) (makes make_constant (tails-4 f (r _ _)))

pub by_product : (K : Stack) (b : Built) (c : Counts) → among (head_of K) after_and ≡ false → ((b : Built) (c : Counts) → Completed K b c) → Completed (ask Machine.product ∷ K) b c
unfolding run feed choose rule_of tallied among within word_no expression_no list_no joined
by_product K b c f r = begin (make make_constant ∷ ask Machine.arithmetic_tail ∷ ask Machine.relation_tail ∷ ask Machine.cut_tail ∷ ask Machine.con_tail ∷ ask Machine.and_tail ∷ K) i [] refl refl (tt, tt) (λ vs. refl) (makes make_constant (tails-5 f (r _ _)))

pub by-minterm : (K : Stack) (b : Built) (c : Counts) → among (head_of K) after_exclusive ≡ false → ((b : Built) (c : Counts) → Completed K b c) → Completed (ask Machine.minterm ∷ K) b c
unfolding run feed choose rule_of tallied among within word_no expression_no list_no joined
by-minterm K b c f r = begin (make make_constant ∷ ask Machine.arithmetic_tail ∷ ask Machine.relation_tail ∷ ask Machine.cut_tail ∷ ask Machine.con_tail ∷ ask Machine.and_tail ∷ ask Machine.exclusive_tail ∷ K) i [] refl refl (tt, tt) (λ vs. refl) (makes make_constant (tails-6 f (r _ _)))

pub by-expression : (K : Stack) (b : Built) (c : Counts) → among (head_of K) after_or ≡ false → ((b : Built) (c : Counts) → Completed K b c) → Completed (ask Machine.expression ∷ K) b c
unfolding run feed choose rule_of tallied among within word_no expression_no list_no joined
by-expression K b c f r = begin (make make_constant ∷ ask Machine.arithmetic_tail ∷ ask Machine.relation_tail ∷ ask Machine.cut_tail ∷ ask Machine.con_tail ∷ ask Machine.and_tail ∷ ask Machine.exclusive_tail ∷ ask Machine.or_tail ∷ K) i [] refl refl (tt, tt) (λ vs. refl) (makes make_constant (tails-7 f (r _ _)))

pub by-subscripts : (K : Stack) (b : Built) (c : Counts) → ((b : Built) (c : Counts) → Completed K b c) → Completed (ask Machine.subscripts ∷ K) b c
unfolding run feed choose rule_of tallied among within word_no expression_no list_no joined
by-subscripts K b c r = begin (make make_part ∷ K) (at open_bracket) (i ∷ at colon ∷ i ∷ at close_bracket ∷ []) refl refl (refl, (tt, (refl, (tt, (refl, tt))))) (λ vs. refl) (makes make_part (r _ _))

pub by-subscript : (K : Stack) (b : Built) (c : Counts) → ((b : Built) (c : Counts) → Completed K b c) → Completed (ask Machine.subscript ∷ K) b c
unfolding run feed choose rule_of tallied among within word_no expression_no list_no joined
by-subscript K b c r = begin (make make_part ∷ K) i (at colon ∷ i ∷ at close_bracket ∷ []) refl refl (tt, (refl, (tt, (refl, tt)))) (λ vs. refl) (makes make_part (r _ _))

pub by-operand_rest : (K : Stack) (b : Built) (c : Counts) → ((b : Built) (c : Counts) → Completed K b c) → Completed (ask Machine.operand_rest ∷ K) b c
unfolding run feed choose rule_of tallied among within word_no expression_no list_no joined
by-operand_rest K b c r = begin (make make_word_part ∷ K) (at comma) (i ∷ at colon ∷ i ∷ at close_bracket ∷ []) refl refl (refl, (tt, (refl, (tt, (refl, tt))))) (λ vs. refl) (makes make_word_part (r _ _))

pub by-after_subscript : (K : Stack) (b : Built) (c : Counts) → ((b : Built) (c : Counts) → Completed K b c) → Completed (ask Machine.after_subscript ∷ K) b c
unfolding run feed choose rule_of tallied among within word_no expression_no list_no joined
by-after_subscript K b c r = begin (make make_word_part ∷ K) (at comma) (i ∷ at colon ∷ i ∷ at close_bracket ∷ []) refl refl (refl, (tt, (refl, (tt, (refl, tt))))) (λ vs. refl) (makes make_word_part (r _ _))

pub by-second_option : (K : Stack) (b : Built) (c : Counts) → ((b : Built) (c : Counts) → Completed K b c) → Completed (ask Machine.second_option ∷ K) b c
unfolding run feed choose rule_of tallied among within word_no expression_no list_no joined
by-second_option K b c r = begin (make make_word_part ∷ K) (at open_bracket) (i ∷ at colon ∷ i ∷ at close_bracket ∷ []) refl refl (refl, (tt, (refl, (tt, (refl, tt))))) (λ vs. refl) (makes make_word_part (r _ _))

pub by-second : (K : Stack) (b : Built) (c : Counts) → ((b : Built) (c : Counts) → Completed K b c) → Completed (ask Machine.second ∷ K) b c
unfolding run feed choose rule_of tallied among within word_no expression_no list_no joined
by-second K b c r = begin (make make_word_part ∷ K) i (at colon ∷ i ∷ at close_bracket ∷ []) refl refl (tt, (refl, (tt, (refl, tt)))) (λ vs. refl) (makes make_word_part (r _ _))

pub by-second_rest : (K : Stack) (b : Built) (c : Counts) → ((b : Built) (c : Counts) → Completed K b c) → Completed (ask Machine.second_rest ∷ K) b c
unfolding run feed choose rule_of tallied among within word_no expression_no list_no joined
by-second_rest K b c r = begin (make make_two ∷ K) (at close_bracket) [] refl refl (refl, tt) (λ vs. refl) (makes make_two (r _ _))

pub by-second_end : (K : Stack) (b : Built) (c : Counts) → ((b : Built) (c : Counts) → Completed K b c) → Completed (ask Machine.second_end ∷ K) b c
unfolding run feed choose rule_of tallied among within word_no expression_no list_no joined
by-second_end K b c r = begin (make make_two ∷ K) (at close_bracket) [] refl refl (refl, tt) (λ vs. refl) (makes make_two (r _ _))

pub by-operation_action : (K : Stack) (b : Built) (c : Counts) → ((b : Built) (c : Counts) → Completed K b c) → Completed (ask Machine.operation_action ∷ K) b c
unfolding run feed choose rule_of tallied among within word_no expression_no list_no joined
by-operation_action K b c r = begin (make make_set ∷ K) x (at at_sign ∷ []) refl refl (tt, (refl, tt)) (λ vs. refl) (makes make_set (r _ _))

pub by-state_action : (K : Stack) (b : Built) (c : Counts) → ((b : Built) (c : Counts) → Completed K b c) → Completed (ask Machine.state_action ∷ K) b c
unfolding run feed choose rule_of tallied among within word_no expression_no list_no joined
by-state_action K b c r = begin (make make_return ∷ K) (at return_word) [] refl refl (refl, tt) (λ vs. refl) (makes make_return (r _ _))

pub by-state_rest : (K : Stack) (b : Built) (c : Counts) → ((b : Built) (c : Counts) → Completed K b c) → Completed (ask Machine.state_rest ∷ K) b c
unfolding run feed choose rule_of tallied among within word_no expression_no list_no joined
by-state_rest K b c r = begin (make make_state ∷ K) (at slash) [] refl refl (refl, tt) (λ vs. refl) (makes make_state (r _ _))

pub by-operation_name : (K : Stack) (b : Built) (c : Counts) → ((b : Built) (c : Counts) → Completed K b c) → Completed (ask Machine.operation_name ∷ K) b c
unfolding run feed choose rule_of tallied among within word_no expression_no list_no joined
by-operation_name K b c r = begin (make make_set ∷ K) (at at_sign) [] refl refl (refl, tt) (λ vs. refl) (makes make_set (r _ _))

pub by-state_name : (K : Stack) (b : Built) (c : Counts) → ((b : Built) (c : Counts) → Completed K b c) → Completed (ask Machine.state_name ∷ K) b c
unfolding run feed choose rule_of tallied among within word_no expression_no list_no joined
by-state_name K b c r = begin (make make_set ∷ K) (at at_sign) [] refl refl (refl, tt) (λ vs. refl) (makes make_set (r _ _))

pub by-left_rest : (K : Stack) (b : Built) (c : Counts) → ((b : Built) (c : Counts) → Completed K b c) → Completed (ask Machine.left_rest ∷ K) b c
unfolding run feed choose rule_of tallied among within word_no expression_no list_no joined
by-left_rest K b c r = begin (make make_set ∷ K) (at at_sign) [] refl refl (refl, tt) (λ vs. refl) (makes make_set (r _ _))

pub by-set_sign : (K : Stack) (b : Built) (c : Counts) → ((b : Built) (c : Counts) → Completed K b c) → Completed (ask Machine.set_sign ∷ K) b c
unfolding run feed choose rule_of tallied among within word_no expression_no list_no joined
by-set_sign K b c r = begin (make make_set ∷ K) (at at_sign) [] refl refl (refl, tt) (λ vs. refl) (makes make_set (r _ _))

pub by-first_name : (K : Stack) (b : Built) (c : Counts) → ((b : Built) (c : Counts) → Completed K b c) → Completed (ask Machine.first_name ∷ K) b c
unfolding run feed choose rule_of tallied among within word_no expression_no list_no joined
by-first_name K b c r = begin (make make_set ∷ K) (at at_sign) [] refl refl (refl, tt) (λ vs. refl) (makes make_set (r _ _))

pub by-operation_if_rest : (K : Stack) (b : Built) (c : Counts) → ((b : Built) (c : Counts) → Completed K b c) → Completed (ask Machine.operation_if_rest ∷ K) b c
unfolding run feed choose rule_of tallied among within word_no expression_no list_no joined
by-operation_if_rest K b c r = begin (make make_when ∷ K) (at end_if_word) [] refl refl (refl, tt) (λ vs. refl) (makes make_when (r _ _))

pub by-state_if_rest : (K : Stack) (b : Built) (c : Counts) → ((b : Built) (c : Counts) → Completed K b c) → Completed (ask Machine.state_if_rest ∷ K) b c
unfolding run feed choose rule_of tallied among within word_no expression_no list_no joined
by-state_if_rest K b c r = begin (make make_when ∷ K) (at end_if_word) [] refl refl (refl, tt) (λ vs. refl) (makes make_when (r _ _))

pub by-dimensions : (K : Stack) (b : Built) (c : Counts) → ((b : Built) (c : Counts) → Completed K b c) → Completed (ask Machine.dimensions ∷ K) b c
unfolding run feed choose rule_of tallied among within word_no expression_no list_no joined
by-dimensions K b c r = begin (make make_row ∷ K) (at open_bracket) (i ∷ at close_bracket ∷ []) refl refl (refl, (tt, (refl, tt))) (λ vs. refl) (makes make_row (r _ _))

pub by-range_rest : (K : Stack) (b : Built) (c : Counts) → ((b : Built) (c : Counts) → Completed K b c) → Completed (ask Machine.range_rest ∷ K) b c
unfolding run feed choose rule_of tallied among within word_no expression_no list_no joined
by-range_rest K b c r = begin (make make_both ∷ K) (at colon) (i ∷ []) refl refl (refl, (tt, tt)) (λ vs. refl) (makes make_both (r _ _))

pub by-dimension_rest : (K : Stack) (b : Built) (c : Counts) → ((b : Built) (c : Counts) → Completed K b c) → Completed (ask Machine.dimension_rest ∷ K) b c
unfolding run feed choose rule_of tallied among within word_no expression_no list_no joined
by-dimension_rest K b c r = begin (make make_row ∷ K) (at close_bracket) [] refl refl (refl, tt) (λ vs. refl) (makes make_row (r _ _))

pub by-terminal_dimensions : (K : Stack) (b : Built) (c : Counts) → ((b : Built) (c : Counts) → Completed K b c) → Completed (ask Machine.terminal_dimensions ∷ K) b c
unfolding run feed choose rule_of tallied among within word_no expression_no list_no joined
by-terminal_dimensions K b c r = begin (make make_table ∷ make make_plain ∷ K) (at open_bracket) (i ∷ at comma ∷ i ∷ at close_bracket ∷ []) refl refl (refl, (tt, (refl, (tt, (refl, tt))))) (λ vs. refl) (makes make_table (makes make_plain (r _ _)))

pub by-terminal_rest : (K : Stack) (b : Built) (c : Counts) → ((b : Built) (c : Counts) → Completed K b c) → Completed (ask Machine.terminal_rest ∷ K) b c
unfolding run feed choose rule_of tallied among within word_no expression_no list_no joined
by-terminal_rest K b c r = begin (make make_table ∷ make make_plain ∷ K) (at comma) (i ∷ at close_bracket ∷ []) refl refl (refl, (tt, (refl, tt))) (λ vs. refl) (makes make_table (makes make_plain (r _ _)))

pub by-register_more : (K : Stack) (b : Built) (c : Counts) → ((b : Built) (c : Counts) → Completed K b c) → Completed (ask Machine.register_more ∷ K) b c
unfolding run feed choose rule_of tallied among within word_no expression_no list_no joined
by-register_more K b c r = begin K (at period) [] refl refl (refl, tt) (λ vs. refl) (r _ _)

pub by-memory_more : (K : Stack) (b : Built) (c : Counts) → ((b : Built) (c : Counts) → Completed K b c) → Completed (ask Machine.memory_more ∷ K) b c
unfolding run feed choose rule_of tallied among within word_no expression_no list_no joined
by-memory_more K b c r = begin K (at period) [] refl refl (refl, tt) (λ vs. refl) (r _ _)

pub by-terminal_more : (K : Stack) (b : Built) (c : Counts) → ((b : Built) (c : Counts) → Completed K b c) → Completed (ask Machine.terminal_more ∷ K) b c
unfolding run feed choose rule_of tallied among within word_no expression_no list_no joined
by-terminal_more K b c r = begin K (at period) [] refl refl (refl, tt) (λ vs. refl) (r _ _)

pub by-states_more : (K : Stack) (b : Built) (c : Counts) → ((b : Built) (c : Counts) → Completed K b c) → Completed (ask Machine.states_more ∷ K) b c
unfolding run feed choose rule_of tallied among within word_no expression_no list_no joined
by-states_more K b c r = begin K (at period) [] refl refl (refl, tt) (λ vs. refl) (r _ _)

pub by-operation_spec : (K : Stack) (b : Built) (c : Counts) → ((b : Built) (c : Counts) → Completed K b c) → Completed (ask Machine.operation_spec ∷ K) b c
unfolding run feed choose rule_of tallied among within word_no expression_no list_no joined
by-operation_spec K b c r = begin (make make_operation ∷ K) x (at equal_sign ∷ at open_bracket ∷ x ∷ at at_sign ∷ at close_bracket ∷ []) refl refl (tt, (refl, (refl, (tt, (refl, (refl, tt)))))) (λ vs. refl) (makes make_operation (r _ _))

pub by-state_start : (K : Stack) (b : Built) (c : Counts) → ((b : Built) (c : Counts) → Completed K b c) → Completed (ask Machine.state_start ∷ K) b c
unfolding run feed choose rule_of tallied among within word_no expression_no list_no joined
by-state_start K b c r = begin (make make_state ∷ K) (at slash) [] refl refl (refl, tt) (λ vs. refl) (makes make_state (r _ _))

pub by-state_body : (K : Stack) (b : Built) (c : Counts) → ((b : Built) (c : Counts) → Completed K b c) → Completed (ask Machine.state_body ∷ K) b c
unfolding run feed choose rule_of tallied among within word_no expression_no list_no joined
by-state_body K b c r = begin (make make_state ∷ K) (at slash) [] refl refl (refl, tt) (λ vs. refl) (makes make_state (r _ _))

pub by-dollar_option : (K : Stack) (b : Built) (c : Counts) → ((b : Built) (c : Counts) → Completed K b c) → Completed (ask Machine.dollar_option ∷ K) b c
unfolding run feed choose rule_of tallied among within word_no expression_no list_no joined
by-dollar_option K b c r = begin K (at dollar) [] refl refl (refl, tt) (λ vs. refl) (r _ _)

pub by-register_spec : (K : Stack) (b : Built) (c : Counts) → ((b : Built) (c : Counts) → Completed K b c) → Completed (ask Machine.register_spec ∷ K) b c
unfolding run feed choose rule_of tallied among within word_no expression_no list_no joined
by-register_spec K b c r = begin (ask Machine.dimensions ∷ make make_register ∷ K) x [] refl refl (tt, tt) (λ vs. refl) (by-dimensions (make make_register ∷ K) _ _ (λ b c. makes make_register (r _ _)))

pub by-sequencing_spec : (K : Stack) (b : Built) (c : Counts) → ((b : Built) (c : Counts) → Completed K b c) → Completed (ask Machine.sequencing_spec ∷ K) b c
unfolding run feed choose rule_of tallied among within word_no expression_no list_no joined
by-sequencing_spec K b c r = begin (ask Machine.dimensions ∷ make make_sequencing ∷ K) x [] refl refl (tt, tt) (λ vs. refl) (by-dimensions (make make_sequencing ∷ K) _ _ (λ b c. makes make_sequencing (r _ _)))

pub by-memory_spec : (K : Stack) (b : Built) (c : Counts) → ((b : Built) (c : Counts) → Completed K b c) → Completed (ask Machine.memory_spec ∷ K) b c
unfolding run feed choose rule_of tallied among within word_no expression_no list_no joined
by-memory_spec K b c r = begin (ask Machine.dimensions ∷ make make_memory ∷ K) x [] refl refl (tt, tt) (λ vs. refl) (by-dimensions (make make_memory ∷ K) _ _ (λ b c. makes make_memory (r _ _)))

pub by-terminal_spec : (K : Stack) (b : Built) (c : Counts) → ((b : Built) (c : Counts) → Completed K b c) → Completed (ask Machine.terminal_spec ∷ K) b c
unfolding run feed choose rule_of tallied among within word_no expression_no list_no joined
by-terminal_spec K b c r = begin (ask Machine.terminal_dimensions ∷ K) x [] refl refl (tt, tt) (λ vs. refl) (by-terminal_dimensions K _ _ r)

pub by-operations_more : (K : Stack) (b : Built) (c : Counts) → ((b : Built) (c : Counts) → Completed K b c) → Completed (ask Machine.operations_more ∷ K) b c
unfolding run feed choose rule_of tallied among within word_no expression_no list_no joined
by-operations_more K b c r = begin (ask Machine.state_start ∷ ask Machine.states_more ∷ ask Machine.dollar_option ∷ K) (at control_word) [] refl refl (refl, tt) (λ vs. refl) (by-state_start _ _ _ (λ b c. by-states_more _ b c (λ b c. by-dollar_option K b c r)))

pub by-control : (K : Stack) (b : Built) (c : Counts) → ((b : Built) (c : Counts) → Completed K b c) → Completed (ask Machine.control ∷ K) b c
unfolding run feed choose rule_of tallied among within word_no expression_no list_no joined
by-control K b c r = begin (ask Machine.state_start ∷ ask Machine.states_more ∷ ask Machine.dollar_option ∷ K) (at control_word) [] refl refl (refl, tt) (λ vs. refl) (by-state_start _ _ _ (λ b c. by-states_more _ b c (λ b c. by-dollar_option K b c r)))

pub by-after_terminals : (K : Stack) (b : Built) (c : Counts) → ((b : Built) (c : Counts) → Completed K b c) → Completed (ask Machine.after_terminals ∷ K) b c
unfolding run feed choose rule_of tallied among within word_no expression_no list_no joined
by-after_terminals K b c r = begin (ask Machine.state_start ∷ ask Machine.states_more ∷ ask Machine.dollar_option ∷ K) (at control_word) [] refl refl (refl, tt) (λ vs. refl) (by-state_start _ _ _ (λ b c. by-states_more _ b c (λ b c. by-dollar_option K b c r)))

pub by-after_memories : (K : Stack) (b : Built) (c : Counts) → ((b : Built) (c : Counts) → Completed K b c) → Completed (ask Machine.after_memories ∷ K) b c
unfolding run feed choose rule_of tallied among within word_no expression_no list_no joined
by-after_memories K b c r = begin (ask Machine.state_start ∷ ask Machine.states_more ∷ ask Machine.dollar_option ∷ K) (at control_word) [] refl refl (refl, tt) (λ vs. refl) (by-state_start _ _ _ (λ b c. by-states_more _ b c (λ b c. by-dollar_option K b c r)))

pub by-after_registers : (K : Stack) (b : Built) (c : Counts) → ((b : Built) (c : Counts) → Completed K b c) → Completed (ask Machine.after_registers ∷ K) b c
unfolding run feed choose rule_of tallied among within word_no expression_no list_no joined
by-after_registers K b c r = begin (ask Machine.state_start ∷ ask Machine.states_more ∷ ask Machine.dollar_option ∷ K) (at control_word) [] refl refl (refl, tt) (λ vs. refl) (by-state_start _ _ _ (λ b c. by-states_more _ b c (λ b c. by-dollar_option K b c r)))

pub by-store_sign : (K : Stack) (b : Built) (c : Counts) → among (head_of K) after_or ≡ false → ((b : Built) (c : Counts) → Completed K b c) → Completed (ask Machine.store_sign ∷ K) b c
unfolding run feed choose rule_of tallied among within word_no expression_no list_no joined
by-store_sign K b c f r = begin (make make_constant ∷ ask Machine.arithmetic_tail ∷ ask Machine.relation_tail ∷ ask Machine.cut_tail ∷ ask Machine.con_tail ∷ ask Machine.and_tail ∷ ask Machine.exclusive_tail ∷ ask Machine.or_tail ∷ make make_store ∷ K) (at equal_sign) (i ∷ []) refl refl (refl, (tt, tt)) (λ vs. refl) (makes make_constant (tails-7 f (makes make_store (r _ _))))

pub by-sections : (K : Stack) (b : Built) (c : Counts) → ((b : Built) (c : Counts) → Completed K b c) → Completed (ask Machine.sections ∷ K) b c
unfolding run feed choose rule_of tallied among within word_no expression_no list_no joined
by-sections K b c r =
    begin (ask Machine.terminal_spec ∷ ask Machine.terminal_more ∷ ask Machine.after_terminals ∷ K) (at terminal_word) [] refl refl (refl, tt) (λ vs. refl)
    (by-terminal_spec (ask Machine.terminal_more ∷ ask Machine.after_terminals ∷ K) _ _ (λ b c. by-terminal_more (ask Machine.after_terminals ∷ K) b c (λ b c. by-after_terminals K b c r)))

pub by-function_of : (K : Stack) (b : Built) (c : Counts) → ((b : Built) (c : Counts) → Completed K b c) → Completed (ask Machine.function_of ∷ K) b c
unfolding run feed choose rule_of tallied among within word_no expression_no list_no joined
by-function_of K b c r = begin (again ∷ closing close_paren ∷ make make_input ∷ K) (at input_word) (at open_paren ∷ i ∷ at comma ∷ []) refl refl (refl, (refl, (tt, (refl, tt)))) (λ vs. refl) (repeats (words close_paren Machine.closes (makes make_input (r _ _))))

pub by-terminal_function : (K : Stack) (b : Built) (c : Counts) → ((b : Built) (c : Counts) → Completed K b c) → Completed (ask Machine.terminal_function ∷ K) b c
unfolding run feed choose rule_of tallied among within word_no expression_no list_no joined
by-terminal_function K b c r = begin (again ∷ closing close_paren ∷ make make_input ∷ K) (at equal_sign) (at input_word ∷ at open_paren ∷ i ∷ at comma ∷ []) refl refl (refl, (refl, (refl, (tt, (refl, tt))))) (λ vs. refl) (repeats (words close_paren Machine.closes (makes make_input (r _ _))))

pub by-after_constant : (K : Stack) (b : Built) (c : Counts) → ((b : Built) (c : Counts) → Completed (drop 1 K) b c) → Completed (ask Machine.after_constant ∷ K) b c
unfolding run feed choose rule_of tallied among within word_no expression_no list_no joined
by-after_constant K b c r = begin (make make_part ∷ drop 1 K) (at colon) (i ∷ at close_bracket ∷ []) refl refl (refl, (tt, (refl, tt))) (λ vs. refl) (makes make_part (r _ _))

pub by-after_second_constant : (K : Stack) (b : Built) (c : Counts) → ((b : Built) (c : Counts) → Completed (drop 1 K) b c) → Completed (ask Machine.after_second_constant ∷ K) b c
unfolding run feed choose rule_of tallied among within word_no expression_no list_no joined
by-after_second_constant K b c r = begin (make make_word_part ∷ drop 1 K) (at colon) (i ∷ at close_bracket ∷ []) refl refl (refl, (tt, (refl, tt))) (λ vs. refl) (makes make_word_part (r _ _))
