-- Every stack that the machine comes to can be completed, and so some text of the grammar begins with the words that were taken.
use Rattle.std.specs.Prelude.{true, false, List, [], ◌∷◌, ◌≡◌, refl}
use Rattle.language.specs.Alternatives.{lead}
use Rattle.language.specs.Building.{Built, begin_list, make_arm, make_next_arm}
use Rattle.language.specs.Declaring.{tree_steps}
use Rattle.language.specs.Kinds.{comma, do_word}
use Rattle.language.specs.Machine
use Rattle.language.specs.Machine.{Alternative, Ask, Counts, again, ask, ease, finish, keep, make, run, word}
use Rattle.language.specs.SectionWays.{rule_of}
use Rattle.language.specs.Ways.{and_ways, arithmetic_tail_ways, con_ways, cut_ways, exclusive_ways, or_ways, relation_ways}
use Rattle.about_grammar.specs.Completing.{Completed, eases, keeps, makes, omitted, repeats, words}
use Rattle.about_grammar.specs.CompletingNotions.{by-adjustment, by-after_constant, by-after_memories, by-after_registers, by-after_second_constant, by-after_subscript, by-after_terminals, by-arithmetic, by-complement, by-control, by-dimension_rest, by-dimensions, by-dollar_option, by-expression, by-first_name, by-function_of, by-left_rest, by-memory_more, by-memory_spec, by-minterm, by-operand_rest, by-operation_action, by-operation_if_rest, by-operation_name, by-operation_spec, by-operations_more, by_product, by-range_rest, by-reduction, by-register_more, by-register_spec, by-second, by-second_end, by-second_option, by-second_rest, by-sections, by-sequencing_spec, by-set_sign, by-state_action, by-state_body, by-state_if_rest, by-state_name, by-state_rest, by-state_start, by-states_more, by-store_sign, by-subscript, by-subscripts, by-term, by-terminal_dimensions, by-terminal_function, by-terminal_more, by-terminal_rest, by-terminal_spec}
use Rattle.about_grammar.specs.Courses.{Stack}
use Rattle.about_grammar.specs.Fine.{Fine, bad, head_of}
use Rattle.about_grammar.specs.Following.{among, among-within, within}
use Rattle.about_grammar.specs.Stacks.{kinds_of}

ended : (b : Built) (c : Counts) → Completed [] b c
unfolding run finish
ended b c = record { words = []; proper = tt; head = refl; result = b; accepted = refl }

-- A loop is left out.
left_out : {K : Stack} (a : Ask) (ways : List (Alternative Built)) → rule_of tree_steps a ≡ record { ways = ways; without = Machine.may (λ p d. d) } → head_of (ask a ∷ K) ≡ head_of K → within (kinds_of ways) (bad a) ≡ true → among (head_of K) (bad a) ≡ false
    → (b : Built) (c : Counts) → Completed K b c → Completed (ask a ∷ K) b c
left_out {K} a ways e s w f b c r = omitted a ways e s (among-within (head_of K) (kinds_of ways) (bad a) w f) r

pub completed : (K : Stack) → Fine K → (b : Built) (c : Counts) → Completed K b c
unfolding rule_of within among
completed [] x b c = ended b c
completed (word k g ∷ K) x b c = words k g (completed K x _ _)
completed (keep k ∷ K) x b c = keeps k (completed K x _ _)
completed (again ∷ K) x b c = repeats (completed K x _ _)
completed (make f ∷ K) x b c = makes f (completed K x _ _)
completed (ease ∷ K) x b c = eases (completed K x _ _)
completed (ask Machine.expression ∷ K) x b c = by-expression K b c x.0 (completed K x.1)
completed (ask Machine.minterm ∷ K) x b c = by-minterm K b c x.0 (completed K x.1)
completed (ask Machine.product ∷ K) x b c = by_product K b c x.0 (completed K x.1)
completed (ask Machine.complement ∷ K) x b c = by-complement K b c x.0 (completed K x.1)
completed (ask Machine.reduction ∷ K) x b c = by-reduction K b c x.0 (completed K x.1)
completed (ask Machine.adjustment ∷ K) x b c = by-adjustment K b c x.0 (completed K x.1)
completed (ask Machine.arithmetic ∷ K) x b c = by-arithmetic K b c x.0 (completed K x.1)
completed (ask Machine.term ∷ K) x b c = by-term K b c (completed K x.1)
completed (ask Machine.or_tail ∷ K) x b c = left_out Machine.or_tail (or_ways tree_steps) refl refl refl x.0 b c (completed K x.1 b c)
completed (ask Machine.exclusive_tail ∷ K) x b c = left_out Machine.exclusive_tail (exclusive_ways tree_steps) refl refl refl x.0 b c (completed K x.1 b c)
completed (ask Machine.and_tail ∷ K) x b c = left_out Machine.and_tail (and_ways tree_steps) refl refl refl x.0 b c (completed K x.1 b c)
completed (ask Machine.con_tail ∷ K) x b c = left_out Machine.con_tail (con_ways tree_steps) refl refl refl x.0 b c (completed K x.1 b c)
completed (ask Machine.cut_tail ∷ K) x b c = left_out Machine.cut_tail (cut_ways tree_steps) refl refl refl x.0 b c (completed K x.1 b c)
completed (ask Machine.relation_tail ∷ K) x b c = left_out Machine.relation_tail (relation_ways tree_steps) refl refl refl x.0 b c (completed K x.1 b c)
completed (ask Machine.arithmetic_tail ∷ K) x b c = left_out Machine.arithmetic_tail (arithmetic_tail_ways tree_steps) refl refl refl x.0 b c (completed K x.1 b c)
completed (ask Machine.more_arms ∷ K) x b c = left_out Machine.more_arms (lead do_word (ask Machine.expression ∷ make make_next_arm ∷ ask Machine.more_arms ∷ []) ∷ []) refl refl refl x.0 b c (completed K x.1 b c)
completed (ask Machine.subscripts ∷ K) x b c = by-subscripts K b c (completed K x.1)
completed (ask Machine.subscript ∷ K) x b c = by-subscript K b c (completed K x.1)
completed (ask Machine.after_constant ∷ []) x b c = by-after_constant [] b c ended
completed (ask Machine.after_constant ∷ word k g ∷ K) x b c = by-after_constant (word k g ∷ K) b c (completed K x.1)
completed (ask Machine.after_constant ∷ keep k ∷ K) x b c = by-after_constant (keep k ∷ K) b c (completed K x.1)
completed (ask Machine.after_constant ∷ again ∷ K) x b c = by-after_constant (again ∷ K) b c (completed K x.1)
completed (ask Machine.after_constant ∷ make f ∷ K) x b c = by-after_constant (make f ∷ K) b c (completed K x.1)
completed (ask Machine.after_constant ∷ ease ∷ K) x b c = by-after_constant (ease ∷ K) b c (completed K x.1)
completed (ask Machine.after_constant ∷ ask n ∷ K) x b c = by-after_constant (ask n ∷ K) b c (completed K x.1.1)
completed (ask Machine.operand_rest ∷ K) x b c = by-operand_rest K b c (completed K x.1)
completed (ask Machine.after_subscript ∷ K) x b c = by-after_subscript K b c (completed K x.1)
completed (ask Machine.second_option ∷ K) x b c = by-second_option K b c (completed K x.1)
completed (ask Machine.second ∷ K) x b c = by-second K b c (completed K x.1)
completed (ask Machine.after_second_constant ∷ []) x b c = by-after_second_constant [] b c ended
completed (ask Machine.after_second_constant ∷ word k g ∷ K) x b c = by-after_second_constant (word k g ∷ K) b c (completed K x.1)
completed (ask Machine.after_second_constant ∷ keep k ∷ K) x b c = by-after_second_constant (keep k ∷ K) b c (completed K x.1)
completed (ask Machine.after_second_constant ∷ again ∷ K) x b c = by-after_second_constant (again ∷ K) b c (completed K x.1)
completed (ask Machine.after_second_constant ∷ make f ∷ K) x b c = by-after_second_constant (make f ∷ K) b c (completed K x.1)
completed (ask Machine.after_second_constant ∷ ease ∷ K) x b c = by-after_second_constant (ease ∷ K) b c (completed K x.1)
completed (ask Machine.after_second_constant ∷ ask n ∷ K) x b c = by-after_second_constant (ask n ∷ K) b c (completed K x.1.1)
completed (ask Machine.second_rest ∷ K) x b c = by-second_rest K b c (completed K x.1)
completed (ask Machine.second_end ∷ K) x b c = by-second_end K b c (completed K x.1)
completed (ask Machine.operation_action ∷ K) x b c = by-operation_action K b c (completed K x.1)
completed (ask Machine.state_action ∷ K) x b c = by-state_action K b c (completed K x.1)
completed (ask Machine.operation_more ∷ K) x b c = left_out Machine.operation_more (lead comma (ask Machine.operation_action ∷ ask Machine.operation_more ∷ []) ∷ []) refl refl refl x.0 b c (completed K x.1 b c)
completed (ask Machine.state_rest ∷ K) x b c = by-state_rest K b c (completed K x.1)
completed (ask Machine.state_more ∷ K) x b c = left_out Machine.state_more (lead comma (ask Machine.state_action ∷ ask Machine.state_more ∷ []) ∷ []) refl refl refl x.0 b c (completed K x.1 b c)
completed (ask Machine.operation_name ∷ K) x b c = by-operation_name K b c (completed K x.1)
completed (ask Machine.state_name ∷ K) x b c = by-state_name K b c (completed K x.1)
completed (ask Machine.left_rest ∷ K) x b c = by-left_rest K b c (completed K x.1)
completed (ask Machine.store_sign ∷ K) x b c = by-store_sign K b c x.0 (completed K x.1)
completed (ask Machine.set_sign ∷ K) x b c = by-set_sign K b c (completed K x.1)
completed (ask Machine.operation_if_rest ∷ K) x b c = by-operation_if_rest K b c (completed K x.1)
completed (ask Machine.state_if_rest ∷ K) x b c = by-state_if_rest K b c (completed K x.1)
completed (ask Machine.operation_arms ∷ K) x b c = left_out Machine.operation_arms (lead do_word (make begin_list ∷ ask Machine.operation_action ∷ ask Machine.operation_more ∷ make make_arm ∷ ask Machine.operation_arms ∷ []) ∷ []) refl refl refl x.0 b c (completed K x.1 b c)
completed (ask Machine.state_arms ∷ K) x b c = left_out Machine.state_arms (lead do_word (make begin_list ∷ ask Machine.state_action ∷ ask Machine.state_more ∷ make make_arm ∷ ask Machine.state_arms ∷ []) ∷ []) refl refl refl x.0 b c (completed K x.1 b c)
completed (ask Machine.dimensions ∷ K) x b c = by-dimensions K b c (completed K x.1)
completed (ask Machine.range_rest ∷ K) x b c = by-range_rest K b c (completed K x.1)
completed (ask Machine.dimension_rest ∷ K) x b c = by-dimension_rest K b c (completed K x.1)
completed (ask Machine.register_spec ∷ K) x b c = by-register_spec K b c (completed K x.1)
completed (ask Machine.sequencing_spec ∷ K) x b c = by-sequencing_spec K b c (completed K x.1)
completed (ask Machine.memory_spec ∷ K) x b c = by-memory_spec K b c (completed K x.1)
completed (ask Machine.terminal_spec ∷ K) x b c = by-terminal_spec K b c (completed K x.1)
completed (ask Machine.register_more ∷ K) x b c = by-register_more K b c (completed K x.1)
completed (ask Machine.memory_more ∷ K) x b c = by-memory_more K b c (completed K x.1)
completed (ask Machine.terminal_more ∷ K) x b c = by-terminal_more K b c (completed K x.1)
completed (ask Machine.terminal_dimensions ∷ K) x b c = by-terminal_dimensions K b c (completed K x.1)
completed (ask Machine.terminal_rest ∷ K) x b c = by-terminal_rest K b c (completed K x.1)
completed (ask Machine.terminal_function ∷ K) x b c = by-terminal_function K b c (completed K x.1)
completed (ask Machine.function_of ∷ K) x b c = by-function_of K b c (completed K x.1)
completed (ask Machine.operation_spec ∷ K) x b c = by-operation_spec K b c (completed K x.1)
completed (ask Machine.operations_more ∷ K) x b c = by-operations_more K b c (completed K x.1)
completed (ask Machine.state_start ∷ K) x b c = by-state_start K b c (completed K x.1)
completed (ask Machine.first_name ∷ K) x b c = by-first_name K b c (completed K x.1)
completed (ask Machine.state_body ∷ K) x b c = by-state_body K b c (completed K x.1)
completed (ask Machine.states_more ∷ K) x b c = by-states_more K b c (completed K x.1)
completed (ask Machine.sections ∷ K) x b c = by-sections K b c (completed K x.1)
completed (ask Machine.after_registers ∷ K) x b c = by-after_registers K b c (completed K x.1)
completed (ask Machine.after_memories ∷ K) x b c = by-after_memories K b c (completed K x.1)
completed (ask Machine.after_terminals ∷ K) x b c = by-after_terminals K b c (completed K x.1)
completed (ask Machine.control ∷ K) x b c = by-control K b c (completed K x.1)
completed (ask Machine.dollar_option ∷ K) x b c = by-dollar_option K b c (completed K x.1)
