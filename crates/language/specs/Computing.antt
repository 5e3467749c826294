-- What examples that compute see through: every definition, part by part.
use Rattle.language.specs.Acting as Acting
use Rattle.language.specs.ActionRules as ActionRules
use Rattle.language.specs.Building as Building
use Rattle.language.specs.Calls as Calls
use Rattle.language.specs.Canonical as Canonical
use Rattle.language.specs.CountedWords as CountedWords
use Rattle.language.specs.Ceilings as Ceilings
use Rattle.language.specs.Characters as Characters
use Rattle.language.specs.Constants as Constants
use Rattle.language.specs.Decode as Decode
use Rattle.language.specs.Describe as Describe
use Rattle.language.specs.DescribeText as DescribeText
use Rattle.language.specs.Description as Description
use Rattle.language.specs.Encode as Encode
use Rattle.language.specs.Expressions as Expressions
use Rattle.language.specs.Image as Image
use Rattle.language.specs.InputLines as InputLines
use Rattle.language.specs.Judging as Judging
use Rattle.language.specs.Layout as Layout
use Rattle.language.specs.Columns as Columns
use Rattle.language.specs.Lookups as Lookups
use Rattle.language.specs.Machine as Machine
use Rattle.language.specs.Meaning as Meaning
use Rattle.language.specs.Naming as Naming
use Rattle.language.specs.Operators as Operators
use Rattle.language.specs.Order as Order
use Rattle.language.specs.Reading as Reading
use Rattle.language.specs.RecordBytes as RecordBytes
use Rattle.language.specs.Recursion as Recursion
use Rattle.language.specs.ReferenceRules as ReferenceRules
use Rattle.language.specs.References as References
use Rattle.language.specs.Rules as Rules
use Rattle.language.specs.Scan as Scan
use Rattle.language.specs.SectionWays as SectionWays
use Rattle.language.specs.Step as Step
use Rattle.language.specs.Store as Store
use Rattle.language.specs.Storing as Storing
use Rattle.language.specs.Trace as Trace
use Rattle.language.specs.Value as Value
use Rattle.language.specs.WordStage as WordStage
use Rattle.std.specs.Int.Count as Count

-- Values and constants (the manual, 2.3 and 5.3).
unfoldable pub values : Unit {0}
unfolding Count.ones Count.ones_in Ceilings.longest Value.fit Value.sum_length Value.difference_length Value.negation_length Value.relation_length Value.complement_length Value.logical_length Value.join_length Value.repeat_length Value.cut_length Value.reduction_length Value.count_length Value.difference_number Value.complement_number Value.repeated Value.sum Value.difference Value.negation Value.related Value.equal Value.unequal Value.less Value.greater Value.at_most Value.at_least Value.complement Value.conjunction Value.exclusive Value.disjunction Value.join Value.extended Value.head Value.tail Value.or_reduction Value.and_reduction Value.exclusive_reduction Value.sum_reduction Value.part_length Value.part Value.replaced Constants.digits_after Constants.right_justified Constants.left_justified Constants.binary_constant Constants.decimal_constant Constants.bare_length Constants.bare_constant Ceilings.bare_largest
values = tt

-- From bytes to words (the manual, 2).
unfoldable pub words : Unit {0}
unfolding Characters.member Characters.folded Characters.symbols Characters.class_of Characters.digit_worth Scan.bytes Scan.same Scan.span Scan.reserved_words Scan.reserved_among Ceilings.longest_name Scan.name_at Scan.digit_bits Scan.digits_of Scan.binary_at Scan.decimal_at Scan.bare_at Scan.constant_at Scan.spelled_symbols Scan.symbol_among Scan.comment_at Scan.item_at Ceilings.longest_line Columns.width_after Columns.too_wide_after Columns.long_lines WordStage.before WordStage.least WordStage.scan_from WordStage.scan WordStage.words_from WordStage.word_faults WordStage.word_fault
words = tt

-- From words to a tree: the grammar (the manual, Appendix B), and the machine that follows it word by word.
unfoldable pub grammar : Unit {0}
unfolding Building.word_no Building.expression_no Building.list_no Building.joined Ceilings.most_facilities Ceilings.most_operations Ceilings.most_states Ceilings.most_counted Ceilings.deepest Machine.tallied Machine.within_ceilings Machine.choose Machine.feed Machine.finish Machine.run SectionWays.rule_of SectionWays.parse_with SectionWays.parse CountedWords.counted_expression CountedWords.counted_actions CountedWords.counted_terminals CountedWords.counted_operations CountedWords.counted_states CountedWords.counted_words
grammar = tt

-- From a tree to records, and the rules that they must keep.
unfoldable pub rules : Unit {0}
unfolding Recursion.below Description.span_of Description.in_bounds Description.from_first Description.word_length Description.word_count Description.digit_length Description.further_digits Description.facility_at Description.node_at Description.action_at Description.operation_at Description.state_at Description.sequencing_from Description.sequencing_of Description.node_place Description.action_place Description.facility_place Description.operation_place Description.state_place Naming.number_of Naming.meaning Describe.bound Describe.count Describe.constant_size Describe.expression_size Describe.expressions_in Describe.actions_in Describe.arms_of Describe.arms_in Describe.digits_above Describe.constant_nodes Describe.nodes_of Describe.nodes_in Describe.actions_of DescribeText.facilities_of DescribeText.facility_nodes DescribeText.function_sizes DescribeText.operations_of DescribeText.operation_nodes DescribeText.operation_actions DescribeText.operation_expressions DescribeText.operation_records DescribeText.state_constant DescribeText.states_of DescribeText.state_nodes DescribeText.state_actions DescribeText.describe Operators.binary_length Operators.prefix_length Operators.cut_length_of Operators.binary_of Operators.prefix_of Operators.cut_of Judging.proper Judging.arm_list Judging.sized References.right_count References.taken_length References.same_direction ReferenceRules.bound_faults ReferenceRules.direction_faults ReferenceRules.subscripts_judged ReferenceRules.reference_judged Expressions.longest_selector Expressions.selects Expressions.own_work Expressions.evenly Expressions.judge_node Expressions.judge_below Expressions.judge_at Expressions.left_at Expressions.terminal_below Expressions.terminal_judged Storing.may_store ActionRules.kind_at ActionRules.simple_judged ActionRules.list_judged ActionRules.arms_judged ActionRules.run_below ActionRules.run_judged ActionRules.operation_below ActionRules.operation_judged Layout.word_bytes Layout.facility_bytes Layout.place_in Layout.store_size_of Layout.store_size Layout.bytes_of Layout.number_after Layout.word_to_bytes Layout.word_from_bytes Layout.no_spare_bits Ceilings.largest_bound Ceilings.largest_store Ceilings.most_work Rules.declared Rules.name_faults Rules.bounds_faults Rules.sequencing_right Rules.facility_faults Rules.facilities_faults Rules.operations_faults Rules.repeated Rules.state_faults Rules.states_faults Rules.sequencing_length Rules.faults
rules = tt

-- The image in bytes, and which images pass.
unfoldable pub image : Unit {0}
unfolding Encode.little Encode.facility_record Encode.facility_records Encode.operation_record Encode.node_bytes Encode.action_bytes Encode.state_record Encode.concat Encode.name_bytes Encode.sections_of Encode.image_of Encode.encode Decode.number_at Decode.kind_of Decode.facility_of Decode.digits_marked Decode.digits_before Decode.constant_at Decode.operator_of Decode.plain_node Decode.node_of Decode.action_with Decode.action_of Decode.facilities_at Decode.operations_at Decode.states_at Decode.names_length Decode.up_to Decode.described Decode.sections_in Decode.decode Order.digits_stand Order.constant_start Order.start_node Order.start_below Order.start_at Order.trees_end Order.facility_roots Order.run_roots Order.operation_roots Order.state_roots Order.trees_right Order.operations_end Order.states_end Order.runs_right Canonical.facility_right Canonical.facilities_right Canonical.name_parts Canonical.name_right Canonical.all Canonical.total Canonical.counted_records Canonical.counts_right Canonical.canonical Image.legal_form Image.passes
image = tt

-- A cycle: expressions, actions, the store, the next state.
unfoldable pub cycle : Unit {0}
unfolding Meaning.located Meaning.fitting Meaning.decides Meaning.arm_number Meaning.place_of Meaning.arm_back Meaning.eval_node Meaning.eval_below Meaning.eval_at Acting.side Acting.put_all Acting.landing Acting.storing Acting.arm_at Acting.list_act Acting.list_below Acting.run_list Acting.operation_below Acting.run_actions Store.word_of Store.set_word Store.load_part Store.put_part Store.put_parts Store.land_all Store.meet Store.meets_any Store.any_meets Store.conflicts Store.words_from Store.words_to Store.from_bytes Store.to_bytes Store.all_narrow Store.narrow Store.zero_words Store.inputs_of Store.begin Ceilings.most_returns Ceilings.last_cycle Step.state_number Step.bearer Step.plain_next Step.stop_after Step.next_record Step.finished Step.step
cycle = tt

-- The public calls to the byte, and the trace.
unfoldable pub calls : Unit {0}
unfolding Reading.filled Ceilings.longest_text Reading.rest_of Reading.read_text Reading.read RecordBytes.open_mark RecordBytes.fours RecordBytes.record_bytes RecordBytes.returns_from RecordBytes.record_from RecordBytes.returns_sound RecordBytes.sound RecordBytes.marked Calls.open_refusal Calls.open_words Calls.open' Calls.stimulus_size Calls.roomy Calls.sound_bytes Calls.well_formed Calls.cycle_refusal Calls.cycle Calls.all_well_formed Calls.run_refusal Calls.cycles Calls.run Lookups.facility_part Lookups.state_part Lookups.facility_name Lookups.state_name Lookups.facility InputLines.lines_of Trace.decimal_from Trace.bits Trace.facilities_line Trace.cycle_line Trace.bits_number Trace.line_words Trace.run_lines Trace.trace_image Trace.trace
calls = tt

unfoldable pub computing : Unit {0}
unfolding values words grammar rules image cycle calls
computing = tt
