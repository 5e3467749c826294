use Prim.Native.Nat.{◌+◌, ◌-◌, ◌*◌}
use Rattle.parse_step.specs.Course.{Seen}
use Rattle.parse_step.specs.Pays.{Comes}
use Rattle.parse_levels.specs.Orders.{rank_no, top_no}
use Rattle.parse_expressions.proofs.ArmLaws.{Armings}
use Rattle.parse_expressions.proofs.TailLaws.{Walks}
use Rattle.parse_expressions.proofs.+arms_choice_first_arm_group_inside_leading_more_arms_named_next_arm_opening_operation_reference_rest_second_single_start_subscript_term_whole.Given as goal

abbrev pub decreases-arms : goal.decreases-arms
decreases-arms l = (24 - l.s.nesting) * 1024 + 430

abbrev pub decreases-choice : goal.decreases-choice
decreases-choice l = (24 - l.s.nesting) * 1024 + 210

abbrev pub decreases-first_arm : goal.decreases-first_arm
decreases-first_arm l = (24 - l.s.nesting) * 1024 + 400

abbrev pub decreases-group : goal.decreases-group
decreases-group l = (24 - l.s.nesting) * 1024 + 210

abbrev pub decreases-inside : goal.decreases-inside
decreases-inside l = (24 - l.s.nesting) * 1024 + 400

abbrev pub decreases-leading : goal.decreases-leading
decreases-leading l = (24 - l.s.nesting) * 1024 + 213

abbrev pub decreases-more_arms : goal.decreases-more_arms
decreases-more_arms l = (24 - l.s.nesting) * 1024 + 410

abbrev pub decreases-named : goal.decreases-named
decreases-named l = (24 - l.s.nesting) * 1024 + 210

abbrev pub decreases-next_arm : goal.decreases-next_arm
decreases-next_arm l = (24 - l.s.nesting) * 1024 + 400

abbrev pub decreases-opening : goal.decreases-opening
decreases-opening l = (24 - l.s.nesting) * 1024 + 212

abbrev pub decreases-operation : goal.decreases-operation
decreases-operation l = (24 - l.s.nesting) * 1024 + 16 * rank_no l.rank + 216

abbrev pub decreases-reference : goal.decreases-reference
decreases-reference l = (24 - l.s.nesting) * 1024 + 209

abbrev pub decreases-rest : goal.decreases-rest
decreases-rest l = (24 - l.s.nesting) * 1024 + 16 * top_no l.level + 202

abbrev pub decreases-second : goal.decreases-second
decreases-second l = (24 - l.s.nesting) * 1024 + 1030

abbrev pub decreases-single : goal.decreases-single
decreases-single l = (24 - l.s.nesting) * 1024 + 7

abbrev pub decreases-start : goal.decreases-start
decreases-start l = (24 - l.s.nesting) * 1024 + 16 * top_no l.level + 215

abbrev pub decreases-subscript : goal.decreases-subscript
decreases-subscript l = (24 - l.s.nesting) * 1024 + 1032

abbrev pub decreases-term : goal.decreases-term
decreases-term l = (24 - l.s.nesting) * 1024 + 211

abbrev pub decreases-whole : goal.decreases-whole
decreases-whole l = (24 - l.s.nesting) * 1024 + 16 * top_no l.level + 214

abbrev pub invariant-more_arms-loop : goal.invariant-more_arms-loop
invariant-more_arms-loop l = Armings l.case l.text l.initial.next l.s l.initial.work l.n l.next l.state l.work l.count l.counter × (Seen l.text l.initial.next → Comes l.text 0 0 l.s l.next l.state)

abbrev pub invariant-rest-loop : goal.invariant-rest-loop
invariant-rest-loop l = Walks l.initial.from l.level l.text l.initial.next l.s l.initial.work l.from l.next l.state l.work l.counter × (Seen l.text l.initial.next → Comes l.text 0 0 l.s l.next l.state)
