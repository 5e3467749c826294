use Prim.Native.Nat.{◌+◌, ◌*◌}
use Rattle.run_expressions.proofs.eval.+arm_binary_choice_distance_eval_operand_other_part.Given as goal

abbrev pub decreases-arm : goal.decreases-arm
decreases-arm l = 8 * l.n + 1

abbrev pub decreases-binary : goal.decreases-binary
decreases-binary l = 8 * l.n + 1

abbrev pub decreases-choice : goal.decreases-choice
decreases-choice l = 8 * l.n + 2

abbrev pub decreases-distance : goal.decreases-distance
decreases-distance l = 8 * l.n + 1

abbrev pub decreases-eval : goal.decreases-eval
decreases-eval l = 8 * l.n + 6

abbrev pub decreases-operand : goal.decreases-operand
decreases-operand l = 8 * l.n + 4

abbrev pub decreases-other : goal.decreases-other
decreases-other l = 8 * l.n + 5

abbrev pub decreases-part : goal.decreases-part
decreases-part l = 8 * l.n
