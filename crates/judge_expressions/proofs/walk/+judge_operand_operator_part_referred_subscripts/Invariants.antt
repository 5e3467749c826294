use Prim.Native.Nat.{◌+◌, ◌*◌}
use Rattle.judge_expressions.proofs.walk.+judge_operand_operator_part_referred_subscripts.Given as goal

abbrev pub decreases-judge : goal.decreases-judge
decreases-judge l = 6 * l.n + 5

abbrev pub decreases-operand : goal.decreases-operand
decreases-operand l = 6 * l.n + 1

abbrev pub decreases-operator : goal.decreases-operator
decreases-operator l = 6 * l.n + 4

abbrev pub decreases-part : goal.decreases-part
decreases-part l = 6 * l.n

abbrev pub decreases-referred : goal.decreases-referred
decreases-referred l = 6 * l.n + 3

abbrev pub decreases-subscripts : goal.decreases-subscripts
decreases-subscripts l = 6 * l.n + 2
