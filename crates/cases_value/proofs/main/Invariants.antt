use Rattle.std.proofs.Common.{◌-◌, ◌≤◌}
use Rattle.cases_value.proofs.main.Given as goal

abbrev pub invariant-loop-cases : goal.invariant-loop-cases
invariant-loop-cases l = l.wrong ≤ l.cases

abbrev pub decreases-loop-cases : goal.decreases-loop-cases
decreases-loop-cases l = 18446744073709551615 - l.cases
