use Prim.Native.Nat.{◌≤◌}
use Rattle.run_expressions.specs.Chains.{Chain}
use Rattle.run_expressions.proofs.chains.foot.Given as goal

abbrev pub invariant-loop-b : goal.invariant-loop-b
invariant-loop-b l = (l.b ≤ l.n) × Chain l.expressions l.b l.n

abbrev pub decreases-loop-b : goal.decreases-loop-b
decreases-loop-b l = l.b
