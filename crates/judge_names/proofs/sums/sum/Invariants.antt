use Prim.Native.Nat.{◌<◌}
use Rattle.judge_names.proofs.SumLaws.{SumLeft}
use Rattle.judge_names.proofs.sums.sum.Given as goal

abbrev pub invariant-loop-b : goal.invariant-loop-b
invariant-loop-b l = (l.total < 1024) × SumLeft l.name l.total l.b-index
