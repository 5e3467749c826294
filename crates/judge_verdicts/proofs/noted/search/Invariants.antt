use Prim.Native.Nat.{◌-◌, ◌≤◌}
use lib.ListN.{length}
use Rattle.judge_verdicts.specs.Noted.{noted_from}
use Rattle.judge_verdicts.proofs.noted.search.Given as goal

abbrev pub invariant-loop-low : goal.invariant-loop-low
invariant-loop-low l = (noted_from ≤ l.low) × (l.high ≤ length l.memo)

abbrev pub decreases-loop-low : goal.decreases-loop-low
decreases-loop-low l = l.high - l.low
