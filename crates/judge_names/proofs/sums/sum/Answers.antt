use native.Mathlib.Nat.{mod-lt}
use native.Mathlib.Omega.{arith}
use Prim.Native.Nat.{◌+◌, ◌*◌}
use lib.ListN.{get_or}
use Rattle.judge_names.proofs.SumLaws.{sum-last, sum-next}
use Rattle.judge_names.proofs.sums.sum.Goals as goal

pub loop-b-preserved : goal.loop-b-preserved
loop-b-preserved c =
    (mod-lt (c.loop-b.total * 45 + get_or c.args.name.now c.loop-b.b-index 0) (omega arith), sum-next c.args.name.now c.loop-b.total c.loop-b.b-index c.loop-b.invariant.1 c.loop-b-test.true)

pub returns : goal.returns
returns c = (c.loop-b.invariant.0, sum-last c.args.name.now c.loop-b.total c.loop-b.b-index c.loop-b.invariant.1 c.loop-b-test.false)
