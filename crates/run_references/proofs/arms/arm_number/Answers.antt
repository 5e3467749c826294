use native.Mathlib.Omega.{arith}
use Rattle.run_references.proofs.BoundLaws.{arm-taken, last_arm, no_arm}
use Rattle.run_references.proofs.arms.arm_number.Goals as goal

pub returns-then-k-eq0 : goal.returns-then-k-eq0
returns-then-k-eq0 c =
    last_arm _ _ _ c.small-k.ensures c.if-k-eq0.true

pub returns-then-k-n : goal.returns-then-k-n
returns-then-k-n c =
    arm-taken _ _ _ c.small-k.ensures c.if-k-eq0.false c.if-k-n.true (omega arith)

pub returns : goal.returns
returns c =
    no_arm _ _ _ c.small-k.ensures c.if-k-eq0.false c.if-k-n.false
