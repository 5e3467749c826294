use mathlib.Core.Path.{◌≡◌}
use Prim.Native.Nat.{◌+◌, ◌≤◌}
use native.Mathlib.Omega.{arith}
use lib.ListN.{length}
use lib.Seq.{paste-zero}
use Rattle.image_records.proofs.ByteLaws.{pasted-all, pasted-more, placed-nothing}
use Rattle.image_records.proofs.bytes.put.Goals as goal
use Rattle.image_records.proofs.bytes.put.Goals.{else-at-s-via-then-at-s+else-bytes-s, else-at-s-via-else-at-s}

pub loop-i-init : goal.loop-i-init
loop-i-init c =
    paste-zero c.args.s.now c.args.at c.args.bytes.now

pub loop-i-preserved : goal.loop-i-preserved
loop-i-preserved c =
    let h : c.args.at + length c.args.bytes.now ≤ length c.args.s.now = omega arith in
    pasted-more _ _ _ _ c.loop-i.invariant h (omega arith)

pub returns-after-loop-i : goal.returns-after-loop-i
returns-after-loop-i c =
    let h : c.args.at + length c.args.bytes.now ≤ length c.args.s.now = omega arith in
    pasted-all _ _ _ _ c.loop-i.invariant h (omega arith)

pub returns-else-at-s : goal.returns-else-at-s
returns-else-at-s c =
    placed-nothing _ _ _ (elim c.else-at-s.branch [ else-at-s-via-then-at-s+else-bytes-s w ↦ omega arith | else-at-s-via-else-at-s w ↦ omega arith ])
