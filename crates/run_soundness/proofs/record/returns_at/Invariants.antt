use mathlib.Core.Path.{◌≡◌}
use lib.ListN.{length}
use Rattle.run_soundness.proofs.RecordLaws.{AsFar}
use Rattle.run_soundness.proofs.record.returns_at.Given as goal

abbrev pub invariant-loop-i : goal.invariant-loop-i
invariant-loop-i l = (length l.x-items ≡ 16) × AsFar l.x-items 16 l.bytes l.i
