use mathlib.Core.Path.{◌≡◌}
use Prim.Native.Nat.{◌≤◌}
use lib.ListN.{length, take}
use Rattle.language.specs.RecordBytes.{fours}
use Rattle.image_records.specs.Placed.{placed}
use Rattle.run_soundness.proofs.record.write_returns.Given as goal

abbrev pub invariant-loop-i : goal.invariant-loop-i
invariant-loop-i l = (length l.bytes ≡ length l.initial.bytes) × (80 ≤ length l.initial.bytes → l.bytes ≡ placed l.initial.bytes 16 (fours (take l.i l.x-items)))
