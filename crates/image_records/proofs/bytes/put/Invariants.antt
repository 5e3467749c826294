use mathlib.Core.Path.{◌≡◌}
use lib.Seq.{paste}
use Rattle.image_records.proofs.bytes.put.Given as goal

abbrev pub invariant-loop-i : goal.invariant-loop-i
invariant-loop-i l = l.s ≡ paste l.initial.s l.at l.bytes l.i
