use mathlib.Core.Path.{◌≡◌}
use Prim.Native.Nat.{◌≤◌}
use lib.ListN.{length as size}
use Rattle.store_layout.specs.Layout.{Bytes}
use Rattle.store_layout.specs.Parts.{with_part}
use Rattle.store_words.proofs.bits.put_by_bytes.Given as goal

abbrev pub invariant-loop-left : goal.invariant-loop-left
invariant-loop-left l = (l.left ≤ l.count) × (size l.s ≡ size l.initial.s) × Bytes l.s × (with_part l.s l.at l.length l.low l.left l.v ≡ with_part l.initial.s l.at l.length l.low l.count l.v)

abbrev pub decreases-loop-left : goal.decreases-loop-left
decreases-loop-left l = l.left
