use mathlib.Core.Path.{◌≡◌}
use Prim.Native.Nat.{◌-◌, ◌≤◌}
use lib.ListN.{length}
use Rattle.language.specs.WordStage.{least, scan}
use Rattle.text_words.proofs.Walk.{scanned}
use Rattle.text_words.proofs.stage.first_wrong.Given as goal

abbrev pub invariant-loop-at : goal.invariant-loop-at
invariant-loop-at l = (l.at ≤ length l.text) × (least (scan l.text).faults ≡ least (scanned l.text l.at).faults)

abbrev pub decreases-loop-at : goal.decreases-loop-at
decreases-loop-at l = length l.text - l.at
