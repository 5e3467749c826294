use mathlib.Core.Path.{◌≡◌}
use Prim.Native.Nat.{◌≤◌}
use lib.ListN.{drop}
use Rattle.language.specs.Columns.{long_lines}
use Rattle.language.specs.WordStage.{least}
use Rattle.text_words.proofs.lines.first_long.Given as goal

abbrev pub invariant-loop-at : goal.invariant-loop-at
invariant-loop-at l = (l.width ≤ 132) × (least (long_lines 0 0 l.text) ≡ least (long_lines l.width l.at (drop l.at l.text)))
