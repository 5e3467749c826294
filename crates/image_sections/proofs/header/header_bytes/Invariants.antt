use mathlib.Core.Path.{◌≡◌}
use lib.ListN.{take}
use Rattle.language.specs.RecordBytes.{fours}
use Rattle.image_records.specs.Placed.{placed}
use Rattle.image_sections.proofs.header.header_bytes.Given as goal

abbrev pub invariant-loop-i : goal.invariant-loop-i
invariant-loop-i l = l.header ≡ placed l.initial.header 0 (fours (take l.i l.all))
