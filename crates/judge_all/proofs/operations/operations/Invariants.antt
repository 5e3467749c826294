use Rattle.judge_all.specs.BySections.{ActingBy}
use Rattle.judge_all.specs.InSlices.{Performed}
use Rattle.text_words.specs.Meaning.{judged, lesser}
use Rattle.language.specs.WordStage.{least}
use Rattle.language.specs.Rules.{operations_faults}
use Rattle.language.specs.Description.{Description, Places}
use lib.ListN.{length}
use Prim.Native.Nat.{◌-◌, ◌/◌}
use mathlib.Core.Path.{◌≡◌}
use Rattle.language.specs.Encode.{operation_size}
use Rattle.judge_all.proofs.operations.operations.Given as goal

abbrev pub invariant-loop-n : goal.invariant-loop-n
invariant-loop-n l = (length l.kept ≡ length l.initial.kept) × ((d : Description) (p : Places) → ActingBy l.sections l.os d p → (lesser (judged l.all) (least (operations_faults d p (length l.os / operation_size - l.n) l.n)) ≡ least (operations_faults d p (length l.os / operation_size) 0)) × Performed l.kept l.n d p)
