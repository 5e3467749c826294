use Rattle.judge_all.proofs.StateLaws.{states_from}
use Rattle.judge_all.specs.InSlices.{Performed}
use Rattle.judge_all.specs.BySections.{StatedBy}
use Rattle.language.specs.Description.{Description, Places}
use Rattle.language.specs.Rules.{sequencing_length, states_faults}
use Rattle.language.specs.WordStage.{least}
use Rattle.text_words.specs.Meaning.{judged, lesser}
use lib.ListN.{length}
use mathlib.Core.List.{[]}
use Prim.Native.Nat.{◌/◌}
use mathlib.Core.Path.{◌≡◌}
use Rattle.language.specs.Encode.{operation_size}
use Rattle.judge_all.proofs.states.states.Given as goal

abbrev pub invariant-loop-n : goal.invariant-loop-n
invariant-loop-n l = (d : Description) (p : Places) → StatedBy l.sections l.os l.sp d p → Performed l.kept (length l.os / operation_size) d p → lesser (judged l.all) (states_from d p (sequencing_length d p) l.n) ≡ least (states_faults d p (sequencing_length d p) [] 0 d.states)
