use Rattle.judge_all.specs.BySections.{DeclaredBy}
use Rattle.judge_all.specs.InSlices.{Remembered}
use Rattle.text_words.specs.Meaning.{judged, lesser}
use Rattle.language.specs.WordStage.{least}
use Rattle.language.specs.Rules.{facilities_faults}
use Rattle.language.specs.Description.{Description, Places}
use lib.ListN.{drop, length}
use mathlib.Core.Path.{◌≡◌}
use mathlib.Core.Bool.{false}
use Rattle.judge_all.proofs.facilities.facilities.Given as goal

abbrev pub invariant-loop-n : goal.invariant-loop-n
invariant-loop-n l =
    (length l.memo ≡ length l.initial.memo)
    × ((d : Description) (p : Places) → DeclaredBy l.records d p → (lesser (judged l.all) (least (facilities_faults d p l.n l.another l.before (drop l.n d.facilities))) ≡ least (facilities_faults d p 0 false 0 d.facilities)) × Remembered l.records.facilities.now l.memo l.n d p)
