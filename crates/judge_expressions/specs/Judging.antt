-- What the records of facilities and expressions show, and the verdicts by them.
use Rattle.std.specs.Prelude.{List, ℕ}
use Rattle.language.specs.Description.{Description, Places}
use Rattle.language.specs.Judging.{Judged}
use Rattle.judge_verdicts.specs.Meaning.{Verdict}
use Rattle.judge_terms.specs.Shown.{Judges, NotesRight, Shown}
use Rattle.judge_expressions.specs.Filled.{Filled}
use Rattle.judge_expressions.specs.declared.Records.{Records}

abbrev pub ShownBy : Records → List ℕ → ℕ → Description → Places → (ℕ → Judged) → Type 0
ShownBy r memo known d p t = Shown r.facilities.now r.expressions.now r.facility_places.now r.expression_places.now memo known d p t

abbrev pub JudgesBy : Records → List ℕ → ℕ → (Description → Places → (ℕ → Judged) → Judged) → Verdict → Type 0
JudgesBy r memo known j v = Judges r.facilities.now r.expressions.now r.facility_places.now r.expression_places.now memo known j v

abbrev pub NotesBy : Records → List ℕ → ℕ → ℕ → Type 0
NotesBy r memo known e = NotesRight r.facilities.now r.expressions.now r.facility_places.now r.expression_places.now memo known e

abbrev pub FilledBy : Records → ℕ → List ℕ → List ℕ → ℕ → Type 0
FilledBy r known before after end = Filled r.facilities.now r.expressions.now r.facility_places.now r.expression_places.now known before after end
