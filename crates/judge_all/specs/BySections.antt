-- What records, sections and the slices of a whole description show.
use Rattle.std.specs.Prelude.{List, ◌≡◌, ℕ, Result}
use Rattle.language.specs.Description.{Description, Places}
use Rattle.language.specs.Encode as E
use Rattle.language.specs.Rules.{faults}
use Rattle.language.specs.WordStage.{least}
use Rattle.judge_records.specs.Noted.{Beside, noted_description, places_in}
use Rattle.text_words.specs.Meaning.{judged}
use Rattle.text_words.specs.declared.Fault.{Fault}
use Rattle.judge_expressions.specs.declared.Records.{Records}
use Rattle.judge_actions.specs.declared.Sections.{Sections}
use Rattle.judge_all.specs.InSlices.{Acting, Declared}
use Rattle.judge_all.specs.Stated.{Stated}
use Rattle.judge_all.specs.declared.Described.{Described}

abbrev pub DeclaredBy : Records → Description → Places → Type 0
DeclaredBy r d p = Declared r.facilities.now r.expressions.now r.facility_places.now r.expression_places.now d p

abbrev pub ActingBy : Sections → List ℕ → Description → Places → Type 0
ActingBy s ops d p =
    Acting s.records.facilities.now s.records.expressions.now s.records.facility_places.now s.records.expression_places.now s.memo.now s.actions.now s.action_places.now s.states.now s.labels.now ops d p

abbrev pub StatedBy : Sections → List ℕ → List ℕ → Description → Places → Type 0
StatedBy s ops spots d p =
    Stated s.records.facilities.now s.records.expressions.now s.records.facility_places.now s.records.expression_places.now s.memo.now s.actions.now s.action_places.now s.states.now s.labels.now ops spots d p

-- The least of all faults of the description with these slices.
abbrev pub LeastBy : Described → Result (Unit {0}) Fault → Type 0
LeastBy r v =
    (x : E.Sections) (q : Beside) → r.facilities.now ≡ x.facilities → r.operations.now ≡ x.operations → r.expressions.now ≡ x.expressions → r.actions.now ≡ x.actions → r.states.now ≡ x.states → r.names.now ≡ x.names
    → r.facility_places.now ≡ q.facilities → r.operation_places.now ≡ q.operations → r.expression_places.now ≡ q.expressions → r.action_places.now ≡ q.actions → r.state_places.now ≡ q.states
    → judged v ≡ least (faults (noted_description x q) (places_in q))
