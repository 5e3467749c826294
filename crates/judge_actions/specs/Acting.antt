-- The verdicts on lists of actions by the sections and by what is kept.
use Rattle.std.specs.Prelude.{ℕ}
use Rattle.language.specs.Description.{Description, Places}
use Rattle.language.specs.Judging.{Judged}
use Rattle.judge_verdicts.specs.Meaning.{Verdict}
use Rattle.judge_actions.specs.Listed.{Listed, Lists}
use Rattle.judge_actions.specs.declared.Owner.{Owner}
use Rattle.judge_actions.specs.declared.Sections.{Sections}

abbrev pub ListedBy : Sections → Owner → Description → Places → (ℕ → Judged) → Type 0
ListedBy s own d p w =
    Listed s.records.facilities.now s.records.expressions.now s.records.facility_places.now s.records.expression_places.now s.memo.now s.actions.now s.action_places.now s.states.now s.labels.now own.kept.now own.ops d p w

abbrev pub ListsBy : Sections → Owner → (Description → Places → (ℕ → Judged) → Judged) → Verdict → Type 0
ListsBy s own j v =
    Lists s.records.facilities.now s.records.expressions.now s.records.facility_places.now s.records.expression_places.now s.memo.now s.actions.now s.action_places.now s.states.now s.labels.now own.kept.now own.ops j v
