-- ACTS-RIGHT: a list of actions is judged without fault exactly when it keeps the rules by the sentences of 01 (ActionsRight). Assumes nothing.
use Rattle.std.specs.Prelude.{Bool, ◌↔◌, ◌≡◌, ℕ}
use Rattle.language.specs.ActionRules.{operation_below, run_judged}
use Rattle.language.specs.Description.{Description, Places, Run}
use Rattle.language.specs.Judging.{Worth, fine}
use Rattle.about_rules.specs.ActionsRight as A
use Rattle.about_rules.specs.ActionsRight.{Right}
use Rattle.about_rules.proofs.FineIsRight.{operations-right, run-right}
use Rattle.about_rules.proofs.RightIsFine.{right-is-fine}

module _ (d : Description) (p : Places) (s : Bool) (known : ℕ) (r : Run) where
  -- Actions of a state or an operation that may name the first `known` operations, judged without fault.
  abbrev pub JudgedFine : Type 0
  JudgedFine = (w : Worth) × (run_judged d p s (operation_below d p known) r ≡ fine w)

  fine-run : Right d s known A.actions r.first r.count → JudgedFine
  unfolding run_judged
  fine-run h = (_, (right-is-fine d p h).same)

  pub right-run : {w : Worth} → run_judged d p s (operation_below d p known) r ≡ fine w → Right d s known A.actions r.first r.count
  unfolding run_judged
  right-run e = run-right d p s known (λ o v l. operations-right d p known o v l) r.count r.first e

  pub acts-right : Right d s known A.actions r.first r.count ↔ JudgedFine
  acts-right = (λ h. fine-run h, λ j. right-run j.1)
