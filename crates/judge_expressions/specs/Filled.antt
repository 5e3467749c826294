-- What is kept of computed terminals, and behind it what is noted of records.
use Rattle.std.specs.Prelude.{List, ◌≡◌, ℕ, ◌≤◌, length, take}
use Rattle.language.specs.Description.{Description, Places}
use Rattle.language.specs.Judging.{Judged}
use Rattle.judge_verdicts.specs.Noted.{noted_from}
use Rattle.judge_terms.specs.Shown.{Shown}

-- What was kept is as it was, and what is noted up to `end` is right.
pub record Filled (facs exprs marks places : List ℕ) (known : ℕ) (before after : List ℕ) (end : ℕ) : Type 0 where
  pub size : length after ≡ length before
  pub kept : take noted_from after ≡ take noted_from before
  pub from : noted_from ≤ end
  pub within : end ≤ length after
  pub shown : (d : Description) (p : Places) (t : ℕ → Judged) → Shown facs exprs marks places (take noted_from before) known d p t
      → Shown facs exprs marks places (take end after) known d p t
