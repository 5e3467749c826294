-- HAS-LENGTH: an expression is judged without fault, as one of l bits, exactly when it has the length l by the sentences of 01 (HasLength). Assumes nothing.
use Rattle.std.specs.Prelude.{◌↔◌, ◌≡◌, refl, ℕ}
use Rattle.std.proofs.Common.{sym, ap, ◌∙◌}
use Rattle.language.specs.Description.{Description, Places, no_places}
use Rattle.language.specs.Expressions.{expression_at, terminal_below}
use Rattle.language.specs.Judging.{Worth, fine, worth}
use Rattle.about_running.specs.Judged.{proper-fine}
use Rattle.about_rules.proofs.FineIsLong.{fine-is-long}
use Rattle.about_rules.specs.HasLength.{HasLength}
use Rattle.about_rules.specs.JudgedFine.{fine-proper}
use Rattle.about_rules.proofs.LongIsFine.{judged, long-is-fine}

module _ (d : Description) (p : Places) (known n : ℕ) where
  -- Judged without fault, as an expression of l bits and some work, where the first `known` facilities may be named.
  abbrev pub JudgedLong : ℕ → Type 0
  JudgedLong l = (work : ℕ) × (expression_at d p (terminal_below d p known) known n ≡ worth l 0 work)

  judged-long : {l : ℕ} → HasLength d known n l → JudgedLong l
  judged-long h = let j = long-is-fine d p h in (j.work, fine-proper _ _ j.same refl)

  pub fine-long : {w : Worth} → expression_at d p (terminal_below d p known) known n ≡ fine w → HasLength d known n w.length
  fine-long e = let y = proper-fine _ (judged d p known n) e in fine-is-long d p known n y.same y.arms

  pub has-length : (l : ℕ) → HasLength d known n l ↔ JudgedLong l
  has-length l = (λ h. judged-long h, λ j. fine-long j.1)

pub worth-same : {v w : Worth} → fine v ≡ fine w → v ≡ w
worth-same e = cc

-- A record has one length.
pub one-length : {d : Description} {known n l m : ℕ} → HasLength d known n l → HasLength d known n m → l ≡ m
one-length {d} {known} {n} h k =
    let i = judged-long d no_places known n h in
    let j = judged-long d no_places known n k in
    ap (λ (w : Worth). w.length) (worth-same (sym i.1 ∙ j.1))
