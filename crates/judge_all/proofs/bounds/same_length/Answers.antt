use Rattle.judge_all.proofs.FacilityLaws.{same-faulty}
use Rattle.judge_verdicts.proofs.VerdictLaws.{is-fine, passed-on}
use mathlib.Core.Path.{◌≡◌, ap, ap₂, sym, ◌∙◌}
use Rattle.language.specs.declared.refusals.Refusal.TheVariants.{BadLength}
use Rattle.text_words.specs.Meaning.{judged}
use Rattle.judge_verdicts.specs.declared.Worth.{Worth}
use Rattle.language.specs.WordStage.{least}
use Rattle.language.specs.Words as W
use Rattle.language.specs.Rules.{same_length}
use Rattle.language.specs.Judging as L
use lib.Dec.{eqb}
use Prim.Native.Nat.{ℕ}
use Rattle.judge_all.proofs.bounds.same_length.Goals as goal

pub returns : goal.returns
returns c =
    λ d p q j z e. is-fine j _ (λ k. judged c.unless.result ≡ least (same_length d p c.args.length q k)) (sym c.in_ok-w.was ∙ e)
    (λ x m. c.unless.ensures ∙ ap₂ (λ (l : ℕ) (u : W.Position). least (L.unless (eqb c.args.length l) u BadLength)) (ap (λ (v : Worth). v.length) m) z)

pub returns-in_err-w : goal.returns-in_err-w
returns-in_err-w c =
    λ d p q j z e. rw (passed-on _ _ c.from_residual.ensures.1) (same-faulty d p _ q j _ (sym c.in_err-w.was ∙ e))
