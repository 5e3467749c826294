use Rattle.judge_all.proofs.StateLaws.{own-faulty}
use Rattle.judge_verdicts.proofs.CappedLaws.{capped-leb}
use Rattle.judge_verdicts.proofs.VerdictLaws.{is-fine, passed-on}
use Rattle.judge_verdicts.specs.declared.Worth.{Worth}
use Rattle.language.specs.Judging as L
use Rattle.language.specs.declared.refusals.Refusal.TheVariants.{BadSequencing, CeilingPassed}
use Rattle.language.specs.Rules.{own_faults}
use Rattle.language.specs.Ceilings.{most_work}
use Rattle.language.specs.Words as W
use Rattle.language.specs.WordStage.{least}
use Rattle.text_words.specs.Meaning.{judged}
use lib.Dec.{leb}
use mathlib.Core.Bool.{Bool}
use mathlib.Core.Path.{◌≡◌, ap, ap₂, sym, ◌∙◌}
use Rattle.judge_all.proofs.states.own_faults.Goals as goal

pub returns : goal.returns
unfolding most_work
returns c =
    λ d p l q s j e t m. is-fine j _ (λ k. judged c.also.result ≡ least (own_faults d p l q s k)) (sym c.in_ok-w.was ∙ m)
    (λ x w. c.also.ensures _ _ (c.unless-one.ensures ∙ ap₂ (λ (b : Bool) (u : W.Position). least (L.unless b u BadSequencing)) t e)
    (c.unless-two.ensures ∙ ap₂ (λ (b : Bool) (u : W.Position). least (L.unless b u CeilingPassed)) (ap (λ (y : Worth). leb y.work 65536) w ∙ capped-leb x.work) e))

pub returns-in_err-w : goal.returns-in_err-w
returns-in_err-w c =
    λ d p l q s j e t m. rw (passed-on _ _ c.from_residual.ensures.1) (own-faulty d p l q s j _ (sym c.in_err-w.was ∙ m))
