use Rattle.judge_actions.proofs.StoreLaws.{worked-faulty, worked-fine}
use Rattle.judge_terms.specs.Shown.{worked}
use Rattle.judge_verdicts.specs.declared.Worth.{Worth}
use Rattle.judge_verdicts.proofs.VerdictLaws.{or-passed, or-refused, pair-known, passed-on}
use Rattle.language.specs.declared.refusals.Refusal.TheVariants.{BadLength, BadStore}
use Rattle.language.specs.WordStage.{least}
use Rattle.language.specs.Words as W
use Rattle.language.specs.Judging as L
use Rattle.text_words.specs.Meaning.{judged}
use lib.Dec.{eqb}
use mathlib.Core.Path.{ap, ap₂, sym, ◌∙◌}
use mathlib.Core.Bool.{Bool}
use Rattle.judge_actions.proofs.stores.stored.Goals as goal

pub returns-in_err-v : goal.returns-in_err-v
returns-in_err-v c =
    λ q j k z h e f. rw (passed-on _ _ c.from_residual.ensures.1) (worked-faulty j k _ _ (pair-known (worked j) k c.both.ensures c.in_err-v.was e f))

pub returns-in_err-also : goal.returns-in_err-also
returns-in_err-also c =
    λ q j k z h e f. rw (passed-on _ _ c.from_residual-in_err-also.ensures.1) (worked-fine j k _ _ _ (pair-known (worked j) k c.both.ensures c.in_ok-v.was e f)
    (λ x y i m n. or-refused _ _ _ (ap judged (sym c.in_err-also.was) ∙ c.also.ensures _ _
    (c.unless-same.ensures ∙ ap₂ (λ (b : Bool) (u : W.Position). least (L.unless b u BadLength)) (ap₂ eqb (h x i) (ap (λ (v : Worth). v.length) n)) z)
    (c.unless.ensures ∙ ap (λ (u : W.Position). least (L.unless c.args.allowed u BadStore)) z))))

pub returns : goal.returns
returns c =
    λ q j k z h e f. worked-fine j k _ _ _ (pair-known (worked j) k c.both.ensures c.in_ok-v.was e f)
    (λ x y i m n. or-passed _ _ _ (ap judged (sym c.in_ok-also.was) ∙ c.also.ensures _ _
    (c.unless-same.ensures ∙ ap₂ (λ (b : Bool) (u : W.Position). least (L.unless b u BadLength)) (ap₂ eqb (h x i) (ap (λ (v : Worth). v.length) n)) z)
    (c.unless.ensures ∙ ap (λ (u : W.Position). least (L.unless c.args.allowed u BadStore)) z))
    (c.counted.ensures _ _ m (ap (λ (v : Worth). v.work) n)))
