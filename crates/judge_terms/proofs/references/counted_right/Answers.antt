use Rattle.judge_verdicts.proofs.VerdictLaws.{or-passed, or-refused, passed-on}
use Rattle.text_words.specs.Meaning.{judged}
use mathlib.Core.Path.{ap, sym, ◌∙◌}
use Rattle.judge_terms.proofs.references.counted_right.Goals as goal

pub returns-in_err-also : goal.returns-in_err-also
returns-in_err-also c =
    λ q j k x y z e f g h. rw (passed-on _ _ c.from_residual.ensures.1)
    (or-refused _ _ _ (ap judged (sym c.in_err-also.was) ∙ c.also.ensures _ _ (c.faults_of.ensures j e) g))

pub returns-in_err-direction : goal.returns-in_err-direction
returns-in_err-direction c =
    λ q j k x y z e f g h. rw (passed-on _ _ c.from_residual-in_err-direction.ensures.1)
    (or-passed _ _ _ (ap judged (sym c.in_ok-also.was) ∙ c.also.ensures _ _ (c.faults_of.ensures j e) g) (or-refused _ _ _ (ap judged (sym c.in_err-direction.was) ∙ h)))

pub returns : goal.returns
returns c =
    λ q j k x y z e f g h. or-passed _ _ _ (ap judged (sym c.in_ok-also.was) ∙ c.also.ensures _ _ (c.faults_of.ensures j e) g)
    (or-passed _ _ _ (ap judged (sym c.in_ok-direction.was) ∙ h) (c.with_computed.ensures q j k z e f))
