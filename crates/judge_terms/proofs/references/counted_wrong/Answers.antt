use Rattle.judge_verdicts.proofs.VerdictLaws.{faulty-faults, fine-faults, or-passed, or-refused, passed-on, refuse-same}
use Rattle.language.specs.Judging as L
use mathlib.Core.Path.{sym, ◌∙◌}
use Rattle.language.specs.declared.refusals.Refusal.TheVariants.{BadSubscript}
use Rattle.judge_terms.proofs.references.counted_wrong.Goals as goal

pub returns-in_err-subs : goal.returns-in_err-subs
returns-in_err-subs c =
    λ q j z e. rw (passed-on _ _ c.from_residual.ensures.1) (or-refused (L.faults_of j) _ _ (faulty-faults j _ (sym c.in_err-subs.was ∙ e)))

pub returns : goal.returns
returns c =
    λ q j z e. or-passed (L.faults_of j) _ _ (fine-faults j _ (sym c.in_ok-subs.was ∙ e)) (c.refused.ensures ∙ refuse-same BadSubscript z)
