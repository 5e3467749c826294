use Rattle.judge_verdicts.specs.declared.Worth.{Worth}
use Rattle.judge_verdicts.proofs.VerdictLaws.{both-fine, pair-faulty, pair-known, passed-on, refuse-same}
use mathlib.Core.Path.{sym, ap, ◌∙◌}
use Rattle.language.specs.declared.refusals.Refusal.TheVariants.{BadLength}
use Rattle.judge_actions.proofs.conditionals.conditional.Goals as goal

pub returns-then-right_arms : goal.returns-then-right_arms
returns-then-right_arms c =
    λ q j k z e f. both-fine j k _ _ _ (pair-known j k c.both.ensures c.in_ok-v.was e f)
    (λ x y m n. rw (sym (c.right_arms.ensures x y m n) ∙ c.if-right_arms.true) (c.counted.ensures _ _ (ap (λ (v : Worth). v.work) m) (ap (λ (v : Worth). v.work) n)))

pub returns-else-right_arms : goal.returns-else-right_arms
returns-else-right_arms c =
    λ q j k z e f. both-fine j k _ _ _ (pair-known j k c.both.ensures c.in_ok-v.was e f)
    (λ x y m n. rw (sym (c.right_arms.ensures x y m n) ∙ c.if-right_arms.false) (c.refused.ensures ∙ refuse-same BadLength z))

pub returns-in_err-v : goal.returns-in_err-v
returns-in_err-v c =
    λ q j k z e f. rw (passed-on _ _ c.from_residual.ensures.1) (pair-faulty j k _ _ (pair-known j k c.both.ensures c.in_err-v.was e f))
