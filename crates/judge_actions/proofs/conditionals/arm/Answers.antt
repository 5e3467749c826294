use Rattle.judge_verdicts.specs.declared.Worth.{Worth}
use Rattle.judge_verdicts.proofs.VerdictLaws.{both-fine, pair-faulty, pair-known, passed-on, worth-seen}
use Rattle.judge_verdicts.proofs.CappedLaws.{capped_small}
use native.Mathlib.Omega.{arith}
use mathlib.Core.Path.{refl, ap, sym}
use Rattle.judge_actions.proofs.conditionals.arm.Goals as goal

pub returns : goal.returns
returns c =
    λ j k e f. both-fine j k _ _ _ (pair-known j k c.both.ensures c.in_ok-v.was e f)
    (λ x y m n. worth-seen 1 _ _ refl (c.added.ensures _ 1 (ap (λ (v : Worth). v.arms) m) (sym (capped_small 1 (omega arith))))
    (c.added-2.ensures _ _ (ap (λ (v : Worth). v.work) m) (ap (λ (v : Worth). v.work) n)))

pub returns-in_err-v : goal.returns-in_err-v
returns-in_err-v c =
    λ j k e f. rw (passed-on _ _ c.from_residual.ensures.1) (pair-faulty j k _ _ (pair-known j k c.both.ensures c.in_err-v.was e f))
