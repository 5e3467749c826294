use Rattle.judge_verdicts.specs.declared.Worth.{Worth}
use Rattle.judge_verdicts.proofs.VerdictLaws.{both-fine, pair-faulty, pair-known, passed-on}
use mathlib.Core.Path.{ap}
use Rattle.judge_terms.proofs.operators.together.Goals as goal

pub returns : goal.returns
returns c =
    λ j k e f. both-fine j k _ _ _ (pair-known j k c.both.ensures c.in_ok-v.was e f)
    (λ x y m n. c.only.ensures.shown _ (c.added.ensures _ _ (ap (λ (v : Worth). v.work) m) (ap (λ (v : Worth). v.work) n)))

pub returns-in_err-v : goal.returns-in_err-v
returns-in_err-v c =
    λ j k e f. rw (passed-on _ _ c.from_residual.ensures.1) (pair-faulty j k _ _ (pair-known j k c.both.ensures c.in_err-v.was e f))
