use Rattle.judge_verdicts.specs.declared.Worth.{Worth}
use Rattle.judge_verdicts.proofs.VerdictLaws.{given-faulty, one-fine, passed-on, worth-seen}
use Rattle.judge_verdicts.proofs.CappedLaws.{capped_small}
use native.Mathlib.Omega.{arith}
use mathlib.Core.Path.{ap, sym, ◌∙◌}
use Rattle.judge_terms.proofs.operators.first_arm.Goals as goal

pub returns : goal.returns
returns c =
    λ j e. one-fine j _ _ (sym c.in_ok-v.was ∙ e)
    (λ x m. worth-seen _ 1 _ (ap (λ (v : Worth). v.length) m) (sym (capped_small 1 (omega arith))) (ap (λ (v : Worth). v.work) m))

pub returns-in_err-v : goal.returns-in_err-v
returns-in_err-v c =
    λ j e. rw (passed-on _ _ c.from_residual.ensures.1) (given-faulty j _ _ (sym c.in_err-v.was ∙ e))
