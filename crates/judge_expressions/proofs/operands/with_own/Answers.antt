use mathlib.Core.Path.{ap, sym, ◌∙◌}
use Prim.Native.Nat.{◌+◌}
use Rattle.language.specs.Expressions.{own_work}
use Rattle.judge_verdicts.specs.declared.Worth.{Worth}
use Rattle.judge_verdicts.proofs.VerdictLaws.{given-faulty, one-fine, passed-on, worth-seen}
use Rattle.judge_expressions.proofs.operands.with_own.Goals as goal

pub returns : goal.returns
returns c =
    λ j e. one-fine j _ _ (sym c.in_ok-w.was ∙ e)
    (λ x m. worth-seen x.length x.arms (own_work + x.work) (ap (λ (y : Worth). y.length) m) (ap (λ (y : Worth). y.arms) m) (c.with_one.ensures _ (ap (λ (y : Worth). y.work) m)))

pub returns-in_err-w : goal.returns-in_err-w
returns-in_err-w c = λ j e. rw (passed-on _ _ c.from_residual.ensures.1) (given-faulty j _ _ (sym c.in_err-w.was ∙ e))
