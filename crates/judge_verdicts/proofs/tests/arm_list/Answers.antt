use mathlib.Core.Path.{refl, sym, ◌∙◌}
use Rattle.judge_verdicts.proofs.VerdictLaws.{arms_none, arms-some, faulty-arms, passed-on}
use Rattle.judge_verdicts.proofs.tests.arm_list.Goals as goal

pub returns-in_err-w : goal.returns-in_err-w
returns-in_err-w c =
    λ j e. rw (passed-on _ _ c.from_residual.ensures.1) (faulty-arms _ j _ (sym c.in_err-w.was ∙ e) refl)

pub returns-then-w-eq0 : goal.returns-then-w-eq0
returns-then-w-eq0 c =
    λ j e. c.refused.ensures ∙ arms_none _ j _ (sym c.in_ok-w.was ∙ e) c.if-w-eq0.true

pub returns-else-w-eq0 : goal.returns-else-w-eq0
returns-else-w-eq0 c =
    λ j e. arms-some _ j _ (sym c.in_ok-w.was ∙ e) c.if-w-eq0.false c.in_ok-w.was
