use mathlib.Core.Path.{refl, sym, ◌∙◌}
use Rattle.judge_verdicts.proofs.VerdictLaws.{faulty-proper, passed-on, proper-arms, proper-none}
use Rattle.judge_verdicts.proofs.tests.proper.Goals as goal

pub returns-in_err-w : goal.returns-in_err-w
returns-in_err-w c =
    λ j e. rw (passed-on _ _ c.from_residual.ensures.1) (faulty-proper _ j _ (sym c.in_err-w.was ∙ e) refl)

pub returns-then-w-eq0 : goal.returns-then-w-eq0
returns-then-w-eq0 c =
    λ j e. proper-none _ j _ (sym c.in_ok-w.was ∙ e) c.if-w-eq0.true c.in_ok-w.was

pub returns-else-w-eq0 : goal.returns-else-w-eq0
returns-else-w-eq0 c =
    λ j e. c.refused.ensures ∙ proper-arms _ j _ (sym c.in_ok-w.was ∙ e) c.if-w-eq0.false
