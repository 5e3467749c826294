use Rattle.judge_verdicts.proofs.VerdictLaws.{faulty-faults, fine-faults, passed-on}
use mathlib.Core.Path.{sym, ◌∙◌}
use Rattle.judge_verdicts.proofs.faults.faults_of.Goals as goal

pub returns-in_err-v : goal.returns-in_err-v
returns-in_err-v c =
    λ j e. rw (passed-on _ _ c.from_residual.ensures.1) (faulty-faults j _ (sym c.in_err-v.was ∙ e))

pub returns : goal.returns
returns c =
    λ j e. fine-faults j _ (sym c.in_ok-v.was ∙ e)
