use Rattle.judge_verdicts.proofs.VerdictLaws.{passed-on}
use Rattle.judge_actions.proofs.StoreLaws.{worked-fault, worked-seen}
use mathlib.Core.Path.{◌∙◌}
use Rattle.judge_actions.proofs.stores.only_work.Goals as goal

pub returns-in_err-v : goal.returns-in_err-v
returns-in_err-v c =
    λ j e. rw (passed-on _ _ c.from_residual.ensures.1) (worked-fault j _ c.in_err-v.was e)

pub returns : goal.returns
returns c =
    λ j e. c.only.ensures.same ∙ worked-seen j _ c.in_ok-v.was e
