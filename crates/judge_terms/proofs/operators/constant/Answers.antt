use Rattle.judge_verdicts.proofs.VerdictLaws.{sized_same}
use mathlib.Core.Path.{refl, ◌∙◌}
use Rattle.judge_terms.proofs.operators.constant.Goals as goal

pub returns : goal.returns
returns c =
    λ q e. c.sized.ensures _ c.own.ensures ∙ sized_same _ e refl
