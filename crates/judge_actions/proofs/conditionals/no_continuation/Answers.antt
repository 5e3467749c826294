use Rattle.judge_actions.proofs.JoinLaws.{fault-joins, works}
use Rattle.judge_verdicts.specs.Meaning.{seen}
use Rattle.judge_verdicts.proofs.VerdictLaws.{refuse-same}
use Rattle.language.specs.declared.refusals.Refusal.TheVariants.{NoContinuation}
use mathlib.Core.Path.{ap, ◌∙◌}
use Rattle.judge_actions.proofs.conditionals.no_continuation.Goals as goal

pub returns : goal.returns
returns c =
    λ j on e. c.together.ensures j _ e (c.refused.ensures ∙ refuse-same NoContinuation c.nowhere.ensures)
    ∙ ap seen (fault-joins works on j _)
