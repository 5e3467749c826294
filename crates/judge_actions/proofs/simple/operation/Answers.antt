use Rattle.judge_verdicts.proofs.VerdictLaws.{refuse-same}
use mathlib.Core.Path.{◌∙◌}
use Rattle.language.specs.declared.refusals.Refusal.TheVariants.{BadName}
use Rattle.judge_actions.proofs.simple.operation.Goals as goal

pub returns-then-o-ops : goal.returns-then-o-ops
returns-then-o-ops c =
    λ j e f. c.recall.ensures ∙ e c.if-o-ops.true

pub returns : goal.returns
returns c =
    λ j e f. rw (f c.if-o-ops.false) (c.refused.ensures ∙ refuse-same BadName c.nowhere.ensures)
