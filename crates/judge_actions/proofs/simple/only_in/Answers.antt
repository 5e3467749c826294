use Rattle.judge_verdicts.proofs.VerdictLaws.{refuse-same}
use mathlib.Core.Path.{◌∙◌}
use Rattle.language.specs.declared.refusals.Refusal.TheVariants.{NoContinuation}
use Rattle.judge_actions.proofs.simple.only_in.Goals as goal

pub returns-then-right : goal.returns-then-right
returns-then-right c =
    λ q j z e. rw c.if-right.true e

pub returns : goal.returns
returns c =
    λ q j z e. rw c.if-right.false (c.refused.ensures ∙ refuse-same NoContinuation z)
