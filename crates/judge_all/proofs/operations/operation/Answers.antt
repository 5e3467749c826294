use Rattle.judge_all.proofs.OperationLaws.{empty-operation, listed_of, some-operation}
use Rattle.judge_verdicts.specs.Meaning.{seen}
use Rattle.judge_verdicts.proofs.VerdictLaws.{refuse-same}
use mathlib.Core.Path.{ap, ◌∙◌}
use Rattle.language.specs.declared.refusals.Refusal.TheVariants.{NoContinuation}
use Rattle.judge_all.proofs.operations.operation.Goals as goal

pub returns-then-n-eq0 : goal.returns-then-n-eq0
returns-then-n-eq0 c =
    λ d p os s r e. c.refused.ensures ∙ refuse-same NoContinuation c.nowhere.ensures ∙ ap seen (empty-operation d p c.args.k e c.if-n-eq0.true)

pub returns : goal.returns
returns c =
    λ d p os s r e. c.list.ensures d p _ (listed_of c.args.k s r c.requires) ∙ ap seen (some-operation d p c.args.k e c.if-n-eq0.false)
