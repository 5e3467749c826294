use mathlib.Core.Path.{ap, ◌∙◌}
use Prim.Native.Nat.{ℕ}
use Rattle.language.specs.Expressions.{judge_at}
use Rattle.judge_verdicts.specs.Meaning.{seen}
use Rattle.judge_verdicts.proofs.VerdictLaws.{proper-same}
use Rattle.judge_terms.proofs.RecordLaws.{at-is}
use Rattle.judge_expressions.proofs.WalkLaws.{noted-at}
use Rattle.judge_expressions.proofs.walk.expression.Goals as goal

pub returns-in-Some : goal.returns-in-Some
returns-in-Some c =
    λ d p w sh.
    c.proper.ensures _ (c.noted_operand.ensures d p w _ (noted-at sh c.in-Some.ensures) ∙ ap (λ (m : ℕ). seen (judge_at d p w c.args.known m)) c.in-Some.ensures.4)
    ∙ proper-same _ (at-is sh.records _ c.of_node-at.ensures)

pub returns-in-None : goal.returns-in-None
returns-in-None c =
    λ d p w sh. c.proper-in-None.ensures _ (c.judge.ensures d p w sh) ∙ proper-same _ (at-is sh.records _ c.of_node-at.ensures)
