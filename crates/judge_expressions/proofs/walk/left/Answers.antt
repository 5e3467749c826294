use mathlib.Core.Path.{ap, sym, ◌∙◌}
use Prim.Native.Nat.{ℕ}
use Rattle.language.specs.Expressions.{left_at}
use Rattle.language.specs.declared.refusals.Refusal.TheVariants.{BadName}
use Rattle.image_records.specs.References.{reference_meant}
use Rattle.judge_verdicts.specs.Meaning.{seen}
use Rattle.judge_verdicts.proofs.VerdictLaws.{refuse-same}
use Rattle.judge_terms.proofs.RecordLaws.{at-is}
use Rattle.judge_expressions.proofs.WalkLaws.{left_is, noted-at}
use Rattle.judge_expressions.proofs.walk.left.Goals as goal

pub returns : goal.returns
returns c =
    λ d p w sh.
    c.verdict.ensures ∙ (noted-at sh c.in-Some.ensures).left (sym c.is_reference.ensures ∙ c.if-is_reference.true)
    ∙ ap (λ (m : ℕ). seen (left_at d p w c.args.known m)) c.in-Some.ensures.4

pub returns-in-Some-reference_at : goal.returns-in-Some-reference_at
returns-in-Some-reference_at c =
    λ d p w sh. c.referred.ensures d p w sh ∙ ap seen (left_is d p w _ _ _ (ap reference_meant (sym c.in-Some-reference_at.is) ∙ c.reference_at.ensures d p sh.records))

pub returns-in-None : goal.returns-in-None
unfolding left_at
returns-in-None c =
    λ d p w sh. rw (sym (ap reference_meant (sym c.in-None.is) ∙ c.reference_at.ensures d p sh.records)) (c.refused.ensures ∙ refuse-same BadName (at-is sh.records _ c.of_node-at.ensures))
