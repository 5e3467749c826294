use Rattle.language.specs.Description.{facility_at, is_computed}
use Rattle.image_records.specs.References.{reference_meant}
use Rattle.judge_terms.specs.Shown as Shown
use Rattle.judge_expressions.proofs.WalkLaws.{broken-is, judge-is, noted-at, part-ge, part-lt, reference-is, right-reference, unknown-reference, wrong-reference}
use Rattle.judge_terms.proofs.RecordLaws.{at-is, node-is}
use Rattle.language.specs.declared.refusals.Refusal.TheVariants.{BadName, NoContinuation}
use Rattle.judge_verdicts.specs.Meaning.{seen}
use Rattle.judge_verdicts.proofs.VerdictLaws.{arms_same, proper-same, refuse-same}
use Rattle.language.specs.ReferenceRules.{subscripts_judged}
use Rattle.language.specs.References.{reference_of}
use Rattle.language.specs.Expressions.{judge_at, judge_node}
use native.Mathlib.Omega.{arith}
use Prim.Native.Nat.{ℕ}
use mathlib.Core.Logic.{inl, inr}
use mathlib.Core.Path.{refl, sym, ap, ◌∙◌}
use Rattle.judge_expressions.proofs.walk.+judge_operand_operator_part_referred_subscripts.Goals as goal

pub judge-returns-in-Some : goal.judge-returns-in-Some
judge-returns-in-Some t c =
    λ d p w sh. c.with_own.ensures _ (c.referred.ensures d p w sh) ∙ ap seen (reference-is d p w _ _ _ (ap reference_meant (sym c.in-Some.is) ∙ c.reference_at.ensures d p sh.records))

pub judge-returns-in-None : goal.judge-returns-in-None
judge-returns-in-None t c =
    λ d p w sh. c.operator.ensures d p w (sym (ap reference_meant (sym c.in-None.is) ∙ c.reference_at.ensures d p sh.records)) sh

pub operand-returns : goal.operand-returns
operand-returns t c =
    λ d p w sh. c.proper.ensures _ (c.part.ensures d p w sh) ∙ proper-same _ (at-is sh.records _ c.of_node-at.ensures)

pub operator-returns-in-Constant : goal.operator-returns-in-Constant
unfolding judge_node
operator-returns-in-Constant t c =
    λ d p w z sh. c.constant.ensures _ (at-is sh.records _ c.of_node-at.ensures) ∙ ap seen (judge-is d p w _ _ (node-is sh.records _ c.node_at.result c.node_at.ensures c.in-Constant.is))

pub operator-returns-in-More : goal.operator-returns-in-More
unfolding judge_node
operator-returns-in-More t c =
    λ d p w z sh. c.refused.ensures ∙ refuse-same NoContinuation (at-is sh.records _ c.of_node-at.ensures) ∙ ap seen (judge-is d p w _ _ (node-is sh.records _ c.node_at.result c.node_at.ensures c.in-More.is))

pub operator-returns-in-Binary : goal.operator-returns-in-Binary
unfolding judge_node
operator-returns-in-Binary t c =
    λ d p w z sh. c.binary.ensures _ _ _ (at-is sh.records _ c.of_node-at.ensures) (c.operand-x.ensures d p w sh) (c.operand.ensures d p w sh) ∙ ap seen (judge-is d p w _ _ (node-is sh.records _ c.node_at.result c.node_at.ensures c.in-Binary.is))

pub operator-returns-in-Prefix : goal.operator-returns-in-Prefix
unfolding judge_node
operator-returns-in-Prefix t c =
    λ d p w z sh. c.prefix.ensures _ _ (at-is sh.records _ c.of_node-at.ensures) (c.operand-in-Prefix.ensures d p w sh) ∙ ap seen (judge-is d p w _ _ (node-is sh.records _ c.node_at.result c.node_at.ensures c.in-Prefix.is))

pub operator-returns-in-Cut : goal.operator-returns-in-Cut
unfolding judge_node
operator-returns-in-Cut t c =
    λ d p w z sh. c.cut.ensures _ _ (at-is sh.records _ c.of_node-at.ensures) (c.operand-in-Cut.ensures d p w sh) ∙ ap seen (judge-is d p w _ _ (node-is sh.records _ c.node_at.result c.node_at.ensures c.in-Cut.is))

pub operator-returns-in-FirstArm : goal.operator-returns-in-FirstArm
unfolding judge_node
operator-returns-in-FirstArm t c =
    λ d p w z sh. c.first_arm.ensures _ (c.operand-in-FirstArm.ensures d p w sh) ∙ ap seen (judge-is d p w _ _ (node-is sh.records _ c.node_at.result c.node_at.ensures c.in-FirstArm.is))

pub operator-returns-in-NextArm : goal.operator-returns-in-NextArm
unfolding judge_node
operator-returns-in-NextArm t c =
    λ d p w z sh. c.next_arm.ensures _ _ (c.arm_list-x.ensures _ (c.part.ensures d p w sh) ∙ arms_same _ (at-is sh.records _ c.of_node-at.ensures)) (c.operand-in-NextArm.ensures d p w sh) ∙ ap seen (judge-is d p w _ _ (node-is sh.records _ c.node_at.result c.node_at.ensures c.in-NextArm.is))

pub operator-returns-in-Choice : goal.operator-returns-in-Choice
unfolding judge_node
operator-returns-in-Choice t c =
    λ d p w z sh. c.choice.ensures d p w c.args.known _ _ _ (at-is sh.records _ c.of_node-at.ensures) (c.operand-x-in-Choice.ensures d p w sh) (c.arm_list-y.ensures _ (c.part-in-Choice.ensures d p w sh) ∙ arms_same _ (at-is sh.records _ c.of_node-at.ensures)) ∙ ap seen (judge-is d p w _ _ (node-is sh.records _ c.node_at.result c.node_at.ensures c.in-Choice.is))

pub operator-returns-in_default : goal.operator-returns-in_default
operator-returns-in_default t c =
    λ d p w z sh. c.refused-in_default.ensures ∙ refuse-same BadName (at-is sh.records _ c.of_node-at.ensures)
    ∙ ap seen (broken-is d p w _ c.args.n _ _ _ c.node_at.result c.in_default.in_default-own.keys9 (ap reference_of (sym (node-is sh.records c.args.n c.node_at.result c.node_at.ensures refl)) ∙ z) _ _)
    ∙ ap seen (judge-is d p w _ _ (node-is sh.records _ c.node_at.result c.node_at.ensures (refl)))

pub part-returns-then-n-a : goal.part-returns-then-n-a
part-returns-then-n-a t c =
    λ d p w sh. c.refused.ensures ∙ refuse-same NoContinuation c.nowhere.ensures ∙ ap seen (sym (part-ge d p w _ _ _ c.if-n-a.true))

pub part-returns-in-Some : goal.part-returns-in-Some
part-returns-in-Some t c =
    λ d p w sh.
    c.noted_operand.ensures d p w _ (noted-at sh c.in-Some.ensures)
    ∙ ap (λ (m : ℕ). seen (judge_at d p w c.args.known m)) c.in-Some.ensures.4 ∙ ap seen (sym (part-lt d p w _ _ _ c.if-n-a.false))

pub part-returns-in-None : goal.part-returns-in-None
part-returns-in-None t c =
    λ d p w sh. c.judge.ensures d p w sh ∙ ap seen (sym (part-lt d p w _ _ _ c.if-n-a.false))

pub referred-returns-then-known-f : goal.referred-returns-then-known-f
referred-returns-then-known-f t c =
    λ d p w sh. c.refused.ensures ∙ refuse-same BadName (at-is sh.records _ c.of_node-at.ensures) ∙ ap seen (unknown-reference d p w _ _ _ _ _ c.if-known-f.true)

pub referred-returns-then-right_count : goal.referred-returns-then-right_count
referred-returns-then-right_count t c =
    λ d p w sh.
    let e = sh.facility c.args.f c.if-known-f.false c.facility_at-x.result c.facility_at-x.ensures in
    c.counted_right.ensures _ _ _ _ _ (at-is sh.records _ c.of_node-at.ensures) (c.subscripts-subs.ensures d p w sh) (c.computed_work-computed.ensures (Shown.worked (w c.args.f)) (λ b. sh.terminal c.args.f (omega (arith, c.ranges.f)) c.if-known-f.false (ap is_computed (sym c.facility_at-x.ensures.kind) ∙ b)))
    (c.bound_faults-ends.ensures d p w (facility_at d c.args.f).name sh.records) (c.direction_faults-direction.ensures d p w _ (facility_at d c.args.f).name sh.records)
    ∙ ap seen (right-reference d p w _ _ _ _ _ _ c.if-known-f.false e (sym c.right_count.ensures ∙ c.if-right_count.true) (c.taken_length-length.ensures (facility_at d c.args.f).name))

pub referred-returns : goal.referred-returns
referred-returns t c =
    λ d p w sh.
    let e = sh.facility c.args.f c.if-known-f.false c.facility_at-x.result c.facility_at-x.ensures in
    c.counted_wrong.ensures _ _ (at-is sh.records _ c.of_node-at.ensures) (c.subscripts-subs.ensures d p w sh)
    ∙ ap seen (wrong-reference d p w _ _ _ _ _ c.if-known-f.false e (sym c.right_count.ensures ∙ c.if-right_count.false))

pub subscripts-returns-in-Whole : goal.subscripts-returns-in-Whole
unfolding subscripts_judged
subscripts-returns-in-Whole t c =
    λ d p w sh. elim c.in-Whole.is [ inl e ↦ rw e c.nothing.ensures | inr e ↦ rw e.1 c.nothing.ensures ]

pub subscripts-returns-in-One : goal.subscripts-returns-in-One
unfolding subscripts_judged
subscripts-returns-in-One t c =
    λ d p w sh. elim c.in-One.is [ inl e ↦ rw e (c.operand-in-One.ensures d p w sh) | inr e ↦ rw e.1 (c.operand-in-One.ensures d p w sh) ]

pub subscripts-returns-in-Two : goal.subscripts-returns-in-Two
unfolding subscripts_judged
subscripts-returns-in-Two t c =
    λ d p w sh. rw c.in-Two.is (c.together.ensures _ _ (c.operand-x.ensures d p w sh) (c.operand.ensures d p w sh))
