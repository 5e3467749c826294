use Rattle.judge_actions.specs.Listed.{arms_at, held_by, list_at, one_at}
use Rattle.judge_actions.proofs.JoinLaws.{arm-sums, begins, breaks-off, continues, ends, work-sums}
use Rattle.judge_actions.proofs.ListLaws.{arms-empty, arms_next, arms-past, list-empty, list-next, list-past}
use Rattle.judge_actions.proofs.SimpleLaws.{right-told}
use mathlib.Core.Path.{sym, ap, ◌∙◌}
use native.Mathlib.Omega.{arith}
use Prim.Native.Nat.{◌+◌, ◌-◌}
use borrow.Author.Rules.{rules}
use Rattle.judge_actions.proofs.walk.+arms_list_one.Goals as goal

pub arms-loop-left-init : goal.arms-loop-left-init
arms-loop-left-init t c =
    (search rules, search rules, λ d p w l. begins arm-sums (arms_at d p c.args.own.now.state w) c.args.k c.args.i c.nothing-all.ensures)

pub arms-returns-then-n-eq0 : goal.arms-returns-then-n-eq0
arms-returns-then-n-eq0 t c =
    λ d p w l.
    let u = c.loop-left.invariant.2 d p w l in
    breaks-off arm-sums (arms_at d p c.args.own.now.state w) c.args.k c.args.i u _
    (arms-past d p c.args.own.now.state w c.loop-left.left c.loop-left.j c.arm_size-n.result c.action_at.result (λ z. omega (arith, c.loop-left-test.true)) (l.action c.loop-left.j ∙ sym c.action_at.ensures) c.arm_size-n.ensures.0 c.if-n-eq0.true)
    (c.no_continuation.ensures u.judged _ u.shown)

pub arms-loop-left-preserved : goal.arms-loop-left-preserved
arms-loop-left-preserved t c = (
  search rules,
  search rules,
  λ d p w l.
      let u = c.loop-left.invariant.2 d p w l in
      continues arm-sums (arms_at d p c.args.own.now.state w) c.args.k c.args.i u (list_at d p c.args.own.now.state w c.arm_size-n.result (c.loop-left.j + 1)) (c.loop-left.left - 1 - c.arm_size-n.result) (c.loop-left.j + 1 + c.arm_size-n.result)
      (arms_next d p c.args.own.now.state w c.loop-left.left c.loop-left.j c.arm_size-n.result c.action_at.result (λ z. omega (arith, c.loop-left-test.true)) (l.action c.loop-left.j ∙ sym c.action_at.ensures) c.arm_size-n.ensures.0 c.if-n-eq0.false c.arm_size-n.ensures.1)
      (c.arm-all.ensures u.judged (list_at d p c.args.own.now.state w c.arm_size-n.result (c.loop-left.j + 1)) u.shown (c.list-body.ensures d p w l)),
)

pub arms-returns : goal.arms-returns
arms-returns t c =
    λ d p w l.
    ends arm-sums (arms_at d p c.args.own.now.state w) c.args.k c.args.i (c.loop-left.invariant.2 d p w l) (sym (arms-empty d p c.args.own.now.state w c.loop-left.left c.loop-left.j (omega (arith, c.loop-left-test.false))))

pub list-loop-left-init : goal.list-loop-left-init
list-loop-left-init t c =
    (search rules, search rules, λ d p w l. begins work-sums (list_at d p c.args.own.now.state w) c.args.k c.args.i c.nothing-all.ensures)

pub list-returns-then-left-n : goal.list-returns-then-left-n
list-returns-then-left-n t c =
    λ d p w l.
    let u = c.loop-left.invariant.2 d p w l in
    breaks-off work-sums (list_at d p c.args.own.now.state w) c.args.k c.args.i u _
    (list-past d p c.args.own.now.state w c.loop-left.left c.loop-left.j c.held-n.result c.action_at.result c.branch_of-b.result (λ z. omega (arith, c.loop-left-test.true)) (l.action c.loop-left.j ∙ sym c.action_at.ensures) c.branch_of-b.ensures c.held-n.ensures.0 c.if-left-n.true)
    (c.no_continuation.ensures u.judged _ u.shown)

pub list-loop-left-preserved : goal.list-loop-left-preserved
list-loop-left-preserved t c = (
  search rules,
  search rules,
  λ d p w l.
      let u = c.loop-left.invariant.2 d p w l in
      continues work-sums (list_at d p c.args.own.now.state w) c.args.k c.args.i u (one_at d p c.args.own.now.state w c.loop-left.j c.branch_of-b.result) (c.loop-left.left - 1 - c.held-n.result) (c.loop-left.j + 1 + c.held-n.result)
      (list-next d p c.args.own.now.state w c.loop-left.left c.loop-left.j c.held-n.result c.action_at.result c.branch_of-b.result (λ z. omega (arith, c.loop-left-test.true)) (l.action c.loop-left.j ∙ sym c.action_at.ensures) c.branch_of-b.ensures c.held-n.ensures.0 c.if-left-n.false)
      (c.together-all.ensures u.judged (one_at d p c.args.own.now.state w c.loop-left.j c.branch_of-b.result) u.shown (c.one-v.ensures d p w l)),
)

pub list-returns : goal.list-returns
list-returns t c =
    λ d p w l.
    ends work-sums (list_at d p c.args.own.now.state w) c.args.k c.args.i (c.loop-left.invariant.2 d p w l) (sym (list-empty d p c.args.own.now.state w c.loop-left.left c.loop-left.j (omega (arith, c.loop-left-test.false))))

pub one-returns-in_default : goal.one-returns-in_default
unfolding one_at
one-returns-in_default t c =
    λ d p w l. rw c.in_default.is (c.simple.ensures d p w l)

pub one-arms-inner-requires : goal.one-arms-inner-requires
one-arms-inner-requires t c =
    let e = ap held_by c.in-Some.is in
    (omega (arith, e), omega (arith, e))

pub one-returns : goal.one-returns
unfolding one_at
one-returns t c =
    λ d p w l. rw c.in-Some.is (c.conditional.ensures _ _ _ (c.of_record-at.ensures ∙ sym (l.place _)) (right-told d p c.args.own.now.state w l.count _ (c.expression-a.ensures d p _ l.shown)) (c.arms-inner.ensures d p w l))
