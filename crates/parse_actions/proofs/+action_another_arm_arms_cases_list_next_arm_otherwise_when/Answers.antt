use mathlib.Core.Path.{◌≡◌, refl, sym, ap, ◌∙◌}
use native.Mathlib.Omega.{arith}
use Prim.Native.Nat.{suc, ◌≤◌}
use Rattle.parse_step.specs.declared.State.{State}
use Rattle.parse_actions.proofs.ArmLaws.{arm_full, arm-not, arm-says, arming-begin, arming-more, arms_end, arms-long, arms-not, else-not, else-says, next-arm-not, next-arm-says}
use Rattle.parse_actions.proofs.CaseLaws.{arms-refused, case-not, case-says}
use Rattle.parse_actions.proofs.IfLaws.{if-else-says, if-not, if-says, other-not, then-not}
use Rattle.parse_actions.proofs.ListLaws.{another-not, another-says, going-begin, going_more, list-ends, list-long, list-not}
use borrow.Author.Rules.{rules}
use Rattle.parse_step.proofs.Answers.{err-came}
use Rattle.parse_actions.proofs.+action_another_arm_arms_cases_list_next_arm_otherwise_when.Goals as goal

pub action-returns-then-kind-eq-IF : goal.action-returns-then-kind-eq-IF
action-returns-then-kind-eq-IF t c =
    c.when.ensures (sym c.kind_of-kind.ensures ∙ c.if-kind-eq-IF.true)

pub action-returns-then-kind-eq-CASE : goal.action-returns-then-kind-eq-CASE
action-returns-then-kind-eq-CASE t c =
    c.cases.ensures (sym c.kind_of-kind.ensures ∙ c.if-kind-eq-CASE.true)

pub action-returns : goal.action-returns
action-returns t c =
    c.plain.ensures (λ e. c.if-kind-eq-IF.false (c.kind_of-kind.ensures ∙ e)) (λ e. c.if-kind-eq-CASE.false (c.kind_of-kind.ensures ∙ e))

pub another-returns-in_err-comma : goal.another-returns-in_err-comma
another-returns-in_err-comma t c =
    rw (err-came c.from_residual.ensures.1) (another-not c.args.in_state c.in_err-comma.ensures refl)

pub another-returns : goal.another-returns
another-returns t c =
    another-says c.args.in_state c.in_ok-comma.ensures refl c.at-state.ensures c.action.ensures

pub arm-returns-in_err-begun : goal.arm-returns-in_err-begun
arm-returns-in_err-begun t c =
    rw (err-came c.from_residual.ensures.1) (arm_full c.args.in_state c.in_err-begun.ensures refl)

pub arm-returns-in_err-read : goal.arm-returns-in_err-read
arm-returns-in_err-read t c =
    rw (err-came c.from_residual-in_err-read.ensures.1) (arm-not c.args.in_state c.in_ok-begun.ensures refl c.in_err-read.ensures refl)

pub arm-returns : goal.arm-returns
arm-returns t c =
    arm-says c.args.in_state c.in_ok-begun.ensures refl c.in_ok-read.ensures c.position-at.ensures refl c.arm_again.ensures

pub cases-returns-in_err-head : goal.cases-returns-in_err-head
cases-returns-in_err-head t c =
    rw (err-came c.from_residual.ensures.1) (case-not c.args.in_state (c.in_err-head.ensures.0 c.args.n) refl)

pub cases-arms-requires : goal.cases-arms-requires
cases-arms-requires t c =
    let p = c.in_ok-head.ensures.1 _ refl in let g : c.in_ok-head.head.state.nesting ≡ suc c.args.s.nesting = p.0 in let d : c.in_ok-head.head.state.nesting ≤ 24 = p.1 in search rules

pub cases-returns-in_err-chosen : goal.cases-returns-in_err-chosen
cases-returns-in_err-chosen t c =
    rw (err-came c.from_residual-in_err-chosen.ensures.1) (arms-refused c.args.in_state (c.in_ok-head.ensures.0 c.args.n) refl c.in_err-chosen.ensures refl)

pub cases-returns : goal.cases-returns
cases-returns t c =
    case-says c.args.in_state (c.in_ok-head.ensures.0 c.args.n) refl c.in_ok-chosen.ensures refl c.expect-end.ensures c.choose_again.ensures

pub next_arm-returns-in_err-word : goal.next_arm-returns-in_err-word
next_arm-returns-in_err-word t c =
    rw (err-came c.from_residual.ensures.1) (next-arm-not c.args.in_state c.in_err-word.ensures refl)

pub next_arm-returns : goal.next_arm-returns
next_arm-returns t c =
    next-arm-says c.args.in_state c.in_ok-word.ensures refl c.at-state.ensures c.arm.ensures

pub otherwise-returns-in_err-word : goal.otherwise-returns-in_err-word
otherwise-returns-in_err-word t c =
    rw (err-came c.from_residual.ensures.1) (else-not c.args.in_state c.in_err-word.ensures refl)

pub otherwise-returns : goal.otherwise-returns
otherwise-returns t c =
    else-says c.args.in_state c.in_ok-word.ensures refl c.at-state.ensures c.arm.ensures

pub when-returns-in_err-head : goal.when-returns-in_err-head
when-returns-in_err-head t c =
    rw (err-came c.from_residual.ensures.1) (if-not c.args.in_state (c.in_err-head.ensures.0 c.args.n) refl)

pub when-arm-requires : goal.when-arm-requires
when-arm-requires t c =
    let p = c.in_ok-head.ensures.1 _ refl in let g : c.in_ok-head.head.state.nesting ≡ suc c.args.s.nesting = p.0 in let d : c.in_ok-head.head.state.nesting ≤ 24 = p.1 in search rules

pub when-returns-in_err-first : goal.when-returns-in_err-first
when-returns-in_err-first t c =
    rw (err-came c.from_residual-in_err-first.ensures.1) (then-not c.args.in_state (c.in_ok-head.ensures.0 c.args.n) refl c.in_err-first.ensures refl)

pub when-returns-then-is : goal.when-returns-then-is
when-returns-then-is t c =
    if-says c.args.in_state (c.in_ok-head.ensures.0 c.args.n) refl c.in_ok-first.ensures refl c.is.ensures c.if-is.true c.end_if-end.ensures c.when_again.ensures

pub when-otherwise-requires : goal.when-otherwise-requires
when-otherwise-requires t c =
    let p = c.in_ok-head.ensures.1 _ refl in let g : c.in_ok-head.head.state.nesting ≡ suc c.args.s.nesting = p.0 in let d : c.in_ok-head.head.state.nesting ≤ 24 = p.1 in let h : c.at-state.result.nesting ≡ c.in_ok-head.head.state.nesting = ap (λ (q : State). q.nesting) c.at-state.ensures in search rules

pub when-returns-in_err-second : goal.when-returns-in_err-second
when-returns-in_err-second t c =
    rw (err-came c.from_residual-in_err-second.ensures.1) (other-not c.args.in_state (c.in_ok-head.ensures.0 c.args.n) refl c.in_ok-first.ensures refl c.is.ensures c.if-is.false c.at-state.ensures c.in_err-second.ensures refl)

pub when-returns : goal.when-returns
when-returns t c =
    if-else-says c.args.in_state (c.in_ok-head.ensures.0 c.args.n) refl c.in_ok-first.ensures refl c.is.ensures c.if-is.false c.at-state.ensures c.in_ok-second.ensures refl c.end_if-end-2.ensures c.choose_again.ensures

pub arms-returns-in_err-reached : goal.arms-returns-in_err-reached
arms-returns-in_err-reached t c =
    rw (err-came c.from_residual.ensures.1) (arms-not c.args.in_state (arming-begin c.args.in_state c.in_err-reached.ensures))

pub arms-loop-count-init : goal.arms-loop-count-init
arms-loop-count-init t c =
    λ w v g. g

pub arms-returns-in_err-reached-2 : goal.arms-returns-in_err-reached-2
arms-returns-in_err-reached-2 t c =
    rw (err-came c.from_residual-in_err-reached-2.ensures.1) (arms-not c.args.in_state (arming-more c.args.in_state (c.loop-count.invariant _ _ (arming-begin c.args.in_state c.in_ok-reached.ensures)) refl c.is.ensures c.if-not-is.false c.at-state.ensures c.in_err-reached-2.ensures refl))

pub arms-loop-count-preserved : goal.arms-loop-count-preserved
arms-loop-count-preserved t c =
    λ w v g. arming-more c.args.in_state (c.loop-count.invariant w v g) refl c.is.ensures c.if-not-is.false c.at-state.ensures c.in_ok-reached-2.ensures refl

pub arms-returns-then-not-is : goal.arms-returns-then-not-is
arms-returns-then-not-is t c =
    arms_end c.args.in_state (c.loop-count.invariant _ _ (arming-begin c.args.in_state c.in_ok-reached.ensures)) c.is.ensures c.if-not-is.true

pub arms-returns : goal.arms-returns
arms-returns t c =
    arms-long c.args.in_state (c.loop-count.invariant _ _ (arming-begin c.args.in_state c.in_ok-reached.ensures)) (omega (arith, c.loop-count-test.false))

pub list-returns-in_err-read : goal.list-returns-in_err-read
list-returns-in_err-read t c =
    rw (err-came c.from_residual.ensures.1) (list-not (going-begin c.args.in_state c.in_err-read.ensures) refl)

pub list-loop-init : goal.list-loop-init
list-loop-init t c =
    λ w v g. g

pub list-returns-in_err-read-2 : goal.list-returns-in_err-read-2
list-returns-in_err-read-2 t c =
    rw (err-came c.from_residual-in_err-read-2.ensures.1) (list-not (going_more (c.loop.invariant _ _ (going-begin c.args.in_state c.in_ok-read.ensures)) refl c.is.ensures c.if-not-is.false c.at-state.ensures c.in_err-read-2.ensures refl) refl)

pub list-loop-preserved : goal.list-loop-preserved
list-loop-preserved t c =
    λ w v g. going_more (c.loop.invariant w v g) refl c.is.ensures c.if-not-is.false c.at-state.ensures c.in_ok-read-2.ensures refl

pub list-returns-then-not-is : goal.list-returns-then-not-is
list-returns-then-not-is t c =
    list-ends (c.loop.invariant _ _ (going-begin c.args.in_state c.in_ok-read.ensures)) c.is.ensures c.if-not-is.true

pub list-returns : goal.list-returns
list-returns t c =
    list-long (c.loop.invariant _ _ (going-begin c.args.in_state c.in_ok-read.ensures)) (omega (arith, c.loop-test.false))
