use mathlib.Core.Path.{◌≡◌, sym, ap, ◌∙◌}
use Prim.Native.Nat.{ℕ, suc, ◌+◌, ◌-◌}
use native.Mathlib.Omega.{arith}
use Rattle.language.specs.Acting as T
use Rattle.run_references.specs.Places.{found_meant}
use Rattle.run_actions.proofs.ActionLaws.{arm-here, arm-long, arm-next, arm-none}
use Rattle.run_actions.proofs.arms.arm_at.Goals as goal

pub returns-in_err-x : goal.returns-in_err-x
returns-in_err-x c =
    λ d h. rw c.from_residual.ensures (sym (arm-none d c.loop.i c.loop.left (c.args.back - c.loop.counter) (sym (c.arm_size.ensures.1 d h) ∙ ap found_meant c.in_err-x.was)) ∙ c.loop.invariant d h)

pub returns-then-left-x : goal.returns-then-left-x
returns-then-left-x c =
    λ d h. sym (arm-long d c.loop.i c.loop.left _ (sym (c.arm_size.ensures.1 d h) ∙ ap found_meant c.in_ok-x.was) (c.args.back - c.loop.counter) c.if-left-x.true) ∙ c.loop.invariant d h

pub loop-preserved : goal.loop-preserved
loop-preserved c =
    let k = c.args.back - (c.loop.counter + 1) in
    let e : suc k ≡ c.args.back - c.loop.counter = omega arith in
    λ d h. sym (arm-next d c.loop.i c.loop.left _ (sym (c.arm_size.ensures.1 d h) ∙ ap found_meant c.in_ok-x.was) k c.if-left-x.false) ∙ (ap (λ (n : ℕ). T.arm_at d n c.loop.i c.loop.left) e ∙ c.loop.invariant d h)

pub returns-in_err-x-2 : goal.returns-in_err-x-2
returns-in_err-x-2 c =
    λ d h. rw c.from_residual-in_err-x-2.ensures (sym (arm-none d c.loop.i c.loop.left (c.args.back - c.loop.counter) (sym (c.arm_size-2.ensures.1 d h) ∙ ap found_meant c.in_err-x-2.was)) ∙ c.loop.invariant d h)

pub returns-then-left-x-2 : goal.returns-then-left-x-2
returns-then-left-x-2 c =
    λ d h. sym (arm-long d c.loop.i c.loop.left _ (sym (c.arm_size-2.ensures.1 d h) ∙ ap found_meant c.in_ok-x-2.was) (c.args.back - c.loop.counter) c.if-left-x-2.true) ∙ c.loop.invariant d h

pub returns : goal.returns
returns c =
    let e : 0 ≡ c.args.back - c.loop.counter = omega arith in
    λ d h. sym (arm-here d c.loop.i c.loop.left _ (sym (c.arm_size-2.ensures.1 d h) ∙ ap found_meant c.in_ok-x-2.was) c.if-left-x-2.false) ∙ (ap (λ (n : ℕ). T.arm_at d n c.loop.i c.loop.left) e ∙ c.loop.invariant d h)
