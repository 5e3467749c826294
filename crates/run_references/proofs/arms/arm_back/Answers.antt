use mathlib.Core.Path.{◌≡◌, sym, ap, ◌∙◌}
use Prim.Native.Nat.{ℕ, suc, ◌+◌, ◌-◌}
use native.Mathlib.Omega.{arith}
use Rattle.language.specs.Meaning.{arm_back}
use Rattle.image_records.specs.Nodes.{constant_number}
use Rattle.run_references.proofs.ArmLaws.{arm-before, arm-here, arm-nowhere}
use borrow.Enum.Refused.{opened}
use Rattle.run_references.proofs.arms.arm_back.Goals as goal

pub loop-init : goal.loop-init
loop-init c =
    let e : c.args.back - 0 ≡ c.args.back = omega arith in
    λ d h. ap (λ (k : ℕ). arm_back d k c.args.a) e

pub returns-in_default : goal.returns-in_default
returns-in_default c =
    let at = c.loop.at in
    let e : c.args.back - c.loop.counter ≡ suc (c.args.back - c.loop.counter - 1) = omega arith in
    λ d h.
    sym (ap (λ (k : ℕ). arm_back d k at) e ∙ arm-nowhere d (constant_number at c.args.expressions.now) at c.node_at.result (h at ∙ sym c.node_at.ensures) (opened c.in_default.in_default-own.keys2) (c.args.back - c.loop.counter - 1)) ∙ c.loop.invariant d h

pub loop-preserved : goal.loop-preserved
loop-preserved c =
    let at = c.loop.at in
    let left = c.args.back - (c.loop.counter + 1) in
    let e : suc left ≡ c.args.back - c.loop.counter = omega arith in
    λ d h.
    sym (arm-before d (constant_number at c.args.expressions.now) at c.node_at.result (h at ∙ sym c.node_at.ensures) c.in-NextArm.is left) ∙ (ap (λ (k : ℕ). arm_back d k at) e ∙ c.loop.invariant d h)

pub returns : goal.returns
returns c =
    let at = c.loop.at in
    let e : 0 ≡ c.args.back - c.loop.counter = omega arith in
    λ d h. c.expression_of.ensures ∙ (sym (arm-here d (constant_number at c.args.expressions.now) at c.node_at-2.result (h at ∙ sym c.node_at-2.ensures)) ∙ (ap (λ (k : ℕ). arm_back d k at) e ∙ c.loop.invariant d h))
