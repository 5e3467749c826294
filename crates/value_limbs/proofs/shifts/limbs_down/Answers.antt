use mathlib.Core.Path.{◌≡◌, sym, ap, ◌∙◌}
use Prim.Native.Nat.{ℕ, ◌+◌, ◌*◌, ◌/◌, ◌^◌}
use native.Mathlib.Nat.{div-one}
use native.Mathlib.Omega.{arith}
use lib.Pow.{shr-shr}
use Rattle.value_limbs.specs.Limbs.{number}
use Rattle.value_limbs.proofs.shifts.limbs_down.Goals as goal

pub loop-init : goal.loop-init
loop-init c = sym (div-one (number c.args.x))

pub loop-preserved : goal.loop-preserved
loop-preserved c =
    let n = number c.args.x in
    let i = c.loop.counter in
    let e : 64 * i + 64 ≡ 64 * (i + 1) = omega arith in
    c.limb_down-down.ensures ∙ ap (λ (m : ℕ). m / 2 ^ 64) c.loop.invariant ∙ shr-shr n (64 * i) 64 ∙ ap (λ (m : ℕ). n / 2 ^ m) e
