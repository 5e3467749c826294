use mathlib.Core.Path.{◌≡◌, sym, ap, ◌∙◌}
use Prim.Native.Nat.{ℕ, ◌+◌, ◌*◌, ◌%◌, ◌^◌}
use native.Mathlib.Nat.{mul-one}
use native.Mathlib.Omega.{arith}
use Rattle.value_limbs.specs.Limbs.{number}
use Rattle.value_limbs.proofs.Laws.{four-lt, left-left, whole-low}
use borrow.Author.Rules.{rules}
use Rattle.value_limbs.proofs.shifts.limbs_up.Goals as goal

pub loop-init : goal.loop-init
loop-init c =
    let n = number c.args.x in
    whole-low {w = 256} 256 (omega arith) (four-lt {x = c.args.x} (search rules)) ∙ ap (λ (m : ℕ). m % 2 ^ 256) (sym (mul-one n))

pub loop-preserved : goal.loop-preserved
loop-preserved c =
    let n = number c.args.x in
    let i = c.loop.counter in
    let e : 64 * i + 64 ≡ 64 * (i + 1) = omega arith in
    c.limb_up-up.ensures ∙ ap (λ (m : ℕ). m * 2 ^ 64 % 2 ^ 256) c.loop.invariant ∙ left-left n (64 * i) 64 (2 ^ 256) ∙ ap (λ (m : ℕ). n * 2 ^ m % 2 ^ 256) e
