use mathlib.Core.Path.{◌≡◌, ap, ◌∙◌, subst}
use Prim.Native.Nat.{ℕ, ◌+◌, ◌-◌, ◌/◌, ◌^◌, ◌<◌}
use native.Mathlib.Omega.{arith}
use lib.Pow.{shr-shr, shr_lt}
use Rattle.value_limbs.proofs.Laws.{left-carry}
use borrow.Author.Rules.{rules}
use Rattle.value_limbs.proofs.shifts.limb_left.Goals as goal

pub returns : goal.returns
returns c =
    let s = c.args.s in
    let a = c.args.a in
    let e64 : 64 ≡ s + (64 - s) = omega arith in
    let e : a / 2 ^ 1 / 2 ^ (63 - s) ≡ a / 2 ^ (64 - s) = shr-shr a 1 (63 - s) ∙ ap (λ (n : ℕ). a / 2 ^ n) (omega arith) in
    rw e (shr_lt s (64 - s) (subst (λ (n : ℕ). a < 2 ^ n) e64 (search rules)), left-carry 64 s a (search rules) (search rules))
