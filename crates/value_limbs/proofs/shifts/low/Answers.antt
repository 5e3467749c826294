use mathlib.Core.Path.{◌≡◌, ap, ap₂, ◌∙◌}
use Prim.Native.Nat.{ℕ, ◌-◌, ◌%◌, ◌^◌}
use lib.ListN.{get_or}
use native.Mathlib.Omega.{arith}
use Rattle.value_limbs.specs.Limbs.{number, cat}
use Rattle.value_limbs.proofs.Laws.{low-four}
use borrow.Author.Rules.{rules}
use Rattle.value_limbs.proofs.shifts.low.Goals as goal

pub returns : goal.returns
unfolding number
returns c =
    let x = c.args.x in
    let k = c.args.k in
    let e2 : c.saturating_sub-2.result ≡ k - 64 - 64 = omega arith in
    let e3 : c.saturating_sub-3.result ≡ k - 64 - 64 - 64 = omega arith in
    ap₂ cat
    (ap₂ cat
    (ap₂ cat (c.low_limb-4.ensures ∙ ap (λ (n : ℕ). get_or x 3 0 % 2 ^ n) e3) (c.low_limb-3.ensures ∙ ap (λ (n : ℕ). get_or x 2 0 % 2 ^ n) e2))
    (c.low_limb-2.ensures ∙ ap (λ (n : ℕ). get_or x 1 0 % 2 ^ n) c.saturating_sub.ensures))
    c.low_limb.ensures
    ∙ low-four {x = x} k (search rules)
