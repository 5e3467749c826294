use mathlib.Core.List.{List}
use mathlib.Core.Path.{◌≡◌, sym, ap, ◌∙◌}
use Prim.Native.Nat.{ℕ, ◌+◌, ◌*◌, ◌/◌, ◌%◌, ◌^◌, ◌<◌}
use native.Mathlib.Nat.{div-one}
use native.Mathlib.Omega.{arith}
use lib.Pow.{shr-shr}
use Rattle.value_limbs.specs.Limbs.{number}
use Rattle.value_limbs.proofs.Laws.{right-four}
use borrow.Author.Rules.{rules}
use Rattle.value_limbs.proofs.shifts.right.Goals as goal
use Rattle.value_limbs.proofs.shifts.right.Goals.{then-k-lt64, else-k-lt64}

-- What is left to shift, where no limbs are counted, and where they are.
near : (x a : List ℕ) (k : ℕ) → k < 64 → a ≡ x → number a / 2 ^ (k % 64) ≡ number x / 2 ^ k
near x a k h e =
    let s : k % 64 ≡ k = omega arith in
    ap (λ (l : List ℕ). number l / 2 ^ (k % 64)) e ∙ ap (λ (m : ℕ). number x / 2 ^ m) s

far : (x a : List ℕ) (k : ℕ) → number a ≡ number x / 2 ^ (64 * (k / 64)) → number a / 2 ^ (k % 64) ≡ number x / 2 ^ k
far x a k e =
    let s : 64 * (k / 64) + k % 64 ≡ k = omega arith in
    ap (λ (m : ℕ). m / 2 ^ (k % 64)) e ∙ shr-shr (number x) (64 * (k / 64)) (k % 64) ∙ ap (λ (m : ℕ). number x / 2 ^ m) s

pub returns-then-s-eq0 : goal.returns-then-s-eq0
returns-then-s-eq0 c =
    let a = c.if-k-lt64.a in
    let k = c.args.k in
    let e : number a / 2 ^ (k % 64) ≡ number c.args.x / 2 ^ k = elim c.if-k-lt64.branch [
      | then-k-lt64 w ↦ near c.args.x a k (omega arith) w.a-is
      | else-k-lt64 w ↦ far c.args.x a k (ap number w.a-is ∙ w.limbs_down-a.ensures)
    ] in
    let z : 0 ≡ k % 64 = omega arith in
    sym (div-one (number a)) ∙ ap (λ (m : ℕ). number a / 2 ^ m) z ∙ e

pub returns : goal.returns
unfolding number
returns c =
    let a = c.if-k-lt64.a in
    let k = c.args.k in
    let r = c.left_within-l1.result in
    let e : number a / 2 ^ (k % 64) ≡ number c.args.x / 2 ^ k = elim c.if-k-lt64.branch [
      | then-k-lt64 w ↦ near c.args.x a k (omega arith) w.a-is
      | else-k-lt64 w ↦ far c.args.x a k (ap number w.a-is ∙ w.limbs_down-a.ensures)
    ] in
    right-four (number a) (k % 64) _ r.0 (omega arith) (search rules) c.left_within-l1.ensures ∙ e
