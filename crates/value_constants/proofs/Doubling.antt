-- The five sums are ten times the number and the digit.
use mathlib.Core.Bool.{Bool}
use mathlib.Core.Path.{◌≡◌, ap, ◌∙◌}
use Prim.Native.Nat.{ℕ, ◌+◌, ◌%◌, ◌^◌}
use native.Mathlib.Nat.{add-mod-mod, mod-add-mod}
use native.Mathlib.Omega.{arith}
use Rattle.value_constants.specs.Digits.{Held, decimal_more}
use Rattle.value_constants.specs.Doubling.{adding, by_doubling}
use Rattle.value_constants.proofs.Digits.{held_of, over, passes}

-- What is held of n.
abbrev reached : Bool → ℕ → Held
reached passed n = record { low = n % 2 ^ 256; passed = over (2 ^ 256) passed n }

-- A number more, and as many more as are held.
abbrev pub more : ℕ → Held → Held
more k x = adding x.low k x.passed

abbrev pub twice : Held → Held
twice x = more x.low x

module _ (passed : Bool) where
  adds : (n k : ℕ) → more k (reached passed n) ≡ reached passed (n + k)
  unfolding adding
  adds n k = held_of (mod-add-mod n (2 ^ 256) k) (passes (2 ^ 256) (λ (i : ℕ). i + k) passed n (omega arith))

  doubles : (n : ℕ) → twice (reached passed n) ≡ reached passed (n + n)
  unfolding adding
  doubles n = held_of (mod-add-mod n (2 ^ 256) (n % 2 ^ 256) ∙ add-mod-mod n n (2 ^ 256)) (passes (2 ^ 256) (λ (i : ℕ). i + i) passed n (omega arith))

-- The five sums leave 10 x + d modulo 2 to the 256, and one of them passes that exactly where 10 x + d does; or it was passed before.
pub ten-by-doubling : (x : Held) (d : ℕ) → by_doubling x d ≡ decimal_more x d
unfolding by_doubling decimal_more adding
ten-by-doubling x d =
    let p = x.passed in
    let n = x.low in
    let b : twice (twice x) ≡ reached p (n + n + (n + n)) = doubles p (n + n) in
    let c = ap (more n) b ∙ adds p (n + n + (n + n)) n in
    let e = ap twice c ∙ doubles p (n + n + (n + n) + n) in
    ap (more d) e
    ∙ adds p (n + n + (n + n) + n + (n + n + (n + n) + n)) d
    ∙ ap (λ (i : ℕ). reached p i) (omega arith)
