-- The further digits of a wide constant, written before its own record, give its number back.
use mathlib.Core.Bool.{true}
use mathlib.Core.List.{List}
use mathlib.Core.Path.{◌≡◌, refl, ap, ◌∙◌}
use Prim.Native.Nat.{ℕ, zero, suc, ◌+◌, ◌-◌, ◌*◌, ◌/◌, ◌%◌, ◌^◌, ◌<◌, ◌≤◌}
use native.Mathlib.Nat.{lt_of_lt_of_le, mod-eq_of_lt, mod-one}
use native.Mathlib.Omega.{arith}
use borrow.Author.Tests.{eq-eqb}
use lib.ListN.{get_or}
use lib.Pow.{mod-pow-add, pow-add, pow_mono}
use Rattle.language.specs.Decode.{digits_before, digits_marked, number_at}
use Rattle.language.specs.Description as D
use Rattle.language.specs.Description.{digit_length, further_digits}
use Rattle.language.specs.Value.{Value}
use Rattle.image_records.proofs.NodeBack.{Fits}
use Rattle.language.specs.Encode.{node_size}

-- The k records before record n are marked as further digits and hold those of x, the lower ones later.
abbrev pub Above : ℕ → ℕ → ℕ → List ℕ → Type 0
Above zero n x s = Unit {0}
Above (suc k) zero x s = ⊥
Above (suc k) (suc n) x s = (get_or s (node_size * n) 0 ≡ 2) × (number_at 6 (node_size * n + 2) s ≡ x % 2 ^ 48) × Above k n (x / 2 ^ 48) s

above-marked : (k n x : ℕ) (s : List ℕ) → Above k n x s → digits_marked k n s ≡ true
unfolding digits_marked
above-marked zero n x s h = refl
above-marked (suc k) zero x s h = absurd h
above-marked (suc k) (suc n) x s h = rw (eq-eqb _ _ h.0) (above-marked k n (x / 2 ^ 48) s h.2)

above-number : (k n x : ℕ) (s : List ℕ) → Above k n x s → digits_before k n s ≡ x % 2 ^ (48 * k) * 2 ^ 48
unfolding digits_before digit_length
above-number zero n x s h = rw (mod-one x)
above-number (suc k) zero x s h = absurd h
above-number (suc k) (suc n) x s h =
    let e : 48 * suc k ≡ 48 * k + 48 = omega arith in
    let d : x % 2 ^ (48 * k + 48) ≡ x / 2 ^ 48 % 2 ^ (48 * k) * 2 ^ 48 + x % 2 ^ 48 = mod-pow-add x (48 * k) 48 in
    rw (h.1, above-number k n (x / 2 ^ 48) s h.2, e, d) (ap (λ (y : ℕ). y * 2 ^ 48) (omega arith))

-- A constant whose further digits stand above its record fits it.
pub constant-above : (s : List ℕ) (n : ℕ) (v : Value) → 1 ≤ v.length → v.length ≤ 256 → v.number < 2 ^ v.length
    → Above (further_digits v.length) n (v.number / 2 ^ 48) s → Fits s n (D.constant v)
unfolding further_digits digit_length
constant-above s n v a b c h =
    let k = (v.length - 1) / 48 in
    let x = v.number / 2 ^ 48 in
    let l : v.length ≤ 48 * k + 48 = omega arith in
    let p : v.number < 2 ^ (48 * k) * 2 ^ 48 = rw (pow-add 2 (48 * k) 48) at (lt_of_lt_of_le c (pow_mono l)) in
    let q : x < 2 ^ (48 * k) = omega arith in (
      a,
      b,
      above-marked k n x s h,
      ap (λ (y : ℕ). v.number % 2 ^ 48 + y) (above-number k n x s h ∙ ap (λ (y : ℕ). y * 2 ^ 48) (mod-eq_of_lt q)) ∙ omega arith,
    )
