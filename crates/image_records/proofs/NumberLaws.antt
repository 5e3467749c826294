-- Numbers in bytes: a longer number is two shorter ones, past the end there is nothing, and what was written is read back.
use mathlib.Core.List.{List}
use mathlib.Core.Path.{◌≡◌, refl}
use Prim.Native.Nat.{ℕ, zero, suc, ◌+◌, ◌*◌, ◌/◌, ◌%◌, ◌^◌, ◌<◌, ◌≤◌}
use native.Mathlib.Nat.{pow-succ', pow-zero}
use native.Mathlib.Omega.{arith}
use lib.ListN.{length, get_or, get_or-eq_default}
use Rattle.language.specs.Decode.{number_at}
use Rattle.language.specs.Encode.{little}

pub number_past : (k at : ℕ) (s : List ℕ) → length s ≤ at → number_at k at s ≡ 0
unfolding number_at
number_past zero at s h = refl
number_past (suc k) at s h = rw (get_or-eq_default s 0 h, number_past k (suc at) s (omega arith))

pub number-two : (at : ℕ) (s : List ℕ) → number_at 2 at s ≡ get_or s at 0 + get_or s (at + 1) 0 * 256
unfolding number_at
number-two at s = let e : suc at ≡ at + 1 = omega arith in rw e (omega arith)

-- Only the first of the two bytes is there.
pub number-last : (at : ℕ) (s : List ℕ) → length s ≤ at + 1 → number_at 2 at s ≡ get_or s at 0
number-last at s h = rw (number-two, get_or-eq_default s 0 h) (omega arith)

pub number-four : (at : ℕ) (s : List ℕ) → number_at 4 at s ≡ number_at 2 at s + number_at 2 (at + 2) s * 0x10000
unfolding number_at
number-four at s = let e : at + 2 ≡ suc (suc at) = omega arith in rw e (omega arith)

pub number-six : (at : ℕ) (s : List ℕ) → number_at 6 at s ≡ number_at 4 at s + number_at 2 (at + 4) s * 0x100000000
unfolding number_at
number-six at s = let e : at + 4 ≡ suc (suc (suc (suc at))) = omega arith in rw e (omega arith)

-- ---- Bytes that were written.

pub number-back : (k at x : ℕ) (s : List ℕ) → x < 256 ^ k → ((i : ℕ) → i < k → get_or s (at + i) 0 ≡ get_or (little k x) i 0) → number_at k at s ≡ x
unfolding number_at little
number-back zero at x s h f = omega (arith, pow-zero 256)
number-back (suc k) at x s h f =
    let e : at + 0 ≡ at = omega arith in
    let b : get_or s at 0 ≡ x % 256 = rw e at (f 0 (omega arith)) in
    let l : x / 256 < 256 ^ k = omega (arith, pow-succ' 256 k) in
    let r : number_at k (suc at) s ≡ x / 256 =
    number-back k (suc at) (x / 256) s l (λ i g. let d : suc at + i ≡ at + suc i = omega arith in rw d (f (suc i) (omega arith))) in
    rw (b, r) (omega arith)
