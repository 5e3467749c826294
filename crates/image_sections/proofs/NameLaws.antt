-- The lengths of names, summed from record to record.
use mathlib.Core.List.{List}
use mathlib.Core.Path.{◌≡◌}
use Prim.Native.Nat.{ℕ, zero, suc, ◌+◌, ◌-◌, ◌<◌, ◌≤◌}
use native.Mathlib.Omega.{arith}
use lib.ListN.{get_or}
use Rattle.language.specs.Decode.{names_length}

names_more : (k at size : ℕ) (s : List ℕ) → 0 < k → names_length k at size s ≡ get_or s at 0 + names_length (k - 1) (at + size) size s
unfolding names_length
names_more zero at size s h = absurd (omega arith)
names_more (suc k) at size s h = let e : suc k - 1 ≡ k = omega arith in rw e

-- A loop over n records, i of which are done.
pub names-start : (n at size : ℕ) (s : List ℕ) → 0 + names_length (n - 0) at size s ≡ names_length n at size s
names-start n at size s = let e : n - 0 ≡ n = omega arith in rw e (omega arith)

pub names-next : (n i at size sum : ℕ) (s : List ℕ) {b t : ℕ} → i < n → b ≡ get_or s at 0 → sum + names_length (n - i) at size s ≡ t
    → sum + b + names_length (n - (i + 1)) (at + size) size s ≡ t
names-next n i at size sum s h e g =
    let f : n - (i + 1) ≡ n - i - 1 = omega arith in
    rw f (omega (arith, names_more (n - i) at size s (omega arith)))

pub names-end : (n i at size sum : ℕ) (s : List ℕ) {t : ℕ} → n ≤ i → sum + names_length (n - i) at size s ≡ t → sum ≡ t
unfolding names_length
names-end n i at size sum s h g =
    let f : n - i ≡ 0 = omega arith in
    omega (arith, rw f at g)
