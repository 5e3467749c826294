-- A buffer that begins with some bytes and is zero behind them, and more bytes put behind those.
use mathlib.Core.List.{List, [], ◌++◌}
use mathlib.Core.Path.{◌≡◌, ◌∙◌}
use Prim.Native.Nat.{ℕ, zero, suc, ◌+◌, ◌-◌, ◌≤◌}
use native.Mathlib.Omega.{arith}
use lib.ListN.{drop, length, length-append, length-replicate}
use lib.Seq.{drop-append-add, take-append_seam}
use Rattle.language.specs.Reading.{filled, zeroes}
use Rattle.image_records.specs.Placed.{placed}
use Rattle.image_records.proofs.ByteLaws.{placed-whole}

drop-zeroes : (m n : ℕ) → drop m (zeroes n) ≡ zeroes (n - m)
drop-zeroes zero n = let e : n - 0 ≡ n = omega arith in rw e
drop-zeroes (suc m) zero = let e : 0 - suc m ≡ 0 = omega arith in rw e
drop-zeroes (suc m) (suc n) = let e : suc n - suc m ≡ n - m = omega arith in rw e (drop-zeroes m n)

pub filled-length : (n : ℕ) (p : List ℕ) → length p ≤ n → length (filled n p) ≡ n
unfolding filled
filled-length n p h = omega (arith, length-append p (zeroes (n - length p)), length-replicate {A = ℕ} (n - length p) 0)

pub filled_none : (n : ℕ) → zeroes n ≡ filled n []
unfolding filled
filled_none n = let e : n - 0 ≡ n = omega arith in rw e

filled_put : (n : ℕ) (p cs : List ℕ) → length p + length cs ≤ n → placed (filled n p) (length p) cs ≡ filled n (p ++ cs)
unfolding filled
filled_put n p cs h =
    let z = zeroes (n - length p) in
    let l : length (p ++ z) ≡ n = filled-length n p (omega arith) in
    let e : n - length p - length cs ≡ n - length (p ++ cs) = omega (arith, length-append p cs) in
    placed-whole (p ++ z) cs (length p) (omega arith)
    ∙ rw (take-append_seam p z, drop-append-add p z (length cs), drop-zeroes (length cs) (n - length p), e)

-- The same, as the code has it.
pub filled_more : (n : ℕ) (p cs : List ℕ) {s s' bs : List ℕ} {at : ℕ} → length p ≡ at → s ≡ filled n p → at + length cs ≤ n → bs ≡ cs → s' ≡ placed s at bs
    → s' ≡ filled n (p ++ cs)
filled_more n p cs l e h f g = g ∙ rw (e, f, ← l) (filled_put n p cs (omega arith))
