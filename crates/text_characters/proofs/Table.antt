-- A table's rule: a table that computes to the values of a function has them at each of its entries.
use mathlib.Core.Bool.{Bool, true, false, ◌&&◌, false≢true}
use mathlib.Core.List.{List, [], ◌∷◌}
use mathlib.Core.Path.{◌≡◌, ◌∙◌, ap, refl}
use Prim.Native.Nat.{ℕ, zero, suc, ◌+◌, ◌<◌}
use native.Mathlib.Nat.{add-zero, zero-add, add-suc, suc-add}
use native.Mathlib.Omega.{arith}
use lib.ListN.{get_or}

-- The values of f at n numbers from i on.
abbrev pub values_from : (ℕ → ℕ) → ℕ → ℕ → List ℕ
values_from f i zero = []
values_from f i (suc n) = f i ∷ values_from f (suc i) n

value-from : (f : ℕ → ℕ) (i n k : ℕ) → k < n → get_or (values_from f i n) k 0 ≡ f (i + k)
value-from f i zero k h = absurd (omega arith)
value-from f i (suc n) zero h = rw add-zero
value-from f i (suc n) (suc k) h = value-from f (suc i) n k (omega arith) ∙ ap f (rw (suc-add, add-suc))

pub value-at : (f : ℕ → ℕ) (n k : ℕ) → k < n → get_or (values_from f 0 n) k 0 ≡ f k
value-at f n k h = value-from f 0 n k h ∙ ap f (zero-add k)

-- Both of two tests.
pub first : (a b : Bool) → (a && b) ≡ true → a ≡ true
first true b e = refl
first false b e = absurd (false≢true e)

pub second : (a b : Bool) → (a && b) ≡ true → b ≡ true
second true b e = e
second false b e = absurd (false≢true e)
