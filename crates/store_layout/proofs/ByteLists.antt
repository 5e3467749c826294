-- Lists of bytes stay lists of bytes; and what stands where after a store to one element. Assumes nothing.
use mathlib.Core.Path.{◌≡◌, refl, ap}
use mathlib.Core.Logic.{⊎_elim}
use mathlib.Core.Bool.{Bool, true, false}
use mathlib.Core.List.{List, [], ◌∷◌, ◌++◌}
use Prim.Native.Nat.{ℕ, zero, suc, ◌+◌, ◌-◌, ◌<◌}
use native.Mathlib.Nat.{eq-zero-or-pos, suc-add, zero-add}
use native.Mathlib.Omega.{arith}
use borrow.Author.Tests.{eqb-true, eqb-false}
use lib.Dec.{eqb}
use lib.ListN.{drop, get_or, length, set, take}
use lib.Seq.{get_or-set_same, get_or-set_other, set_out}
use Rattle.store_layout.specs.Layout.{Bytes}

pub bytes_take : (B : List ℕ) (n : ℕ) → Bytes B → Bytes (take n B)
bytes_take B zero h i = omega arith
bytes_take [] (suc n) h i = omega arith
bytes_take (b ∷ B) (suc n) h zero = h 0
bytes_take (b ∷ B) (suc n) h (suc i) = bytes_take B n (λ k. h (suc k)) i

pub bytes_drop : (B : List ℕ) (n : ℕ) → Bytes B → Bytes (drop n B)
bytes_drop B zero h = h
bytes_drop [] (suc n) h = h
bytes_drop (b ∷ B) (suc n) h = bytes_drop B n (λ k. h (suc k))

pub bytes-append : (A B : List ℕ) → Bytes A → Bytes B → Bytes (A ++ B)
bytes-append [] B h g i = g i
bytes-append (a ∷ A) B h g zero = h 0
bytes-append (a ∷ A) B h g (suc i) = bytes-append A B (λ k. h (suc k)) g i

pub bytes-set : (B : List ℕ) (j y : ℕ) → Bytes B → y < 256 → Bytes (set B j y)
bytes-set B j y h l i = go (eqb i j) refl
  where
    go : (t : Bool) → eqb i j ≡ t → get_or (set B j y) i 0 < 256
    go true e = ⊎_elim
        (λ o. rw (set_out B j y (omega arith)) (h i))
        (λ p. rw (eqb-true i j e, get_or-set_same B j y 0 (omega arith)) l)
        (eq-zero-or-pos (length B - j))
    go false e = rw (get_or-set_other B j i y 0 (eqb-false i j e)) (h i)

pub set-append-add : (xs ys : List ℕ) (n a : ℕ) → set (xs ++ ys) (length xs + n) a ≡ xs ++ set ys n a
set-append-add [] ys n a = ap (λ (k : ℕ). set ys k a) (zero-add n)
set-append-add (x ∷ xs) ys n a = rw (suc-add (length xs) n) (ap (λ (l : List ℕ). x ∷ l) (set-append-add xs ys n a))
