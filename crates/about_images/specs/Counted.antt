-- Sums over records from a number on.
use Rattle.std.specs.Prelude.{List, [], ◌∷◌, ◌≡◌, refl, get_or, length}
use Rattle.std.proofs.Common.{◌∙◌}
use Prim.Native.Nat.{ℕ, zero, suc, ◌+◌}
use native.Mathlib.Omega.{arith}
use Rattle.language.specs.Canonical.{total}

module _ (weight : ℕ → ℕ) where
  -- The weights of k records from record i on.
  unfoldable pub count : ℕ → ℕ → ℕ
  count i zero = 0
  count i (suc k) = weight i + count (suc i) k

  pub count_add : (i k l : ℕ) → count i (k + l) ≡ count i k + count (i + k) l
  unfolding count
  count_add i zero l = let e : 0 + l ≡ l = omega arith in let f : i + 0 ≡ i = omega arith in rw (e, f) (omega arith)
  count_add i (suc k) l =
      let e : suc k + l ≡ suc (k + l) = omega arith in
      let f : i + suc k ≡ suc i + k = omega arith in
      rw (e, f) (omega (arith, count_add (suc i) k l))

  pub count-one : (i : ℕ) → count i 1 ≡ weight i
  unfolding count
  count-one i = omega arith

  -- One more.
  pub count-more : (i k n : ℕ) → i + k ≡ n → count i (k + 1) ≡ count i k + weight n
  count-more i k n h = count_add i k 1 ∙ rw h (rw (count-one n))

-- All records of a list.
pub count-all : {A : Type 0} (f : A → ℕ) (d : A) (weight : ℕ → ℕ) (xs : List A) (i : ℕ) → ((n : ℕ) → weight (i + n) ≡ f (get_or xs n d)) → count weight i (length xs) ≡ total f xs
unfolding count total
count-all f d weight [] i h = refl
count-all f d weight (x ∷ xs) i h =
    let e : i + 0 ≡ i = omega arith in
    let p : weight i ≡ f x = rw e at (h 0) in
    let q : count weight (suc i) (length xs) ≡ total f xs = count-all f d weight xs (suc i) (λ n. let g : suc i + n ≡ i + suc n = omega arith in rw g (h (suc n))) in
    rw (p, q)
