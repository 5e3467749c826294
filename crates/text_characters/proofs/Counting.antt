-- A run is counted byte by byte: one step, and its two ways to stop.
use mathlib.Core.Bool.{Bool, true, false, cond}
use mathlib.Core.List.{List, [], ◌∷◌}
use mathlib.Core.Path.{◌≡◌}
use Prim.Native.Nat.{ℕ, suc, ◌+◌, ◌<◌, ◌≤◌}
use native.Mathlib.Numerals.{add-one}
use native.Mathlib.Omega.{arith}
use lib.ListN.{length, get_or, drop, drop_of_length-le}
use lib.Seq.{drop-cons}
use Rattle.language.specs.Scan.{span}

module _ (f : ℕ → Bool) (s : List ℕ) (i : ℕ) (counted : span f s ≡ i + span f (drop i s)) where
  pub more : i < length s → f (get_or s i 0) ≡ true → span f s ≡ i + 1 + span f (drop (i + 1) s)
  unfolding span
  more h e = rw (add-one i) (omega (arith, step))
    where
      step : span f (drop i s) ≡ suc (span f (drop (suc i) s))
      step = rw (drop-cons s i 0 h) (simp e)

  pub stop : i < length s → f (get_or s i 0) ≡ false → i ≡ span f s
  unfolding span
  stop h e = omega (arith, none)
    where
      none : span f (drop i s) ≡ 0
      none = rw (drop-cons s i 0 h) (simp e)

  pub end : length s ≤ i → i ≡ span f s
  unfolding span
  end h = omega (arith, none)
    where
      none : span f (drop i s) ≡ 0
      none = rw (drop_of_length-le s h)

-- A run lies within its text.
pub span-le : (f : ℕ → Bool) (s : List ℕ) → span f s ≤ length s
unfolding span
span-le f [] = omega arith
span-le f (b ∷ t) = go (f b) (span-le f t)
  where
    go : (x : Bool) → span f t ≤ length t → cond x (suc (span f t)) 0 ≤ suc (length t)
    go true h = omega arith
    go false h = omega arith
