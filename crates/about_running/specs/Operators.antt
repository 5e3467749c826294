-- An operator whose length rule holds gives a value of that length. Assumes nothing.
use Rattle.std.specs.Prelude.{Bool, true, ◌≡◌, ℕ, ◌≤◌}
use Rattle.std.proofs.Math.Bool.{false}
use Rattle.std.proofs.Math.Path.{refl}
use Rattle.std.proofs.Common.{subst, sym, eqb-true}
use native.Mathlib.Omega.{arith}
use Rattle.std.proofs.Math.Dec.{eqb}
use Rattle.language.specs.Kinds.{at_least_sign, at_most_sign, con_word, difference_sign, exclusive_sign, ext_word, greater_sign, hash, head_word, less_sign, minus, plus, same_sign, star, sum_sign, tail_word}
use Rattle.language.specs.Operators.{binary_length, binary_of, cut_length_of, cut_of, prefix_length, prefix_of}
use Rattle.language.specs.Value.{Made, Value, and_reduction, at_least, at_most, complement, conjunction, difference, disjunction, equal, exclusive, exclusive_reduction, extended, fit, greater, head, join, less, negation, or_reduction, related, sum, sum_reduction, tail, unequal}

-- Some number at that length.
pub record Fits (m : Made) (l : ℕ) : Type 0 where
  pub number : ℕ
  pub same : m ≡ fit l number

-- A test of a kind: where it holds, the kind is that one.
pub by_kind : (P : ℕ → Type 0) (k c : ℕ) → P c → ((eqb k c ≡ false) → P k) → P k
by_kind P k c yes-so no-so = go (eqb k c) refl
  where
    go : (b : Bool) → eqb k c ≡ b → P k
    go true e = subst P (sym (eqb-true k c e)) yes-so
    go false e = no-so e

module _ (x y : Value) where
  abbrev Right : ℕ → Type 0
  Right k = 1 ≤ binary_length k x.length y.length → Fits (binary_of k x y) (binary_length k x.length y.length)

  pub binary-fits : (k : ℕ) → Right k
  unfolding binary_length binary_of sum difference join disjunction conjunction exclusive equal unequal less greater at_most at_least related
  binary-fits k =
      by_kind Right k sum_sign (λ h. record { number = _; same = refl }) (λ e1.
      by_kind Right k difference_sign (λ h. record { number = _; same = refl }) (λ e2.
      by_kind Right k con_word (λ h. record { number = _; same = refl }) (λ e3.
      by_kind Right k plus (λ h. record { number = _; same = refl }) (λ e4.
      by_kind Right k star (λ h. record { number = _; same = refl }) (λ e5.
      by_kind Right k exclusive_sign (λ h. record { number = _; same = refl }) (λ e6.
      by_kind Right k same_sign (λ h. record { number = _; same = refl }) (λ e7.
      by_kind Right k hash (λ h. record { number = _; same = refl }) (λ e8.
      by_kind Right k less_sign (λ h. record { number = _; same = refl }) (λ e9.
      by_kind Right k greater_sign (λ h. record { number = _; same = refl }) (λ ea.
      by_kind Right k at_most_sign (λ h. record { number = _; same = refl }) (λ eb.
      by_kind Right k at_least_sign (λ h. record { number = _; same = refl }) (λ ec.
      λ h. absurd (other e1 e2 e3 e4 e5 e6 e7 e8 e9 ea eb ec h)))))))))))))
    where
      other : eqb k sum_sign ≡ false → eqb k difference_sign ≡ false → eqb k con_word ≡ false → eqb k plus ≡ false → eqb k star ≡ false → eqb k exclusive_sign ≡ false
          → eqb k same_sign ≡ false → eqb k hash ≡ false → eqb k less_sign ≡ false → eqb k greater_sign ≡ false → eqb k at_most_sign ≡ false → eqb k at_least_sign ≡ false
          → 1 ≤ binary_length k x.length y.length → ⊥
      other e1 e2 e3 e4 e5 e6 e7 e8 e9 ea eb ec h = let z = rw (e1, e2, e3, e4, e5, e6, e7, e8, e9, ea, eb, ec) at h in omega arith

module _ (x : Value) where
  abbrev RightPrefix : ℕ → Type 0
  RightPrefix k = 1 ≤ prefix_length k x.length → Fits (prefix_of k x) (prefix_length k x.length)

  pub prefix-fits : (k : ℕ) → RightPrefix k
  unfolding prefix_length prefix_of complement negation or_reduction and_reduction exclusive_reduction sum_reduction
  prefix-fits k =
      by_kind RightPrefix k minus (λ h. record { number = _; same = refl }) (λ e1.
      by_kind RightPrefix k difference_sign (λ h. record { number = _; same = refl }) (λ e2.
      by_kind RightPrefix k plus (λ h. record { number = _; same = refl }) (λ e3.
      by_kind RightPrefix k star (λ h. record { number = _; same = refl }) (λ e4.
      by_kind RightPrefix k exclusive_sign (λ h. record { number = _; same = refl }) (λ e5.
      by_kind RightPrefix k sum_sign (λ h. record { number = _; same = refl }) (λ e6.
      λ h. absurd (other e1 e2 e3 e4 e5 e6 h)))))))
    where
      other : eqb k minus ≡ false → eqb k difference_sign ≡ false → eqb k plus ≡ false → eqb k star ≡ false → eqb k exclusive_sign ≡ false → eqb k sum_sign ≡ false
          → 1 ≤ prefix_length k x.length → ⊥
      other e1 e2 e3 e4 e5 e6 h = let z = rw (e1, e2, e3, e4, e5, e6) at h in omega arith

  abbrev RightCut : ℕ → ℕ → Type 0
  RightCut c k = 1 ≤ cut_length_of k x.length c → Fits (cut_of k x c) (cut_length_of k x.length c)

  pub cut_fits : (k c : ℕ) → RightCut c k
  unfolding cut_length_of cut_of head tail extended
  cut_fits k c =
      by_kind (RightCut c) k head_word (λ h. record { number = _; same = refl }) (λ e1.
      by_kind (RightCut c) k tail_word (λ h. record { number = _; same = refl }) (λ e2.
      by_kind (RightCut c) k ext_word (λ h. record { number = _; same = refl }) (λ e3.
      λ h. absurd (other e1 e2 e3 h))))
    where
      other : eqb k head_word ≡ false → eqb k tail_word ≡ false → eqb k ext_word ≡ false → 1 ≤ cut_length_of k x.length c → ⊥
      other e1 e2 e3 h = let z = rw (e1, e2, e3) at h in omega arith
