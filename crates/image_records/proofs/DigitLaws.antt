-- The digits of a wide constant: their marks, and the number that they give.
use mathlib.Core.Bool.{true, false, cond}
use mathlib.Core.List.{List}
use mathlib.Core.Path.{◌≡◌, refl, ◌∙◌}
use Prim.Native.Nat.{ℕ, zero, suc, ◌+◌, ◌-◌, ◌*◌, ◌/◌, ◌^◌, ◌<◌, ◌≤◌}
use native.Mathlib.Omega.{arith}
use borrow.Author.Tests.{eq-eqb, ne_eqb}
use lib.Dec.{eqb}
use lib.ListN.{get_or}
use Rattle.language.specs.Decode.{digits_before, digits_marked}
use Rattle.language.specs.Description.{digit_length, further_digits}
use Rattle.language.specs.Encode.{node_size}
use Rattle.image_records.specs.Nodes.{constant_number, digits}

-- ---- Marks.

marked_more : (k n : ℕ) (s : List ℕ) → 0 < k → 0 < n
    → digits_marked k n s ≡ cond (eqb (get_or s (node_size * (n - 1)) 0) 2) (digits_marked (k - 1) (n - 1) s) false
unfolding digits_marked
marked_more zero n s h g = absurd (omega arith)
marked_more (suc k) zero s h g = absurd (omega arith)
marked_more (suc k) (suc n) s h g =
    let e : suc n - 1 ≡ n = omega arith in
    let f : suc k - 1 ≡ k = omega arith in
    rw (e, f)

pub marked-here : (k n : ℕ) (s : List ℕ) → 0 < k → 0 < n → get_or s (node_size * (n - 1)) 0 ≡ 2 → digits_marked k n s ≡ digits_marked (k - 1) (n - 1) s
marked-here k n s h g e = marked_more k n s h g ∙ rw (eq-eqb _ _ e)

pub marked-not : (k n : ℕ) (s : List ℕ) → 0 < k → 0 < n → (get_or s (node_size * (n - 1)) 0 ≡ 2 → ⊥) → digits_marked k n s ≡ false
marked-not k n s h g e = marked_more k n s h g ∙ rw (ne_eqb _ _ e)

pub marked-none : (k n : ℕ) (s : List ℕ) → 0 < k → n ≡ 0 → digits_marked k n s ≡ false
unfolding digits_marked
marked-none zero n s h e = absurd (omega arith)
marked-none (suc k) n s h e = rw e

pub marked_all : (k n : ℕ) (s : List ℕ) → k ≤ 0 → digits_marked k n s ≡ true
unfolding digits_marked
marked_all zero n s h = refl
marked_all (suc k) n s h = absurd (omega arith)

-- ---- Numbers.

pub before-digits : (k n : ℕ) (s : List ℕ) → digits_before k n s ≡ digits k n s * 2 ^ 48
unfolding digits digits_before digit_length
before-digits zero n s = refl
before-digits (suc k) zero s = refl
before-digits (suc k) (suc n) s = rw (before-digits k n s) (omega arith)

-- A constant's number is that of its record and the further digits before it.
pub constant-digits : (n : ℕ) (s : List ℕ) → constant_number n s ≡ digits (suc (further_digits (get_or s (node_size * n + 1) 0 + 1))) (suc n) s
unfolding constant_number digits digit_length
constant-digits n s = rw (before-digits (further_digits (get_or s (node_size * n + 1) 0 + 1)) n s) (omega arith)

pub further-of : (x : ℕ) → further_digits (x + 1) ≡ x / 48
unfolding further_digits digit_length
further-of x = let e : x + 1 - 1 ≡ x = omega arith in rw e
