-- The digits of a constant, one after the other.
use Rattle.std.specs.Prelude.{Bool, true, false, cond, List, [], ◌∷◌, ℕ, ◌^◌, leb}
use Rattle.language.specs.Constants.{binary_constant}
use Rattle.language.specs.Scan.{Found, based, digits_of, written}
use Rattle.language.specs.Ceilings.{longest}
use Rattle.value_constants.specs.Digits.{Written, left_more, right_more}

-- What is held after each of the digits.
unfoldable pub each_digit : {A : Type 0} → (A → ℕ → A) → A → List ℕ → A
each_digit f a [] = a
each_digit f a (d ∷ ds) = each_digit f (f a d) ds

-- One digit of k bits more, left-justified or not.
abbrev pub binary_more : ℕ → Bool → Written → ℕ → Written
binary_more k true w d = left_more w k d
binary_more k false w d = right_more w k d

-- The length that a number gives, and 0 where no value is so long.
unfoldable pub length_of : ℕ → ℕ
unfolding longest
length_of n = cond (leb n longest) n 0

-- The constant whose k-bit digits s begins with, after `start` bytes.
unfoldable pub binary_from : ℕ → Bool → ℕ → ℕ → List ℕ → Found
binary_from k left l start s = let ds = digits_of (2 ^ k) s in based l ds (written false (binary_constant k left l ds)) start
