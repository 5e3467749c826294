-- Constants (the manual, 2.3; 01, "Lengths" and refusal 5). A constant has a length and a number; its digits stand in a base.
use Rattle.std.specs.Prelude.{Bool, true, false, cond, List, [], ◌∷◌, ℕ, ◌+◌, ◌-◌, ◌*◌, ◌/◌, ◌%◌, ◌^◌, leb, length}
use Rattle.language.specs.Value.{Value, value}

-- The number that digits have in a base, after those that gave n.
unfoldable pub digits_after : ℕ → ℕ → List ℕ → ℕ
digits_after base n [] = n
digits_after base n (d ∷ ds) = digits_after base (n * base + d) ds

abbrev pub digits_number : ℕ → List ℕ → ℕ
digits_number base ds = digits_after base 0 ds

-- Truncated on the left, or extended on the left with zeroes.
unfoldable pub right_justified : ℕ → ℕ → Value
right_justified l n = value l (n % 2 ^ l)

-- Truncated on the right, or padded on the right with zeroes: n was written in b bits.
unfoldable pub left_justified : ℕ → ℕ → ℕ → Value
left_justified l b n = value l (cond (leb b l) (n * 2 ^ (l - b)) (n / 2 ^ (b - l)))

-- A constant in base 2 to the k (B, Q, @ and H: k is 1, 2, 3 and 4), with or without the period that left-justifies it.
unfoldable pub binary_constant : ℕ → Bool → ℕ → List ℕ → Value
binary_constant k true l ds = left_justified l (k * length ds) (digits_number (2 ^ k) ds)
binary_constant k false l ds = right_justified l (digits_number (2 ^ k) ds)

-- A constant in base 10 is never left-justified.
unfoldable pub decimal_constant : ℕ → List ℕ → Value
decimal_constant l ds = right_justified l (digits_number 10 ds)

-- A bare constant has 16 bits.
unfoldable pub bare_length : ℕ
bare_length = 16

unfoldable pub bare_constant : List ℕ → Value
bare_constant ds = decimal_constant bare_length ds
