-- The number of four limbs of 64 bits, the lowest first; and what a carry is.
use Rattle.std.specs.Prelude.{◌≡◌, List, ℕ, ◌+◌, ◌*◌, ◌^◌, get_or}

abbrev pub cat : ℕ → ℕ → ℕ
cat high low = high * 2 ^ 64 + low

unfoldable pub number : List ℕ → ℕ
number x = cat (cat (cat (get_or x 3 0) (get_or x 2 0)) (get_or x 1 0)) (get_or x 0 0)

-- t + c is the digit `low` to the base B, and `out` is carried.
pub record Carry (B t c low out : ℕ) : Type 0 where
  pub sum : out * B + low ≡ t + c
