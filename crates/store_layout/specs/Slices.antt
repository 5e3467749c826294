-- What is left of a slice after another is copied onto it, or lands on it under a mask.
use Rattle.std.specs.Prelude.{List, [], ◌∷◌, ℕ}
use Rattle.std.specs.Int.Bits.{bit_and, bit_xor}

-- The first bytes are those of the other, as many as both have.
unfoldable pub copied : List ℕ → List ℕ → List ℕ
copied [] from = []
copied (b ∷ bs) [] = b ∷ bs
copied (b ∷ bs) (x ∷ xs) = x ∷ copied bs xs

-- The bits of p where the mask m has one, and those of s elsewhere.
unfoldable pub land_bits : ℕ → ℕ → ℕ → ℕ
land_bits s p m = bit_xor s (bit_and (bit_xor s p) m)

-- So for each byte, or each word, that all three have.
unfoldable pub landed : List ℕ → List ℕ → List ℕ → List ℕ
landed [] ps ms = []
landed (s ∷ ss) [] ms = s ∷ ss
landed (s ∷ ss) (p ∷ ps) [] = s ∷ ss
landed (s ∷ ss) (p ∷ ps) (m ∷ ms) = land_bits s p m ∷ landed ss ps ms
