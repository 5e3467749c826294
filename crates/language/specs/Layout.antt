-- Where words lie in the store (01, "Image, store, record"): a word takes the fewest whole bytes; words in declared order, facilities in order of declaration; computed terminals have no place.
use Rattle.std.specs.Prelude.{Bool, cond, List, [], ◌∷◌, ◌++◌, ℕ, zero, suc, ◌+◌, ◌*◌, ◌/◌, ◌%◌, ◌^◌, ltb}
use Rattle.language.specs.Description.{Description, Facility, is_computed, word_count, word_length}

-- Bytes of a word of l bits.
unfoldable pub word_bytes : ℕ → ℕ
word_bytes l = (l + 7) / 8

unfoldable pub facility_bytes : Facility → ℕ
facility_bytes f = cond (is_computed f.kind) 0 (word_count f * word_bytes (word_length f))

-- The first byte of facility n among those from here on.
unfoldable pub place_in : List Facility → ℕ → ℕ
place_in [] n = 0
place_in (f ∷ fs) zero = 0
place_in (f ∷ fs) (suc n) = facility_bytes f + place_in fs n

unfoldable pub store_size_of : List Facility → ℕ
store_size_of [] = 0
store_size_of (f ∷ fs) = facility_bytes f + store_size_of fs

unfoldable pub store_size : Description → ℕ
store_size d = store_size_of d.facilities

-- ---- The bytes of a word: most significant first, spare high bits zero.

-- The last n bytes of a number.
unfoldable pub bytes_of : ℕ → ℕ → List ℕ
bytes_of zero x = []
bytes_of (suc n) x = bytes_of n (x / 256) ++ x % 256 ∷ []

-- The number that bytes have, after those that gave x.
unfoldable pub number_after : ℕ → List ℕ → ℕ
number_after x [] = x
number_after x (b ∷ bs) = number_after (x * 256 + b) bs

unfoldable pub word_to_bytes : ℕ → ℕ → List ℕ
word_to_bytes l x = bytes_of (word_bytes l) x

unfoldable pub word_from_bytes : List ℕ → ℕ
word_from_bytes bs = number_after 0 bs

-- The bits above the word's l bits are zero.
unfoldable pub no_spare_bits : ℕ → ℕ → Bool
no_spare_bits l x = ltb x (2 ^ l)
