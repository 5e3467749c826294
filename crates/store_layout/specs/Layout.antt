-- Where the bytes of a word stand (01, "Image, store, record"): most significant first. Nothing else knows their order.
use Rattle.std.specs.Prelude.{List, ◌++◌, ℕ, ◌+◌, ◌-◌, ◌<◌, drop, get_or, take}
use Rattle.language.specs.Layout.{word_bytes, word_from_bytes, word_to_bytes}

-- The index, among the bytes of a word of l bits, of byte j, counted from the least significant one.
unfoldable pub position : ℕ → ℕ → ℕ
position l j = word_bytes l - 1 - j

-- What a slice of bytes holds.
abbrev pub Bytes : List ℕ → Type 0
Bytes B = (i : ℕ) → get_or B i 0 < 256

-- The number of the word of l bits whose first byte is at `at`, spare bits included.
unfoldable pub word_in : List ℕ → ℕ → ℕ → ℕ
word_in B at l = word_from_bytes (take (word_bytes l) (drop at B))

-- The bytes with the number x as that word.
unfoldable pub with_word : List ℕ → ℕ → ℕ → ℕ → List ℕ
with_word B at l x = take at B ++ (word_to_bytes l x ++ drop (at + word_bytes l) B)
