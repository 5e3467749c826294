-- The bits of the store's bytes: which of them a part of a word has (01, "Image, store, record"; docs/STORE.md), and what a write gives them. Assumes nothing.
use Rattle.std.specs.Prelude.{Bool, false, ◌||◌, List, [], ◌∷◌, ℕ, ◌+◌, ◌-◌, ◌*◌, ◌/◌, ◌%◌, ◌^◌, leb, ltb, get_or}
use Rattle.language.specs.Description.{Description, facility_at, word_length}
use Rattle.language.specs.Layout.{word_bytes}
use Rattle.language.specs.Meaning.{Place, Write}
use Rattle.store_layout.specs.InBytes.{place_of_word}
use Rattle.language.specs.Tests.{both}

-- The bits of a byte.
abbrev pub byte_bits : ℕ
byte_bits = 8

-- Bit b of byte i; bit 0 is the highest.
unfoldable pub bit_at : List ℕ → ℕ → ℕ → ℕ
bit_at B i b = get_or B i 0 / 2 ^ (byte_bits - 1 - b) % 2

-- How many bits of the store stand before bit b of byte i.
abbrev pub rank : ℕ → ℕ → ℕ
rank i b = byte_bits * i + b

-- The spare bits of a word of l bits: the high ones of its first byte.
abbrev pub spare_bits : ℕ → ℕ
spare_bits l = byte_bits * word_bytes l - l

module _ (d : Description) where
  -- The rank of a part's first bit: its word's first byte, past the spare bits and the word's bits before the part.
  unfoldable pub first_bit : Place → ℕ
  first_bit p = byte_bits * place_of_word d.facilities p.facility p.word + spare_bits (word_length (facility_at d p.facility)) + p.from

  -- A part names bit b of byte i.
  unfoldable pub names : Place → ℕ → ℕ → Bool
  names p i b = both (leb (first_bit p) (rank i b)) (ltb (rank i b) (first_bit p + p.count))

  -- Some write names it.
  unfoldable pub any_names : List Write → ℕ → ℕ → Bool
  any_names [] i b = false
  any_names (w ∷ ws) i b = names w.at i b || any_names ws i b

  -- The bit that a write gives to bit b of byte i: that of its number which stands as far from the right as the part's last bit is from this one.
  unfoldable pub given : Write → ℕ → ℕ → ℕ
  given w i b = w.number / 2 ^ (first_bit w.at + w.at.count - 1 - rank i b) % 2
