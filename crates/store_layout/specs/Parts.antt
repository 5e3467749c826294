-- A part of a word among bytes, as a number: read, and replaced.
use Rattle.std.specs.Prelude.{Bool, cond, List, ℕ, ◌+◌, ◌-◌, ◌/◌, ◌%◌, ◌^◌, leb, length}
use Rattle.language.specs.Layout.{word_bytes}
use Rattle.language.specs.Value.{Value, replaced, value}
use Rattle.language.specs.Ceilings.{longest}
use Rattle.store_layout.specs.Layout.{with_word, word_in}
use Rattle.language.specs.Tests.{both}

-- The c bits above the lowest `low` ones of the word of l bits at `at`.
unfoldable pub part_in : List ℕ → ℕ → ℕ → ℕ → ℕ → ℕ
part_in B at l low c = word_in B at l / 2 ^ low % 2 ^ c

-- The bytes with the low bits of v there: no other bit is touched.
unfoldable pub with_part : List ℕ → ℕ → ℕ → ℕ → ℕ → ℕ → List ℕ
with_part B at l low c v = with_word B at l (replaced (word_in B at l) low c v)

-- How many bits of a word of l bits stand to the right of the c bits from the bit `from` on; bit 0 is the most significant.
abbrev pub low_of : ℕ → ℕ → ℕ → ℕ
low_of l from c = l - (from + c)

-- The word lies among n bytes, the part in the word, and a value can hold it.
unfoldable pub inside : ℕ → ℕ → ℕ → ℕ → ℕ → Bool
inside n at l from c = both (leb (at + word_bytes l) n) (both (leb (from + c) l) (leb c longest))

-- What loading gives: the part, or the value of no bits.
unfoldable pub loaded : List ℕ → ℕ → ℕ → ℕ → ℕ → Value
loaded B at l from c = cond (inside (length B) at l from c) (value c (part_in B at l (low_of l from c) c)) (value 0 0)

-- What saving leaves: the part replaced, or nothing changed.
unfoldable pub saved : List ℕ → ℕ → ℕ → ℕ → ℕ → ℕ → List ℕ
saved B at l from c v = cond (inside (length B) at l from c) (with_part B at l (low_of l from c) c v) B
