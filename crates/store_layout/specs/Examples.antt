-- Worked examples: a word of 12 bits takes two bytes, the first of which has four spare bits.
use Rattle.std.specs.Prelude.{true, false, List, [], ◌∷◌, ◌≡◌, refl, ℕ}
use Rattle.language.specs.Layout.{bytes_of, no_spare_bits, number_after, word_bytes, word_from_bytes, word_to_bytes}
use Rattle.language.specs.Store.{all_narrow, words_from}
use Rattle.language.specs.Value.{replaced, value}
use Rattle.language.specs.Ceilings.{longest}
use Rattle.store_layout.specs.Layout.{position, with_word, word_in}
use Rattle.store_layout.specs.Parts.{inside, loaded, part_in, saved, with_part}
use Rattle.store_layout.specs.Slices.{copied, land_bits, landed}
use Rattle.store_layout.specs.Spare.{narrow_at}

-- The word 0xabc between two other bytes.
abbrev row : List ℕ
row = 0x07 ∷ 0x0a ∷ 0xbc ∷ 0x09 ∷ []

least-byte-last : position 12 0 ≡ 1
unfolding position word_bytes
least-byte-last = refl

the_word : word_in row 1 12 ≡ 0xabc
unfolding word_in word_bytes word_from_bytes number_after
the_word = refl

-- Bits 4 to 7 of it are 0xb.
middle-loaded : loaded row 1 12 4 4 ≡ value 4 0xb
unfolding loaded inside longest part_in word_in word_bytes word_from_bytes number_after
middle-loaded = refl

middle-saved : saved row 1 12 4 4 5 ≡ 0x07 ∷ 0x0a ∷ 0x5c ∷ 0x09 ∷ []
unfolding saved inside longest with_part replaced with_word word_in word_bytes word_from_bytes number_after word_to_bytes bytes_of
middle-saved = refl

-- A spare bit stays, even where the whole word is saved.
spare-stays : saved (0x1a ∷ 0xbc ∷ []) 0 12 0 12 0 ≡ 0x10 ∷ 0x00 ∷ []
unfolding saved inside longest with_part replaced with_word word_in word_bytes word_from_bytes number_after word_to_bytes bytes_of
spare-stays = refl

past-the-word : loaded row 1 12 9 4 ≡ value 0 0
unfolding loaded inside longest word_bytes
past-the-word = refl

past_the_slice : saved row 3 12 0 12 0 ≡ row
unfolding saved inside longest word_bytes
past_the_slice = refl

no-spare-bit : narrow_at row 1 1 12 ≡ true
unfolding narrow_at word_bytes words_from all_narrow no_spare_bits word_from_bytes number_after
no-spare-bit = refl

a-spare-bit : narrow_at (0x1a ∷ 0xbc ∷ []) 0 1 12 ≡ false
unfolding narrow_at word_bytes words_from all_narrow no_spare_bits word_from_bytes number_after
a-spare-bit = refl

-- The two bits in the middle land.
under-a-mask : landed (0b1100 ∷ 0b1 ∷ []) (0b1010 ∷ []) (0b0110 ∷ 0b1 ∷ []) ≡ 0b1010 ∷ 0b1 ∷ []
unfolding landed land_bits
under-a-mask = refl

a-shorter-source : copied (1 ∷ 2 ∷ 3 ∷ []) (9 ∷ []) ≡ 9 ∷ 2 ∷ 3 ∷ []
unfolding copied
a-shorter-source = refl
