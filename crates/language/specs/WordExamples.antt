-- Words, columns and their faults, computed.
use Rattle.std.specs.Prelude.{true, false, [], ◌∷◌, ◌++◌, ◌≡◌, refl, replicate}
use Rattle.std.proofs.Math.Option.{none, some}
use Rattle.language.specs.Characters.{class_of, digit_worth, folded, member, symbols}
use Rattle.language.specs.Constants.{bare_constant, bare_length, binary_constant, decimal_constant, digits_after, left_justified, right_justified}
use Rattle.language.specs.Kinds.{delayed_sign, register_word, sum_sign}
use Rattle.language.specs.Columns.{long_lines, too_wide_after, width_after}
use Rattle.language.specs.Ceilings.{bare_largest, longest, longest_line, longest_name}
use Rattle.language.specs.declared.refusals.Refusal.TheVariants.{BadCharacter, BadConstant, BadName}
use Rattle.language.specs.Scan.{bare_at, binary_at, bytes, comment_at, constant_at, decimal_at, digit_bits, digits_of, item_at, name_at, reserved_among, reserved_words, same, span, spelled_symbols, symbol_among, written}
use Rattle.language.specs.Value.{value}
use Rattle.language.specs.WordStage.{before, least, scan, scan_from, word_fault, word_faults}
use Rattle.language.specs.Words.{constant, fault, name, position, sign}

-- What the examples see through.
unfoldable pub words_open : Unit {0}
unfolding bytes class_of digit_worth folded member symbols bare_constant bare_largest bare_length binary_constant decimal_constant digits_after left_justified right_justified long_lines longest_line too_wide_after width_after bare_at binary_at comment_at constant_at decimal_at digit_bits digits_of item_at longest_name name_at reserved_among reserved_words same span spelled_symbols symbol_among longest before least scan scan_from word_fault word_faults
words_open = tt

-- `A<-B` always has the word `<-`, and letters match without regard to case.
arrow : (scan (bytes "a<-B")).words ≡ name (bytes "A") (position 0) ∷ sign delayed_sign (position 1) ∷ name (bytes "B") (position 3) ∷ []
unfolding words_open
arrow = refl

-- A reserved word in either case; a comment ends a word, and the line ends a comment.
reserved : (scan (bytes "Reg\"x\"ister reGister\"REGISTER\n(+)")).words
    ≡ name (bytes "REG") (position 0) ∷ name (bytes "ISTER") (position 6) ∷ sign register_word (position 12) ∷ sign sum_sign (position 30) ∷ []
unfolding words_open
reserved = refl

-- `8B102` is `8B10` and then `2`; `12AB` is `12` and then `AB`.
split-digits : (scan (bytes "8B102 12AB")).words
    ≡ constant (written false (value 8 2)) (position 0) ∷ constant (written true (value 16 2)) (position 4) ∷ constant (written true (value 16 12)) (position 6) ∷ name (bytes "AB") (position 8) ∷ []
unfolding words_open
split-digits = refl

-- Refusal 5: no digit after the base, length 0 or above 256, a bare value above 65,535.
no_digit : word_fault (bytes "A 1DO") ≡ some (fault (position 2) BadConstant)
unfolding words_open
no_digit = refl

no-period : word_fault (bytes "8D.5") ≡ some (fault (position 0) BadConstant)
unfolding words_open
no-period = refl

length-zero : word_fault (bytes " 0D1") ≡ some (fault (position 1) BadConstant)
unfolding words_open
length-zero = refl

length-257 : word_fault (bytes "256D1 257D1") ≡ some (fault (position 6) BadConstant)
unfolding words_open
length-257 = refl

bare-65536 : word_fault (bytes "65535 65536") ≡ some (fault (position 6) BadConstant)
unfolding words_open
bare-65536 = refl

-- Refusal 2: a character that is not allowed; inside a comment every byte is.
not-allowed : word_fault (bytes "A \"!\"\n!") ≡ some (fault (position 6) BadCharacter)
unfolding words_open
not-allowed = refl

-- A tab at column 129 too_wide_after column 132, one at column 128 does not.
tab-129 : long_lines 128 7 (9 ∷ []) ≡ fault (position 7) BadCharacter ∷ []
unfolding words_open
tab-129 = refl

tab-128 : long_lines 127 7 (9 ∷ []) ≡ []
unfolding words_open
tab-128 = refl

-- 132 columns and CR LF are a line; a lone CR takes a column.
line-end : long_lines 132 7 (13 ∷ 10 ∷ []) ≡ []
unfolding words_open
line-end = refl

lone-return : long_lines 132 7 (13 ∷ 32 ∷ []) ≡ fault (position 7) BadCharacter ∷ []
unfolding words_open
lone-return = refl

-- A name of 132 letters is allowed, one of 133 is refused as 4.
name-132 : word_fault (replicate 132 65) ≡ none
unfolding words_open
name-132 = refl

name-133 : word_fault (32 ∷ replicate 133 65) ≡ some (fault (position 1) BadName)
unfolding words_open
name-133 = refl

-- The least place answers: a character that is not allowed, before a name that is too long.
least-place : word_fault (33 ∷ replicate 133 65) ≡ some (fault (position 0) BadCharacter)
unfolding words_open
least-place = refl

-- At one place the least number: behind 132 blanks a long name begins where the line grows too long, and 2 goes before 4.
least-number : word_fault (replicate 132 32 ++ replicate 133 65) ≡ some (fault (position 132) BadCharacter)
unfolding words_open
least-number = refl
