-- Words as the papers spell them, the longest of a few texts, and what is no word.
use Rattle.std.specs.Prelude.{[], ◌∷◌, refl, ◌≤◌, drop, length}
use Rattle.std.proofs.Common.{arith}
use Prim.Native.Char.{code}
use Rattle.language.specs.Computing.{computing}
use Rattle.language.specs.Scan.{bytes}
use Rattle.about_reading.proofs.LongestMatch.{longest-match, no-longer-word}
use Rattle.about_reading.specs.Spelling as S
use Rattle.about_reading.specs.Spelling.{DigitOf, IsConstant, IsWord, Letter, LetterOrDigit, Longest}

-- ---- Words, letter by letter.

-- mln2, the manual's name with a digit at its end.
name-mln2 : IsWord (bytes "mln2")
unfolding bytes
name-mln2 =
    IsWord.name {b = code "m"} (Letter.small (omega arith) (omega arith))
    (S.more {b = code "l"} (LetterOrDigit.letter (Letter.small (omega arith) (omega arith)))
    (S.more {b = code "n"} (LetterOrDigit.letter (Letter.small (omega arith) (omega arith)))
    (S.more {b = code "2"} (LetterOrDigit.digit (DigitOf.numeral (omega arith) (omega arith) (omega arith))) S.none)))

-- 6H3c, a constant whose last digit is a letter; 2B.10, left-justified.
hex-6H3c : IsWord (bytes "6H3c")
unfolding bytes
hex-6H3c = IsWord.constant (IsConstant.based {l = code "6" ∷ []} six S.hexadecimal
    (S.digits {b = code "3"} (DigitOf.numeral (omega arith) (omega arith) (omega arith)) (S.more {b = code "c"} (DigitOf.small (omega arith) (omega arith) (omega arith)) S.none)))
  where
    six : S.Digits 10 (code "6" ∷ [])
    six = S.digits {b = code "6"} (DigitOf.numeral (omega arith) (omega arith) (omega arith)) S.none

bits-2B10 : IsWord (bytes "2B.10")
unfolding bytes
bits-2B10 = IsWord.constant (IsConstant.justified {l = code "2" ∷ []} two S.binary
    (S.digits {b = code "1"} (DigitOf.numeral (omega arith) (omega arith) (omega arith)) (S.more {b = code "0"} (DigitOf.numeral (omega arith) (omega arith) (omega arith)) S.none)))
  where
    two : S.Digits 10 (code "2" ∷ [])
    two = S.digits {b = code "2"} (DigitOf.numeral (omega arith) (omega arith) (omega arith)) S.none

-- ---- The longest match.

-- `<-B` begins with `<-`, `8B102` with `8B10`, `12AB` with `12`, `ENDIFX` is one name.
arrow : Longest (bytes "<-B") 2
unfolding computing
arrow = longest-match (code "<") (drop 1 (bytes "<-B")) tt

split : Longest (bytes "8B102") 4
unfolding computing
split = longest-match (code "8") (drop 1 (bytes "8B102")) tt

bare : Longest (bytes "12AB") 2
unfolding computing
bare = longest-match (code "1") (drop 1 (bytes "12AB")) tt

endifx : Longest (bytes "ENDIFX+") 6
unfolding computing
endifx = longest-match (code "E") (drop 1 (bytes "ENDIFX+")) tt

-- ---- No words.

-- A decimal constant has no period, digit 2 is none of base 2, and `<<` is two symbols.
no-period : IsWord (bytes "8D.5") → ⊥
unfolding computing
no-period h = let z : length (bytes "8D.5") ≤ 2 = no-longer-word (code "8") (drop 1 (bytes "8D.5")) (bytes "8D.5") [] refl h in omega arith

no-two : IsWord (bytes "8B12") → ⊥
unfolding computing
no-two h = let z : length (bytes "8B12") ≤ 3 = no-longer-word (code "8") (drop 1 (bytes "8B12")) (bytes "8B12") [] refl h in omega arith

no-pair : IsWord (bytes "<<") → ⊥
unfolding computing
no-pair h = let z : length (bytes "<<") ≤ 1 = no-longer-word (code "<") (drop 1 (bytes "<<")) (bytes "<<") [] refl h in omega arith
