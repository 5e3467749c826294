-- Characters (the manual, 2.1; 01, "The language taken": outside comments the manual's characters save code 136 octal, and space, tab, CR, LF).
use Rattle.std.specs.Prelude.{Bool, false, cond, ◌||◌, ◌&&◌, List, [], ◌∷◌, ℕ, ◌-◌, eqb, leb}

-- lo <= b <= hi
abbrev pub within : ℕ → ℕ → ℕ → Bool
within lo b hi = leb b hi && leb lo b

unfoldable pub member : ℕ → List ℕ → Bool
member b [] = false
member b (c ∷ cs) = eqb b c || member b cs

abbrev pub tab : ℕ
tab = 9

abbrev pub line_feed : ℕ
line_feed = 10

abbrev pub carriage_return : ℕ
carriage_return = 13

abbrev pub quote : ℕ
quote = 34

abbrev pub is_letter : ℕ → Bool
is_letter b = within 65 b 90 || within 97 b 122

abbrev pub is_digit : ℕ → Bool
is_digit b = within 48 b 57

-- Letters match without regard to case: the capital of a letter.
unfoldable pub folded : ℕ → ℕ
folded b = cond (within 97 b 122) (b - 32) b

-- # $ ( ) * + , - . / : ; < = > @ [ ] _
unfoldable pub symbols : List ℕ
symbols = 35 ∷ 36 ∷ 40 ∷ 41 ∷ 42 ∷ 43 ∷ 44 ∷ 45 ∷ 46 ∷ 47 ∷ 58 ∷ 59 ∷ 60 ∷ 61 ∷ 62 ∷ 64 ∷ 91 ∷ 93 ∷ 95 ∷ []

-- ---- The class of a character: what a word that begins with it is.

abbrev pub refused_class : ℕ
refused_class = 0

-- Space, tab, CR and LF.
abbrev pub blank_class : ℕ
blank_class = 1

abbrev pub quote_class : ℕ
quote_class = 2

abbrev pub letter_class : ℕ
letter_class = 3

abbrev pub digit_class : ℕ
digit_class = 4

abbrev pub symbol_class : ℕ
symbol_class = 5

abbrev pub is_blank : ℕ → Bool
is_blank b = eqb b 32 || eqb b tab || eqb b carriage_return || eqb b line_feed

unfoldable pub class_of : ℕ → ℕ
unfolding member symbols
class_of b =
    cond (is_letter b) letter_class
    (cond (is_digit b) digit_class
    (cond (is_blank b) blank_class
    (cond (eqb b quote) quote_class
    (cond (member b symbols) symbol_class refused_class))))

-- What a digit is worth in a base of up to 16: 16 stands for none.
unfoldable pub digit_worth : ℕ → ℕ
digit_worth b =
    cond (is_digit b) (b - 48)
    (cond (within 65 b 70) (b - 55)
    (cond (within 97 b 102) (b - 87) 16))
