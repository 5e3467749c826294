-- Symbols by their sizes, and reserved words by their first letters.
use Rattle.std.specs.Prelude.{Bool, true, false, cond, List, [], ◌∷◌, Option, None, Some, ℕ, eqb, drop, get_or, take}
use Rattle.language.specs.Scan.{Reserved, Spelled, reserved_among, reserved_words, same, spelled_symbols}

-- What a definition says in a number, where 0 stands for none.
abbrev pub unless_zero : ℕ → Option ℕ
unless_zero k = cond (eqb k 0) None (Some k)

-- ---- Symbols by their sizes: four of three bytes, five of two, and the single ones.

unfoldable pub of_three : List Spelled
of_three = take 4 spelled_symbols

unfoldable pub of_two : List Spelled
of_two = take 5 (drop 4 spelled_symbols)

unfoldable pub of_one : List Spelled
of_one = drop 9 spelled_symbols

-- The kind of the symbol that the bytes are, and 0 where they are none.
unfoldable pub symbol_kind : List Spelled → List ℕ → ℕ
symbol_kind [] s = 0
symbol_kind (x ∷ xs) s = let other = symbol_kind xs s in cond (same s x.spelling) x.kind other

-- ---- Reserved words by the letter with which they begin.

abbrev pub only_if : Bool → Reserved → List Reserved → List Reserved
only_if true r rs = r ∷ rs
only_if false r rs = rs

unfoldable pub beginning : ℕ → List Reserved → List Reserved
beginning b [] = []
beginning b (r ∷ rs) = only_if (eqb b (get_or r.letters 0 0)) r (beginning b rs)

-- The kind of the reserved word with that letter that the letters are, and 0 where they are none.
unfoldable pub kind_with : ℕ → List ℕ → ℕ
kind_with b s = reserved_among (beginning b reserved_words) s
