-- The lines of standard input (R30, R39): a line ends at LF, and one CR right before the LF is no part of it. A last line without LF counts, with every byte of it.
use Rattle.std.specs.Prelude.{cond, ◌&&◌, List, [], ◌∷◌, ℕ, eqb, get_or}
use Rattle.language.specs.Characters.{carriage_return, line_feed}

-- A byte in front of the first line, or alone where no line follows.
abbrev pub in_front : ℕ → List (List ℕ) → List (List ℕ)
in_front b [] = (b ∷ []) ∷ []
in_front b (l ∷ ls) = (b ∷ l) ∷ ls

unfoldable pub lines_of : List ℕ → List (List ℕ)
lines_of [] = []
lines_of (b ∷ t) =
    let rest = lines_of t in
    cond (eqb b line_feed) ([] ∷ rest)
    (cond (eqb b carriage_return && eqb (get_or t 0 0) line_feed) rest (in_front b rest))
