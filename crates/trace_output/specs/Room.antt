-- Room that is enough for the facilities of a line: for each that is shown a blank, its name, `=` and its bits.
use Rattle.std.specs.Prelude.{cond, List, [], ◌∷◌, ℕ, ◌+◌, length}
use Rattle.language.specs.Description.{Facility, word_length}
use Rattle.language.specs.Trace.{shown}

unfoldable pub line_room : List Facility → ℕ
line_room [] = 0
line_room (f ∷ fs) = cond (shown f) (2 + length f.name + word_length f) 0 + line_room fs
