-- Lines and columns (01, "Words" and refusal 2): a line ends at LF, alone or after CR; a tab moves to the next column of the form 8k + 1; a line has at most 132 columns.
use Rattle.std.specs.Prelude.{Bool, cond, ◌&&◌, List, [], ◌∷◌, ℕ, suc, ◌+◌, ◌*◌, ◌/◌, eqb, leb, ltb, get_or}
use Rattle.language.specs.Ceilings.{longest_line}
use Rattle.language.specs.Characters.{carriage_return, line_feed, tab}
use Rattle.language.specs.declared.refusals.Refusal.TheVariants.{BadCharacter}
use Rattle.language.specs.Words.{Fault, fault, position}

-- How wide a line of width w is after the byte b, which t follows. The CR of a line's end takes no column.
unfoldable pub width_after : ℕ → ℕ → List ℕ → ℕ
width_after w b t =
    cond (eqb b line_feed) 0
    (cond (eqb b tab) ((w / 8 + 1) * 8)
    (cond (eqb b carriage_return && eqb (get_or t 0 0) line_feed) w (w + 1)))

-- The first byte after which a line is too wide.
unfoldable pub too_wide_after : ℕ → ℕ → Bool
unfolding longest_line
too_wide_after w v = leb w longest_line && ltb longest_line v

-- The faults of the lines of a text that stands at a place, w columns into its line.
unfoldable pub long_lines : ℕ → ℕ → List ℕ → List Fault
long_lines w at [] = []
long_lines w at (b ∷ t) =
    let v = width_after w b t in
    let rest = long_lines v (suc at) t in
    cond (too_wide_after w v) (fault (position at) BadCharacter ∷ rest) rest
