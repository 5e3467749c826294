-- What the machine accepts.
use Rattle.std.specs.Prelude.{List, ◌≡◌, ℕ}
use Rattle.language.specs.Building.{Built}
use Rattle.language.specs.Machine.{parsed}
use Rattle.language.specs.SectionWays.{parse}
use Rattle.language.specs.Tree.{Text}
use Rattle.language.specs.Words.{Word}

-- The words are accepted, with this tree.
abbrev pub Accepted : List Word → ℕ → Text → Type 0
Accepted ws end t = (b : Built) × (parse ws end ≡ parsed b) × (b.text ≡ t)
