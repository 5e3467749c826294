-- Names by the words of the text.
use Rattle.std.specs.Prelude.{List, map, ℕ, drop, take}
use Rattle.language.specs.Characters.{folded}
use Rattle.language.specs.Tree.{Name}

-- The word of a size at a place, in capitals.
unfoldable pub letters : List ℕ → ℕ → ℕ → Name
letters text place size = map folded (take size (drop place text))
