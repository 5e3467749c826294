-- What a write of bytes at a place leaves.
use Rattle.std.specs.Prelude.{List, ◌++◌, ℕ, ◌+◌, leb, drop, length, take}
use Rattle.language.specs.Decode.{pick}

-- The bytes stand at the place and all others are as they were; where they would not fit, nothing is written.
unfoldable pub placed : List ℕ → ℕ → List ℕ → List ℕ
placed s at bs = pick (leb (at + length bs) (length s)) (take at s ++ bs ++ drop (at + length bs) s) s
