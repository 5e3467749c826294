-- Sums of names, and the marks of those that were seen.
use Rattle.std.specs.Prelude.{List, [], ◌∷◌, ◌≡◌, ℕ, ◌+◌, ◌*◌, ◌%◌, get_or}
use Rattle.language.specs.Tree.{Name}

-- Each byte weighs forty-five times the next: no two letters or digits lie so far apart, and names that begin alike have other sums.
unfoldable pub sum_after : ℕ → List ℕ → ℕ
sum_after total [] = total
sum_after total (b ∷ s) = sum_after ((total * 45 + b) % 1024) s

abbrev pub sum_of : List ℕ → ℕ
sum_of = sum_after 0

-- The sum of each of these names is marked.
abbrev pub AllMarked : List ℕ → List Name → Type 0
AllMarked marks [] = Unit {0}
AllMarked marks (n ∷ ns) = (get_or marks (sum_of n) 0 ≡ 1) × AllMarked marks ns
