-- Returns held and unused ones, each tested apart. Assumes nothing.
use mathlib.Core.Bool.{Bool, true, false, ◌&&◌}
use mathlib.Core.List.{List, [], ◌∷◌}
use mathlib.Core.Path.{◌≡◌, refl}
use Prim.Native.Nat.{ℕ, zero, suc}
use lib.Dec.{eqb, ltb}
use lib.ListN.{drop, take}
use Rattle.std.specs.List.{list_all}
use Rattle.language.specs.RecordBytes.{returns_sound}
use Rattle.language.specs.Tests.{both}

both-and : (a b : Bool) → both a b ≡ (a && b)
both-and true b = refl
both-and false b = refl

both-three : (a b c : Bool) → both a (both b c) ≡ both (a && b) c
both-three true b c = refl
both-three false b c = refl

-- The held ones are states, the others zero.
pub returns_apart : (states held : ℕ) (xs : List ℕ) → returns_sound states held xs ≡ both (list_all (λ x. ltb x states) (take held xs)) (list_all (λ x. eqb x 0) (drop held xs))
unfolding returns_sound
returns_apart states zero [] = refl
returns_apart states (suc k) [] = refl
returns_apart states zero (x ∷ xs) = rw (returns_apart states zero xs) (both-and (eqb x 0) (list_all (λ y. eqb y 0) xs))
returns_apart states (suc k) (x ∷ xs) = rw (returns_apart states k xs) (both-three (ltb x states) (list_all (λ y. ltb y states) (take k xs)) (list_all (λ y. eqb y 0) (drop k xs)))
