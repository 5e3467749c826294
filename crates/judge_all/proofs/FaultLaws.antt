-- The four parts of the rules are all of them.
use mathlib.Core.List.{List, [], ◌++◌}
use mathlib.Core.Bool.{false}
use mathlib.Core.Path.{◌≡◌, refl, ◌∙◌}
use native.Mathlib.Omega.{arith}
use Prim.Native.Nat.{ℕ, ◌+◌}
use lib.ListN.{drop, length, take, length-drop}
use lib.Seq.{take_all}
use Rattle.language.specs.Description.{Description, Places}
use Rattle.language.specs.Rules.{facilities_faults, faults, name_faults, name_places, names_of, operations_faults, sequencing_length, states_faults}

pub all-faults : (d : Description) (p : Places) (n : ℕ) → length d.operations ≡ n
    → name_faults [] (names_of d) (name_places p) ++ (facilities_faults d p 0 false 0 d.facilities ++ (operations_faults d p n 0 ++ states_faults d p (sequencing_length d p) [] 0 d.states)) ≡ faults d p
unfolding faults
all-faults d p n e = rw (← e) refl

-- All bytes from a place on.
pub all_from : (r s : List ℕ) (a b : ℕ) {i j : ℕ} → r ≡ take (length s) (drop (a + b) s) → a ≡ i → b ≡ j → r ≡ drop (i + j) s
all_from r s a b e f g = rw (← f, ← g) (e ∙ take_all (length s) (drop (a + b) s) (let z = length-drop (a + b) s in omega (arith, z)))
