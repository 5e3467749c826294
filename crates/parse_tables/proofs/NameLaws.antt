-- Names in their tables.
use mathlib.Core.List.{List, ◌++◌, map}
use mathlib.Core.Path.{◌≡◌, refl}
use Prim.Native.Nat.{ℕ, ◌%◌}
use lib.ListN.{drop, take}
use Rattle.language.specs.Characters.{folded}
use Rattle.language.specs.Encode.{two}
use Rattle.parse_array.specs.Names.{letters}
use Rattle.parse_tables.proofs.TwoBytes.{two-low}
use Rattle.parse_tables.specs.Names.{name_row}

pub name-bytes : (place size : ℕ) {p : ℕ} → p ≡ place → two (p % 65536) ++ two (size % 65536) ≡ name_row place size
unfolding name_row
name-bytes place size {p} e = rw (two-low p refl, two-low size refl, e)

pub letters-of : (text : List ℕ) (place size : ℕ) {name : List ℕ} → name ≡ take size (drop place text) → letters text place size ≡ map folded name
unfolding letters
letters-of text place size e = rw e
