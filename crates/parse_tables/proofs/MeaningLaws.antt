-- A meaning by what is found among facilities and operations.
use mathlib.Core.Bool.{Bool, true}
use mathlib.Core.List.{List, map}
use mathlib.Core.Option.{Option, none, some}
use mathlib.Core.Path.{◌≡◌, ap}
use Prim.Native.Nat.{ℕ, ◌%◌, ◌<◌}
use native.Mathlib.Omega.{arith}
use lib.ListN as N
use lib.ListN.{drop, length-drop, length-map, length-take, take}
use Rattle.language.specs.Characters.{folded}
use Rattle.language.specs.Naming as L
use Rattle.language.specs.Naming.{meaning, number_of, or_else}
use Rattle.parse_array.specs.Names.{letters}
use Rattle.parse_tables.specs.declared.meaning.KnownNames.{KnownNames}
use Rattle.parse_tables.specs.declared.meaning.Meaning.{Meaning}
use Rattle.parse_tables.specs.declared.meaning.Meaning.TheVariants as M
use Rattle.parse_tables.specs.declared.Table.TheVariants as T
use Rattle.parse_tables.specs.Known.{Means, meant, waiting}
use Rattle.parse_tables.specs.Names.{facility_names, names_in}

module _ (text work : List ℕ) (n : KnownNames) (place length : ℕ) where
  -- What is found among facilities, and among operations.
  abbrev Facility : Option ℕ → Type 0
  Facility f = f ≡ number_of (letters text place length) 0 (facility_names text work n.facilities)

  abbrev Operation : Option ℕ → Type 0
  Operation o = o ≡ number_of (letters text place length) 0 (names_in text T.OperationNames work n.operations)

  pub as-facility : {k : ℕ} → Facility (some k) → Means text work n place length (M.Facility k)
  unfolding meaning
  as-facility e s sc z = rw (z.facilities, ← e)

  pub as-operation : {k : ℕ} → Facility none → Operation (some k) → Means text work n place length (M.Operation k)
  unfolding meaning
  as-operation e g s sc z = rw (z.facilities, z.operations, ← e, ← g)

  pub as-other : (r : Meaning) → Facility none → Operation none
      → (N.length text < 65536 → meant r ≡ or_else (waiting n.waiting (letters text place length)) L.state L.unknown) → Means text work n place length r
  unfolding meaning
  as-other r e g i s sc z = rw (z.facilities, z.operations, z.states (letters text place length), ← e, ← g) (i s)

-- ---- A name that waits, by its length.

pub waits-for : (text : List ℕ) (place size : ℕ) {name : List ℕ} {b : Bool} → name ≡ take size (drop place text) → b ≡ true → N.length text < 65536
    → L.state (N.length name % 65536) ≡ or_else (waiting b (letters text place size)) L.state L.unknown
unfolding letters
waits-for text place size {name} e d s =
    let l : N.length name % 65536 ≡ N.length (map folded (take size (drop place text))) =
    omega (arith, ap N.length e, length-take size (drop place text), length-drop place text, length-map (take size (drop place text)) folded) in
    rw (d, l)
