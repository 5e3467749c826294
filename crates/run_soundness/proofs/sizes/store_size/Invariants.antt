use mathlib.Core.List.{List}
use mathlib.Core.Path.{◌≡◌}
use Prim.Native.Nat.{ℕ, ◌+◌, ◌≤◌}
use lib.ListN.{drop}
use Rattle.language.specs.Description.{Description}
use Rattle.language.specs.Layout.{store_size_of}
use Rattle.run_references.specs.Described.{Describes}
use Rattle.run_soundness.proofs.sizes.store_size.Given as goal

abbrev pub invariant-loop-n : goal.invariant-loop-n
invariant-loop-n l = (l.size ≤ 16385) × ((d : Description) (E : List ℕ) → Describes d l.section E → store_size_of d.facilities ≤ 16384 → l.size + store_size_of (drop l.n d.facilities) ≡ store_size_of d.facilities)
