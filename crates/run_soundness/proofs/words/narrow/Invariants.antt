use mathlib.Core.List.{List}
use mathlib.Core.Path.{◌≡◌}
use Prim.Native.Nat.{ℕ, ◌≤◌}
use lib.ListN.{length}
use Rattle.language.specs.Description.{Description}
use Rattle.language.specs.Layout.{store_size_of}
use Rattle.language.specs.Store as L
use Rattle.run_references.specs.Described.{Describes}
use Rattle.run_soundness.proofs.WordLaws.{narrow_from}
use Rattle.run_soundness.proofs.words.narrow.Given as goal

abbrev pub invariant-loop-n : goal.invariant-loop-n
invariant-loop-n l = (d : Description) (E : List ℕ) → Describes d l.section E → store_size_of d.facilities ≤ length l.store → narrow_from d.facilities l.n l.store ≡ L.narrow d.facilities (L.from_bytes d.facilities l.store)
