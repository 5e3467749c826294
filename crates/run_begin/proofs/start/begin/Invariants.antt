use mathlib.Core.List.{List}
use mathlib.Core.Path.{◌≡◌}
use Prim.Native.Nat.{ℕ, ◌*◌, ◌≤◌}
use lib.ListN.{length}
use Rattle.language.specs.Calls.{stimulus_size}
use Rattle.language.specs.Description.{Description}
use Rattle.language.specs.Layout.{store_size_of}
use Rattle.run_references.specs.Described.{Describes}
use Rattle.run_begin.proofs.BeginLoop.{Left}
use Rattle.run_begin.proofs.start.begin.Given as goal

abbrev pub invariant-loop-n : goal.invariant-loop-n
invariant-loop-n l =
    (l.at ≤ l.n * 536870912) × (length l.store ≡ length l.initial.store)
    × ((d : Description) (E : List ℕ) → Describes d l.section E → store_size_of d.facilities ≤ length l.initial.store → stimulus_size d ≤ length l.stimulus → Left d l.initial.store l.stimulus l.store l.n l.at)
