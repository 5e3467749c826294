use mathlib.Core.List.{List}
use mathlib.Core.Path.{◌≡◌}
use Prim.Native.Nat.{ℕ, ◌≤◌}
use lib.ListN.{drop, length}
use Rattle.language.specs.Calls.{well_formed}
use Rattle.language.specs.Description.{Description}
use Rattle.run_references.specs.Described.{Describes}
use Rattle.run_begin.proofs.StimulusLaws.{well_from}
use Rattle.run_begin.proofs.stimulus.well_formed.Given as goal

abbrev pub invariant-loop-n : goal.invariant-loop-n
invariant-loop-n l = (l.at ≤ length l.stimulus) × ((d : Description) (E : List ℕ) → Describes d l.section E → well_from (drop l.n d.facilities) l.stimulus l.at ≡ well_formed d l.stimulus)
