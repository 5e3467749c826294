use mathlib.Core.List.{List}
use mathlib.Core.Path.{◌≡◌}
use Prim.Native.Nat.{ℕ, ◌-◌, ◌≤◌}
use lib.ListN.{drop, length}
use Rattle.language.specs.Calls.{all_well_formed}
use Rattle.language.specs.Description.{Description}
use Rattle.run_references.specs.Described.{Describes}
use Rattle.run_begin.proofs.formed.all_well_formed.Given as goal

abbrev pub invariant-loop : goal.invariant-loop
invariant-loop l = (l.at ≤ length l.stimuli) × ((d : Description) (E : List ℕ) → Describes d l.section E → all_well_formed d (l.cycles - l.counter) (drop l.at l.stimuli) ≡ all_well_formed d l.cycles l.stimuli)
