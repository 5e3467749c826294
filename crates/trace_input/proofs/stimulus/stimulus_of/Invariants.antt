use mathlib.Core.List.{List}
use mathlib.Core.Path.{◌≡◌}
use Prim.Native.Nat.{ℕ, ◌≤◌}
use lib.ListN.{length}
use Rattle.language.specs.Calls.{stimulus_size}
use Rattle.language.specs.Description.{Description}
use Rattle.run_references.specs.Described.{Describes}
use Rattle.trace_input.proofs.LineTaken.{Laid}
use Rattle.trace_input.proofs.stimulus.stimulus_of.Given as goal

abbrev pub invariant-loop-n : goal.invariant-loop-n
invariant-loop-n l =
    (l.at ≤ length l.line) × (l.place ≤ length l.stimulus) × (length l.stimulus ≡ length l.initial.stimulus)
    × ((d : Description) (E : List ℕ) → Describes d l.section E → stimulus_size d ≤ length l.initial.stimulus → Laid d l.line l.initial.stimulus l.stimulus l.at l.place l.n)
