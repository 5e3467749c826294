use mathlib.Core.List.{List}
use mathlib.Core.Path.{◌≡◌}
use Prim.Native.Nat.{ℕ, ◌*◌, ◌≤◌}
use lib.ListN.{length}
use Rattle.language.specs.Decode.{names_length}
use Rattle.language.specs.Description.{Description}
use Rattle.language.specs.Layout.{store_size_of}
use Rattle.language.specs.Encode.{facility_size}
use Rattle.run_references.specs.Described.{Describes}
use Rattle.trace_output.specs.Texts.{Named}
use Rattle.trace_output.proofs.LineLoop.{Printed}
use Rattle.trace_output.proofs.shown.facilities_line.Given as goal

abbrev pub invariant-loop-n : goal.invariant-loop-n
invariant-loop-n l =
    (l.offset ≤ 255 * l.n) × (l.offset ≡ names_length l.n 2 facility_size l.section) × (length l.out ≡ length l.initial.out)
    × ((d : Description) (E : List ℕ) → Describes d l.section E → Named d l.section l.names → store_size_of d.facilities ≤ length l.store → Printed d l.store l.initial.out l.at l.out l.end l.n)
