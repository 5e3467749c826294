use mathlib.Core.List.{List}
use mathlib.Core.Path.{◌≡◌}
use Prim.Native.Nat.{ℕ}
use lib.ListN.{drop}
use Rattle.language.specs.Description.{Description, sequencing_from, sequencing_of}
use Rattle.run_references.specs.Described.{Describes}
use Rattle.run_next.proofs.register.sequencing.Given as goal

abbrev pub invariant-loop-n : goal.invariant-loop-n
invariant-loop-n l = (d : Description) (E : List ℕ) → Describes d l.section E → sequencing_from l.n (drop l.n d.facilities) ≡ sequencing_of d
