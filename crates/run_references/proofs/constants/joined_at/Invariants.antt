use mathlib.Core.Path.{◌≡◌}
use Prim.Native.Nat.{◌-◌, ◌%◌, ◌^◌}
use Rattle.value_limbs.specs.Limbs.{number}
use Rattle.image_records.specs.Nodes.{digits}
use Rattle.run_references.proofs.constants.joined_at.Given as goal

abbrev pub invariant-loop-i : goal.invariant-loop-i
invariant-loop-i l = number l.x ≡ digits (l.i - (l.n - l.k)) l.i l.exprs % 2 ^ 256
