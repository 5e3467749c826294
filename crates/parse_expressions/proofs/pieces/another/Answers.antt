use mathlib.Core.Path.{ap}
use Prim.Native.Nat.{ℕ}
use lib.Dec.{eqb}
use Rattle.parse_expressions.proofs.pieces.another.Goals as goal

pub returns-then-case : goal.returns-then-case
returns-then-case c = rw c.if-case.true (ap (λ (k : ℕ). eqb k 31) c.kind_of.ensures)
