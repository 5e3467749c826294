use mathlib.Core.Path.{ap}
use Prim.Native.Nat.{ℕ, ◌%◌}
use Rattle.parse_tables.proofs.stores.place_after.Goals as goal

pub returns : goal.returns
returns c =
    λ name. ap (λ (n : ℕ). n % 65536) (c.place_after.ensures _ (c.shape_of.ensures name))
