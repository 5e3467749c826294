use Prim.Native.Nat.{ℕ, ◌%◌}
use native.Mathlib.Omega.{arith}
use mathlib.Core.Path.{ap}
use Rattle.image_form.proofs.rows.place_after.Goals as goal

pub returns : goal.returns
returns c =
    (omega arith, λ name. ap (λ (n : ℕ). n % 65536) (c.place_after.ensures _ (c.shape_of.ensures name)))
