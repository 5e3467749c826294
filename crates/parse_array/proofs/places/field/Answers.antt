use Rattle.parse_array.proofs.PlaceLaws.{marked}
use native.Mathlib.Omega.{arith}
use Rattle.parse_array.proofs.places.field.Goals as goal

pub returns-then-bound-eq1 : goal.returns-then-bound-eq1
returns-then-bound-eq1 c =
    marked c.args.bound c.place.result _ c.place.ensures (omega (arith, c.if-bound-eq1.true))

pub returns-else-bound-eq1 : goal.returns-else-bound-eq1
returns-else-bound-eq1 c =
    marked c.args.bound c.place.result _ c.place.ensures (omega (arith, c.if-bound-eq1.false))
