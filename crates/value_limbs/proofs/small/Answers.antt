use native.Mathlib.Nat.{zero-add}
use Rattle.value_limbs.specs.Limbs.{number}
use Rattle.value_limbs.proofs.small.Goals as goal

pub returns : goal.returns
unfolding number
returns c =
    zero-add c.args.a
