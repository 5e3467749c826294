use Prim.Native.Nat.{◌+◌}
use Rattle.language.specs.Value.{sum}
use Rattle.value_limbs.specs.Limbs.{number}
use Rattle.value_operators.proofs.Fits.{means-wrap}
use Rattle.value_operators.proofs.arithmetic.sum.Goals as goal

pub returns : goal.returns
unfolding sum
returns c =
    let a = c.args in
    let sum' = c.sum in
    let sum-length = c.sum_length in
    let fit = c.fit in
    means-wrap (number a.x.limbs + number a.y.limbs) fit.ensures sum-length.ensures sum'.ensures.0
