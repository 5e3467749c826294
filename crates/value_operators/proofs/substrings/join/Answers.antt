use Prim.Native.Nat.{◌+◌, ◌*◌, ◌^◌}
use Rattle.language.specs.Value.{join}
use Rattle.value_limbs.specs.Limbs.{number}
use Rattle.value_operators.proofs.Fits.{means-wrap}
use Rattle.value_operators.proofs.substrings.join.Goals as goal

pub returns : goal.returns
unfolding join
returns c =
    let a = c.args in
    let join-length = c.join_length in
    let joined = c.joined in
    let fit = c.fit in
    means-wrap (number a.x.limbs * 2 ^ a.y.length + number a.y.limbs) fit.ensures join-length.ensures joined.ensures
