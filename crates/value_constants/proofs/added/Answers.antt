use mathlib.Core.Bool.{Bool, true, cond}
use mathlib.Core.Path.{sym, ap, ◌∙◌}
use Prim.Native.Nat.{◌+◌, ◌^◌}
use lib.Dec.{leb}
use Rattle.value_limbs.specs.Limbs.{number}
use Rattle.value_constants.specs.Doubling.{adding}
use Rattle.value_constants.proofs.Digits.{held_of}
use Rattle.value_constants.proofs.added.Goals as goal

pub returns-then-passed : goal.returns-then-passed
unfolding adding
returns-then-passed c =
    let t = number c.args.x + number c.args.y in
    held_of c.sum-carry.ensures.0 (c.if-passed.true ∙ sym (ap (λ (b : Bool). cond b true (leb (2 ^ 256) t)) c.if-passed.true))

pub returns-else-passed : goal.returns-else-passed
unfolding adding
returns-else-passed c =
    let t = number c.args.x + number c.args.y in
    held_of c.sum-carry.ensures.0 (c.sum-carry.ensures.1 ∙ sym (ap (λ (b : Bool). cond b true (leb (2 ^ 256) t)) c.if-passed.false))
