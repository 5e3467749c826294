use Prim.Native.Nat.{◌^◌, ◌<◌}
use mathlib.Core.List.{[], ◌∷◌}
use Rattle.value_limbs.specs.Limbs.{number}
use Rattle.value_limbs.proofs.Laws.{add-four, carry-parts, carry-passes, cat-lt}
use borrow.Author.Rules.{rules}
use Rattle.value_limbs.proofs.sums.sum.Goals as goal

pub returns : goal.returns
unfolding number
returns c =
    let r = c.carrying_add-s0.result.0 ∷ c.carrying_add-s1.result.0 ∷ c.carrying_add-s2.result.0 ∷ c.carrying_add-s3.result.0 ∷ [] in
    let whole = add-four c.args.x c.args.y r _ _ _ _ c.carrying_add-s0.ensures c.carrying_add-s1.ensures c.carrying_add-s2.ensures c.carrying_add-s3.ensures in
    let below : number r < 2 ^ 256 = cat-lt (search rules) (search rules) (search rules) (search rules) in
    ((carry-parts whole below).0, carry-passes _ whole below)
