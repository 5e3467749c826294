use mathlib.Core.Path.{sym}
use lib.ListN.{get_or}
use lib.Pow.{low}
use Rattle.value_limbs.specs.Limbs.{cat, number}
use borrow.Author.Rules.{rules}
use Rattle.value_operators.proofs.numbers.low64.Goals as goal

pub returns : goal.returns
unfolding number
returns c =
    let x = c.args.x.limbs in
    sym (low (cat (cat (get_or x 3 0) (get_or x 2 0)) (get_or x 1 0)) 64 (search rules))
