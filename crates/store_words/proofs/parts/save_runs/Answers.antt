use native.Mathlib.Omega.{arith}
use Rattle.value_limbs.proofs.Laws.{Below}
use Rattle.store_layout.proofs.ByteOrder.{few-spare}
use Rattle.store_words.proofs.PartLaws.{save-four}
use borrow.Author.Rules.{rules}
use Rattle.store_words.proofs.parts.save_runs.Goals as goal

pub in_runs-r-requires : goal.in_runs-r-requires
in_runs-r-requires c =
    omega (arith, few-spare c.args.length)

pub returns : goal.returns
returns c =
    let below : Below c.args.v = (search rules) in
    save-four c.args.s.now c.args.at c.args.length c.args.low c.args.count c.in_runs-r.result c.in_runs-r.ensures c.args.v c.requires.0 (λ i. (c.slice_known-1.given i).fits) c.requires.1 below
    c.put.ensures c.put-2.ensures c.put-3.ensures c.put-4.ensures
