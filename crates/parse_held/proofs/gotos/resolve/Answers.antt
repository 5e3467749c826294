use mathlib.Core.Path.{refl}
use Rattle.parse_held.proofs.GotoLaws.{at_first, at_last, one_more}
use Rattle.parse_held.proofs.gotos.resolve.Goals as goal

pub loop-k-init : goal.loop-k-init
loop-k-init c =
    λ xs a. at_first a

pub loop-k-preserved : goal.loop-k-preserved
loop-k-preserved c =
    λ xs a. one_more c.args.n c.requires c.loop-k-test.true refl c.resolve_one.ensures (c.loop-k.invariant xs a)

pub returns : goal.returns
returns c =
    λ xs a. at_last c.loop-k-test.false (c.loop-k.invariant xs a)
