use native.Mathlib.Omega.{arith}
use Rattle.run_expressions.proofs.ChainLaws.{chain-lower}
use Rattle.run_expressions.proofs.chains.foot.Goals as goal

pub loop-b-init : goal.loop-b-init
loop-b-init c = (omega arith, λ i h l. absurd (omega arith))

pub overflow_sub-b : goal.overflow_sub-b
overflow_sub-b c = let p = (c.linked.ensures c.loop-b-test.true).0 in omega arith

pub loop-b-smaller : goal.loop-b-smaller
loop-b-smaller c = let p = (c.linked.ensures c.loop-b-test.true).0 in omega arith

pub loop-b-preserved : goal.loop-b-preserved
loop-b-preserved c =
    (omega arith, chain-lower _ _ _ c.loop-b.invariant.1 (c.linked.ensures c.loop-b-test.true))

pub returns : goal.returns
returns c = c.loop-b.invariant
