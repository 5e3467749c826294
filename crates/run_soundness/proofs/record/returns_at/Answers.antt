use mathlib.Core.Path.{◌∙◌}
use native.Mathlib.Omega.{arith}
use lib.ListN.{length-set}
use Rattle.run_soundness.proofs.RecordLaws.{as-far-all, as-far-more}
use borrow.Author.Rules.{rules}
use Rattle.run_soundness.proofs.record.returns_at.Goals as goal

pub loop-i-init : goal.loop-i-init
loop-i-init c =
    (search rules, λ k h. absurd (omega arith))

pub loop-i-preserved : goal.loop-i-preserved
loop-i-preserved c = (
  length-set c.loop-i.x-items c.loop-i.i c.four.result ∙ c.loop-i.invariant.0,
  as-far-more c.loop-i.x-items 16 _ c.loop-i.i c.four.result (omega arith) c.loop-i.invariant.1 c.four.ensures,
)

pub returns : goal.returns
returns c =
    as-far-all c.loop-i.x-items 16 _ 16 c.loop-i.invariant.0 (λ k h. c.loop-i.invariant.1 k (omega arith))
