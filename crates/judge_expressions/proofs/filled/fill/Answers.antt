use native.Mathlib.Nat.{sub-zero}
use Rattle.judge_expressions.proofs.FilledLaws.{filled-less, filled_more}
use Rattle.judge_expressions.proofs.filled.fill.Goals as goal
use Rattle.judge_expressions.proofs.filled.fill.Goals.{in-Some+then-end-memo, in_default}

pub loop-n-preserved : goal.loop-n-preserved
loop-n-preserved c =
    elim c.match-note.branch [
      | in-Some+then-end-memo w ↦ rw (w.memo-is, w.end-is) (filled_more (filled-less c.loop-n.invariant _ c.end_for-end.ensures.0 c.end_for-end.ensures.1) _ w.if-end-memo.true (λ d p t s. w.in-Some.ensures d p t (rw sub-zero (c.loop-n.invariant.shown d p t s))))
      | in_default w ↦ rw (w.memo-is, w.end-is) (filled-less c.loop-n.invariant _ c.end_for-end.ensures.0 c.end_for-end.ensures.1)
    ]
