use native.Mathlib.Omega.{arith}
use Rattle.judge_verdicts.specs.Noted.{joined}
use Rattle.judge_verdicts.proofs.noted.joined.Goals as goal
use Rattle.judge_verdicts.proofs.noted.joined.Goals.{then-reference, else-reference}

pub returns : goal.returns
unfolding joined
returns c =
    (omega arith, elim c.if-reference.branch [ then-reference w ↦ rw w.if-reference.true (omega arith) | else-reference w ↦ rw w.if-reference.false (omega arith) ])
