use Rattle.judge_verdicts.specs.Meaning.{capped, seen}
use Rattle.language.specs.Ceilings.{longest, most_work}
use Rattle.language.specs.Judging.{sized}
use native.Mathlib.Omega.{arith}
use mathlib.Core.Logic.{inl, inr}
use borrow.Author.Tests.{le-leb, le-ltb, lt-leb, lt-ltb}
use Rattle.judge_verdicts.proofs.tests.sized.Goals as goal

pub returns-then-length-eq0 : goal.returns-then-length-eq0
unfolding sized longest
returns-then-length-eq0 c =
    λ w e.
    elim c.then-length-eq0.either [
      | inl z ↦ rw (le-ltb 0 c.args.length (omega arith)) c.refused.ensures
      | inr z ↦ rw (lt-ltb 0 c.args.length (omega arith), lt-leb _ 256 z.1) c.refused.ensures
    ]

pub returns : goal.returns
unfolding sized longest seen capped most_work
returns c =
    λ w e. rw (lt-ltb 0 c.args.length (omega arith), le-leb _ 256 c.if-length-gt-LONGEST.false, e)
