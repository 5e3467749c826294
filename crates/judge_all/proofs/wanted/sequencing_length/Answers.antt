use Rattle.judge_all.proofs.WantedLaws.{found_here, found_nowhere, from_start, not-here}
use Rattle.judge_all.proofs.wanted.sequencing_length.Goals as goal

pub loop-n-init : goal.loop-n-init
loop-n-init c =
    λ es ep d p s. from_start d

pub returns-then-is_sequencing : goal.returns-then-is_sequencing
returns-then-is_sequencing c =
    λ es ep d p s. found_here s c.loop-n.n c.facility_at-f.result c.facility_at-f.ensures c.is_sequencing.ensures c.loop-n-test.true _ c.if-is_sequencing.true c.word_length.ensures.0 (c.loop-n.invariant es ep d p s)

pub loop-n-preserved : goal.loop-n-preserved
loop-n-preserved c =
    λ es ep d p s. not-here s c.loop-n.n c.facility_at-f.result c.facility_at-f.ensures c.is_sequencing.ensures c.loop-n-test.true c.if-is_sequencing.false (c.loop-n.invariant es ep d p s)

pub returns : goal.returns
returns c =
    λ es ep d p s. found_nowhere s c.loop-n.n c.loop-n-test.false (c.loop-n.invariant es ep d p s)
