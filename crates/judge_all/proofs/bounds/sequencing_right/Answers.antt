use Rattle.language.specs.Ceilings.{longest}
use Rattle.language.specs.Rules.{sequencing_right}
use lib.Dec.{leb}
use borrow.Author.Tests.{le-leb, lt-leb, not-false, not-true}
use Prim.Native.Nat.{ℕ}
use mathlib.Core.Path.{ap, sym, ◌∙◌}
use Rattle.judge_all.proofs.bounds.sequencing_right.Goals as goal

pub returns-then-not-is_sequencing : goal.returns-then-not-is_sequencing
returns-then-not-is_sequencing c =
    λ d p name. rw (sym c.is_sequencing.ensures ∙ not-true _ c.if-not-is_sequencing.true-raw)

pub returns-then-another : goal.returns-then-another
unfolding sequencing_right
returns-then-another c =
    λ d p name. rw (sym c.is_sequencing.ensures ∙ not-false _ c.if-not-is_sequencing.false-raw, c.if-another.true)

pub returns-then-f-gt1 : goal.returns-then-f-gt1
unfolding sequencing_right
returns-then-f-gt1 c =
    λ d p name. rw (sym c.is_sequencing.ensures ∙ not-false _ c.if-not-is_sequencing.false-raw, c.if-another.false, lt-leb _ 1 c.if-f-gt1.true)

pub returns : goal.returns
unfolding sequencing_right longest
returns c =
    λ d p name. rw (sym c.is_sequencing.ensures ∙ not-false _ c.if-not-is_sequencing.false-raw, c.if-another.false, le-leb _ 1 c.if-f-gt1.false) (ap (λ (l : ℕ). leb l 256) (c.word_length.ensures.0 name))
