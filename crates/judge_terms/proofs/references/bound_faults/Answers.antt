use Rattle.language.specs.WordStage.{least}
use Rattle.language.specs.ReferenceRules.{bound_faults}
use mathlib.Core.Path.{◌∙◌}
use borrow.Author.Tests.{eq-eqb, ne_eqb}
use Rattle.judge_terms.proofs.references.bound_faults.Goals as goal
use Rattle.judge_terms.proofs.references.bound_faults.Goals.{then-f-eq1, else-f-eq1}

pub returns-in-Whole : goal.returns-in-Whole
unfolding bound_faults least
returns-in-Whole c =
    λ d p t name s. rw c.in-Whole.is

pub returns-after-f-eq1 : goal.returns-after-f-eq1
unfolding bound_faults
returns-after-f-eq1 c =
    λ d p t name s. rw c.in-One.is
    (c.subscript_faults.ensures d p t s
    ∙ elim c.if-f-eq1.branch [
      | then-f-eq1 w ↦ rw (w.taken-is, eq-eqb _ _ w.if-f-eq1.true)
      | else-f-eq1 w ↦ rw (w.taken-is, ne_eqb _ _ w.if-f-eq1.false)
    ])

pub returns-in-Part : goal.returns-in-Part
unfolding bound_faults
returns-in-Part c =
    λ d p t name s. rw c.in-Part.is (c.end_faults.ensures d p t _ s)

pub returns-in-Two : goal.returns-in-Two
unfolding bound_faults
returns-in-Two c =
    λ d p t name s. rw c.in-Two.is (c.also.ensures _ _ (c.subscript_faults-one.ensures d p t s) (c.subscript_faults-in-Two.ensures d p t s))

pub returns-in-WordPart : goal.returns-in-WordPart
unfolding bound_faults
returns-in-WordPart c =
    λ d p t name s. rw c.in-WordPart.is (c.also-in-WordPart.ensures _ _ (c.subscript_faults-one-in-WordPart.ensures d p t s) (c.end_faults-in-WordPart.ensures d p t _ s))
