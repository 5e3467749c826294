use borrow.Enum.Refused.{opened}
use Rattle.image_records.proofs.ReferenceLaws.{no-reference}
use Rattle.image_records.proofs.references.reference_of.Goals as goal

pub returns-in-Whole : goal.returns-in-Whole
returns-in-Whole c =
    λ v. rw c.in-Whole.is

pub returns-in-One : goal.returns-in-One
returns-in-One c =
    λ v. rw c.in-One.is

pub returns-in-Part : goal.returns-in-Part
returns-in-Part c =
    λ v. rw (c.in-Part.is, c.ends.ensures)

pub returns-in-Two : goal.returns-in-Two
returns-in-Two c =
    λ v. rw c.in-Two.is

pub returns-in-WordPart : goal.returns-in-WordPart
returns-in-WordPart c =
    λ v. rw (c.in-WordPart.is, c.ends-in-WordPart.ensures)

pub returns-in_default : goal.returns-in_default
returns-in_default c =
    λ v. no-reference _ _ v c.args.node (opened c.in_default.in_default-own.keys6)
