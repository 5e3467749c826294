use mathlib.Core.Path.{◌∙◌}
use Rattle.language.specs.Encode.{node_bytes}
use Rattle.image_records.proofs.WrittenNodes.{constant-fields}
use Rattle.image_records.proofs.node_bytes.node_bytes.Goals as goal

pub returns-in-Constant : goal.returns-in-Constant
returns-in-Constant c =
    rw c.in-Constant.is (c.digit_record.ensures ∙ constant-fields _ c.args.v c.length_field.ensures)

pub returns-in-More : goal.returns-in-More
unfolding node_bytes
returns-in-More c =
    rw c.in-More.is c.digit_record-in-More.ensures

pub returns-in-Whole : goal.returns-in-Whole
unfolding node_bytes
returns-in-Whole c =
    rw c.in-Whole.is c.fields.ensures

pub returns-in-One : goal.returns-in-One
unfolding node_bytes
returns-in-One c =
    rw c.in-One.is c.fields-in-One.ensures

pub returns-in-Part : goal.returns-in-Part
unfolding node_bytes
returns-in-Part c =
    rw c.in-Part.is c.fields-in-Part.ensures

pub returns-in-Two : goal.returns-in-Two
unfolding node_bytes
returns-in-Two c =
    rw c.in-Two.is c.fields-in-Two.ensures

pub returns-in-WordPart : goal.returns-in-WordPart
unfolding node_bytes
returns-in-WordPart c =
    rw c.in-WordPart.is c.fields-in-WordPart.ensures

pub returns-in-FirstArm : goal.returns-in-FirstArm
unfolding node_bytes
returns-in-FirstArm c =
    rw c.in-FirstArm.is c.fields-in-FirstArm.ensures

pub returns-in-NextArm : goal.returns-in-NextArm
unfolding node_bytes
returns-in-NextArm c =
    rw c.in-NextArm.is c.fields-in-NextArm.ensures

pub returns-in-Choice : goal.returns-in-Choice
unfolding node_bytes
returns-in-Choice c =
    rw c.in-Choice.is c.fields-in-Choice.ensures

pub returns-in-Binary : goal.returns-in-Binary
unfolding node_bytes
returns-in-Binary c =
    rw c.in-Binary.is c.fields-in-Binary.ensures

pub returns-in-Prefix : goal.returns-in-Prefix
unfolding node_bytes
returns-in-Prefix c =
    rw c.in-Prefix.is c.fields-in-Prefix.ensures

pub returns-in-Cut : goal.returns-in-Cut
unfolding node_bytes
returns-in-Cut c =
    rw c.in-Cut.is c.fields-in-Cut.ensures

pub returns-in-Broken : goal.returns-in-Broken
unfolding node_bytes
returns-in-Broken c =
    rw c.in-Broken.is c.fields-in-Broken.ensures
