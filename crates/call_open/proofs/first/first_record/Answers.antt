use mathlib.Core.Path.{ap, ap₂, ◌∙◌}
use Rattle.language.specs.Calls.{over}
use Rattle.language.specs.RecordBytes.{record_bytes}
use Rattle.call_open.proofs.FirstLaws.{over-zeroes}
use Rattle.call_open.proofs.first.first_record.Goals as goal

pub returns : goal.returns
returns c =
    λ d z room.
    c.write_record.ensures room ∙ (ap₂ over (ap record_bytes (c.at_first.ensures d)) z ∙ over-zeroes _ _)
