use Rattle.parse_tables.proofs.FacilityLaws.{record-said}
use Rattle.parse_tables.proofs.facilities.facility_record.Goals as goal

pub returns : goal.returns
returns c =
    λ name at l p. record-said name at c.args.x l p c.low_bounds.ensures.0 c.low_bounds.ensures.1 c.low_bounds-2.ensures.0 c.low_bounds-2.ensures.1 c.facility_bytes.ensures
