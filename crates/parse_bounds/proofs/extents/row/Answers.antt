use Rattle.parse_bounds.proofs.ExtentLaws.{row_sized}
use Rattle.parse_bounds.proofs.extents.row.Goals as goal

pub returns : goal.returns
returns c =
    λ x b. row_sized c.nothing.ensures b
