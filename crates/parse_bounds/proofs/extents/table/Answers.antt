use Rattle.parse_bounds.proofs.ExtentLaws.{table-sized}
use Rattle.parse_bounds.proofs.extents.table.Goals as goal

pub returns : goal.returns
returns c =
    λ x y a b. table-sized a b
