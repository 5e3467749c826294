use Rattle.parse_bounds.proofs.ExtentLaws.{none-sized}
use Rattle.parse_bounds.proofs.extents.single.Goals as goal

pub returns : goal.returns
returns c =
    none-sized c.nothing.ensures c.nothing-2.ensures
