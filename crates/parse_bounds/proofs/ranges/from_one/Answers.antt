use mathlib.Core.Path.{refl}
use Rattle.parse_bounds.proofs.RangeLaws.{last-bounded}
use Rattle.parse_bounds.proofs.ranges.from_one.Goals as goal

pub returns : goal.returns
returns c =
    last-bounded c.args.last refl c.bound.ensures refl refl
