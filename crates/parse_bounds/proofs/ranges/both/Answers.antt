use mathlib.Core.Path.{refl}
use Rattle.parse_bounds.proofs.RangeLaws.{both-bounded}
use Rattle.parse_bounds.proofs.ranges.both.Goals as goal

pub returns : goal.returns
returns c =
    both-bounded c.args.first c.args.last c.bound.ensures c.bound-2.ensures refl refl
