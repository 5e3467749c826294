use Rattle.image_records.proofs.NumberLaws.{number_past}
use native.Mathlib.Omega.{arith}
use mathlib.Core.Path.{sym}
use Rattle.judge_records.proofs.places.half.Goals as goal

pub returns-then-places-k : goal.returns-then-places-k
returns-then-places-k c =
    sym (number_past 2 _ _ (omega arith))

pub returns : goal.returns
returns c =
    c.two.ensures
