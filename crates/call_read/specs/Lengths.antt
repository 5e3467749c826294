-- The length that a sequencing register lends to values, where there is one.
use Rattle.std.proofs.Math.Option.{Option, none, some}
use Rattle.std.specs.Prelude.{ℕ}
use Rattle.language.specs.DescribeText.{lent}

abbrev pub lending : Option ℕ → Option ℕ
lending none = none
lending (some l) = lent l
