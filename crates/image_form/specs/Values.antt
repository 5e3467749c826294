-- How many values a state has.
use Rattle.std.proofs.Math.Option.{Option, none, some}
use Rattle.std.specs.Prelude.{ℕ}

abbrev pub values_in : Option ℕ → ℕ
values_in none = 0
values_in (some n) = 1
