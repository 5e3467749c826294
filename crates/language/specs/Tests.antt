-- Two tests together.
use Rattle.std.specs.Prelude.{Bool, true, false}

abbrev pub both : Bool → Bool → Bool
both true b = b
both false b = false
