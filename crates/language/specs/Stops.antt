-- The stops (01, "One cycle"), which src/stops.rt lists, and 01's number of each.
use Rattle.std.proofs.Math.Option.{Option, none, some}
use Rattle.std.specs.Prelude as Code
use Rattle.std.specs.Prelude.{None, Some, ℕ}
use Rattle.language.specs.declared.stops.Stop.{Stop}
use Rattle.language.specs.declared.stops.Stop.TheVariants.{OutsideBounds, TwoNextStates, ValueUnborne, NothingToReturn, TooManyCalls, NoNextState, LastCycleReached}

-- The stop that ended something, if one did.
abbrev pub halted : Code.Option Stop → Option Stop
halted None = none
halted (Some s) = some s

abbrev pub stop_number : Stop → ℕ
stop_number OutsideBounds = 1
stop_number TwoNextStates = 2
stop_number ValueUnborne = 3
stop_number NothingToReturn = 4
stop_number TooManyCalls = 5
stop_number NoNextState = 6
stop_number LastCycleReached = 7
