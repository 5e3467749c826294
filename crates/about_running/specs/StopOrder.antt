-- What is said of a cycle's stop (proofs/StopOrder.antt): which it is, and which subscript S1 is for.
use Rattle.std.specs.Prelude.{false, ◌≡◌}
use mathlib.Core.List.{List}
use Rattle.std.proofs.Math.Option.{Option, none, some}
use Rattle.language.specs.Description.{Description, in_bounds}
use Rattle.language.specs.Step.{Outcome, Record, completed}
use Rattle.language.specs.declared.stops.Stop.{Stop}
use Rattle.language.specs.Store.{StoreWords, numbers}
use Rattle.language.specs.Value.{Value}
use Rattle.about_running.specs.Account as Account
use Rattle.about_running.specs.Account.{Executed, Subscript, Worth, outside, stands}
use Rattle.about_running.specs.Conditions.{Cycle, begun}

-- The stop that ended a cycle.
abbrev pub stop_of : Outcome → Option Stop
stop_of (completed s r n) = none
stop_of (Outcome.stopped n) = some n
stop_of (Outcome.stuck s) = none

-- The first subscript outside its bounds that a cycle works out: what was executed before it, and its value on the store that stands then.
pub record FirstOutside (d : Description) (s : StoreWords) (r : Record) (ins : StoreWords) : Type 0 where
  pub before : List Executed
  pub subscript : Subscript
  pub worth : Value
  pub met-first : Cycle d s r ins before (Account.met (outside subscript worth))
  pub worked-out : Worth (numbers d) d (stands (numbers d) (begun d s r ins) before) subscript.expression worth
  pub beyond : in_bounds subscript.bounds worth.number ≡ false
