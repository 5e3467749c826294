-- The refusal that tests found, if there is one.
use Rattle.std.proofs.Math.Option.{Option, none, some}
use Rattle.std.specs.Prelude.{Err, Ok, Result}
use Rattle.language.specs.declared.refusals.Refusal.{Refusal}

abbrev pub refusal_seen : Result (Unit {0}) Refusal → Option Refusal
refusal_seen (Err r) = some r
refusal_seen (Ok _) = none
