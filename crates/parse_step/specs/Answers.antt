-- What became of a part of the text.
use Rattle.std.specs.Prelude.{Err, Ok, Result}
use Rattle.parse_step.specs.declared.Reached.{Reached}
use Rattle.parse_step.specs.declared.Unread.{Unread}

abbrev pub Answer : Type 0
Answer = Result Reached Unread

-- The same of a part of which more is told than how far it was read.
abbrev pub answered : {A : Type 0} → (A → Reached) → Result A Unread → Answer
answered f (Ok x) = Ok (f x)
answered f (Err e) = Err e
