use Rattle.parse_states.proofs.StateLaws.{all-states, first-not, first-stands}
use Rattle.parse_step.proofs.Answers.{err-came}
use mathlib.Core.Path.{refl}
use Rattle.parse_states.proofs.reading.states.Goals as goal

pub returns-in_err-first : goal.returns-in_err-first
returns-in_err-first c =
    rw (err-came c.from_residual.ensures.1) (first-not c.in_err-first.ensures refl)

pub more-requires : goal.more-requires
more-requires c =
    first-stands c.in_ok-first.ensures refl c.requires

pub returns : goal.returns
returns c =
    all-states c.in_ok-first.ensures refl c.more.ensures
