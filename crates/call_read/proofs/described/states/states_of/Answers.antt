use Rattle.call_read.proofs.StatesLaws.{all_read, few-actions, known, not-read}
use Rattle.parse_step.proofs.Answers.{err-came}
use mathlib.Core.Path.{refl}
use Rattle.call_read.proofs.described.states.states_of.Goals as goal

pub states-requires : goal.states-requires
states-requires c =
    known c.requires

pub returns-in_err-read : goal.returns-in_err-read
returns-in_err-read c =
    rw (err-came c.from_residual.ensures.1) (λ ds os a. not-read a c.in_err-read.ensures refl)

pub resolve-requires : goal.resolve-requires
resolve-requires c =
    few-actions c.requires.ready c.in_ok-read.ensures refl

pub returns : goal.returns
returns c =
    λ ds os a. all_read a c.in_ok-read.ensures refl c.resolve.ensures
