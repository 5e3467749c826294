use Rattle.parse_states.proofs.BodyLaws.{list-not, list_read, list-stands}
use Rattle.parse_step.proofs.Answers.{err-came}
use mathlib.Core.Path.{refl}
use Rattle.parse_states.proofs.bodies.list.Goals as goal

pub returns-in_err-one : goal.returns-in_err-one
returns-in_err-one c =
    rw (err-came c.from_residual.ensures.1) (list-not c.args.named c.args.name c.in_err-one.ensures refl)

pub rest-requires : goal.rest-requires
rest-requires c =
    list-stands c.args.named c.args.name c.in_ok-one.ensures refl c.requires

pub returns : goal.returns
returns c =
    list_read c.args.named c.args.name c.in_ok-one.ensures refl c.rest.ensures
