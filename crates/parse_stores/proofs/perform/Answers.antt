use Rattle.parse_stores.proofs.SignLaws.{performs, unperformed}
use Rattle.parse_step.proofs.Answers.{err-came}
use mathlib.Core.Path.{refl}
use Rattle.parse_stores.proofs.perform.Goals as goal

pub returns-in_err-counted : goal.returns-in_err-counted
returns-in_err-counted c =
    rw (err-came c.from_residual.ensures.1) (unperformed c.in_err-counted.ensures refl)

pub returns : goal.returns
returns c =
    performs c.in_ok-counted.ensures refl c.meaning-m.result c.meaning-m.ensures c.performing.ensures c.put.ensures
