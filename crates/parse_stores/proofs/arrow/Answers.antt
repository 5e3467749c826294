use Rattle.parse_stores.proofs.SignLaws.{arrow-leads, arrow-unnamed}
use Rattle.parse_step.proofs.Answers.{err-came}
use mathlib.Core.Path.{refl}
use Rattle.parse_stores.proofs.arrow.Goals as goal

pub returns-in_err-kept : goal.returns-in_err-kept
returns-in_err-kept c =
    rw (err-came c.from_residual.ensures.1) (arrow-unnamed c.in_err-kept.ensures c.args.call refl)

pub returns : goal.returns
returns c =
    arrow-leads c.in_ok-kept.ensures refl c.meaning-m.result c.meaning-m.ensures c.put.ensures c.args.call c.going.ensures
