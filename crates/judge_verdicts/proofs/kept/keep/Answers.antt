use Rattle.judge_verdicts.proofs.KeptLaws.{kept-faulty, kept_fine}
use Rattle.language.specs.Words.{Position}
use mathlib.Core.Path.{ap}
use Rattle.judge_verdicts.proofs.kept.keep.Goals as goal

pub returns-in-Ok : goal.returns-in-Ok
returns-in-Ok c =
    rw (c.in-Ok.is, c.put.ensures) (kept_fine _ _ c.requires _)

pub returns-in-Err : goal.returns-in-Err
returns-in-Err c =
    rw (c.in-Err.is, c.put-in-Err.ensures, ap (λ (p : Position). p.place) c.place.ensures, c.from-mark.ensures) (kept-faulty _ _ c.requires _)
