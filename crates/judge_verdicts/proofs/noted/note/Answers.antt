use mathlib.Core.Path.{ap}
use Rattle.language.specs.Words.{Position}
use Rattle.judge_verdicts.proofs.NotedLaws.{faulty-noted, fine-noted}
use Rattle.judge_verdicts.proofs.noted.note.Goals as goal

pub returns-in_ok-worth_value-in-Ok : goal.returns-in_ok-worth_value-in-Ok
returns-in_ok-worth_value-in-Ok c =
    rw c.in-Ok.is (fine-noted _ _ _ _ _ c.in_ok-worth_value-in-Ok.ensures c.joined.ensures)

pub returns-in-Err : goal.returns-in-Err
returns-in-Err c =
    rw c.in-Err.is (faulty-noted _ _ _ _ _ _ c.from-mark.ensures (ap (λ (p : Position). p.place) c.place.ensures) c.joined-in-Err.ensures)
