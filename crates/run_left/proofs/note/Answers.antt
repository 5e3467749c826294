use mathlib.Core.Path.{◌∙◌}
use Rattle.run_next.specs.Seen.{record_meant}
use Rattle.run_left.proofs.KeptLaws.{kept-none, kept-some}
use Rattle.run_left.proofs.note.Goals as goal

pub returns-then-completed-gt0 : goal.returns-then-completed-gt0
returns-then-completed-gt0 c =
    λ few. c.write_record.ensures few ∙ kept-some c.args.completed (record_meant c.args.r) c.args.«record».now c.if-completed-gt0.true

pub returns-else-completed-gt0 : goal.returns-else-completed-gt0
returns-else-completed-gt0 c =
    λ few. kept-none c.args.completed (record_meant c.args.r) c.args.«record».now c.if-completed-gt0.false
