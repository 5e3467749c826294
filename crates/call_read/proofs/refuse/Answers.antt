use mathlib.Core.Path.{ap}
use Rattle.call_answers.specs.Reading.{called}
use Rattle.std.specs.Prelude.{Err}
use Rattle.call_read.proofs.refuse.Goals as goal

pub returns : goal.returns
returns c =
    ap (called (Err (record { refusal = c.args.f.refusal; place = c.args.f.at.place }))) c.zero.ensures
