use mathlib.Core.Path.{refl}
use Rattle.language.specs.Scan.{bytes}
use Rattle.trace_line.proofs.told.not_taken.Goals as goal

pub returns : goal.returns
unfolding bytes
returns c =
    (refl, rw c.from.ensures at c.numbered.ensures)
