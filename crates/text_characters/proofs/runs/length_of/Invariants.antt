use mathlib.Core.Path.{◌≡◌}
use Prim.Native.Nat.{◌+◌}
use lib.ListN.{drop}
use Rattle.language.specs.Scan.{span}
use Rattle.text_characters.specs.Runs.{belonging}
use Rattle.text_characters.proofs.runs.length_of.Given as goal

abbrev pub invariant-loop-n : goal.invariant-loop-n
invariant-loop-n l = span (belonging l.run) l.text ≡ l.n + span (belonging l.run) (drop l.n l.text)
