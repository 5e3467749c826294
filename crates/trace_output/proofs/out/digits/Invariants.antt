use mathlib.Core.Path.{◌≡◌}
use lib.ListN.{drop, length}
use Rattle.language.specs.Trace.{decimal, decimal_from}
use Rattle.trace_output.proofs.out.digits.Given as goal

abbrev pub invariant-loop-at : goal.invariant-loop-at
invariant-loop-at l = (length l.last ≡ 20) × (decimal_from l.at l.left (drop l.at l.last) ≡ decimal l.n)
