use mathlib.Core.Path.{◌≡◌}
use Prim.Native.Nat.{◌-◌}
use Rattle.language.specs.Decode.{digits_marked}
use Rattle.image_records.proofs.constants.all_marked.Given as goal

abbrev pub invariant-loop-i : goal.invariant-loop-i
invariant-loop-i l = digits_marked (l.k - l.i) (l.n - l.i) l.exprs ≡ digits_marked l.k l.n l.exprs
