use mathlib.Core.Path.{◌≡◌}
use Prim.Native.Nat.{◌+◌, ◌*◌, ◌-◌, ◌≤◌}
use lib.ListN.{drop}
use Rattle.language.specs.Decode.{names_length}
use Rattle.image_form.specs.Names.{names_right}
use Rattle.image_form.proofs.labels.names_end.Given as goal

abbrev pub invariant-loop-i : goal.invariant-loop-i
invariant-loop-i l =
    (l.from ≤ 255 * l.i) × (names_right (l.n - l.i) (l.inside + l.size * l.i) l.size l.s (drop l.from l.names) ≡ names_right l.n l.inside l.size l.s l.names)
    × (l.from + names_length (l.n - l.i) (l.inside + l.size * l.i) l.size l.s ≡ names_length l.n l.inside l.size l.s)
