use mathlib.Core.Path.{◌≡◌}
use Prim.Native.Nat.{◌+◌, ◌-◌, ◌*◌, ◌≤◌}
use Rattle.language.specs.Decode.{names_length}
use Rattle.image_sections.proofs.names.names_length.Given as goal

abbrev pub invariant-loop-i : goal.invariant-loop-i
invariant-loop-i l = (l.sum ≤ 255 * l.i) × (l.sum + names_length (l.n - l.i) (l.inside + l.size * l.i) l.size l.s ≡ names_length l.n l.inside l.size l.s)
