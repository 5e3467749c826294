use mathlib.Core.Path.{◌≡◌}
use Prim.Native.Nat.{◌*◌, ◌≤◌}
use lib.ListN.{length}
use Rattle.parse_tables.specs.Rows.{size}
use Rattle.parse_held.proofs.LetterLaws.{letters_to}
use Rattle.parse_held.proofs.letters.count.Given as goal

abbrev pub invariant-loop-k : goal.invariant-loop-k
invariant-loop-k l = (l.k ≤ l.n) × (l.sum ≤ 65535 * l.k) × (size l.table ≡ 4 → l.sum ≡ length (letters_to l.text l.table l.n l.work l.k))
