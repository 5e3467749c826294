use mathlib.Core.Path.{◌≡◌}
use Prim.Native.Nat.{◌+◌, ◌*◌, ◌≤◌}
use lib.ListN.{length}
use Rattle.image_records.specs.Placed.{placed}
use Rattle.parse_tables.specs.Rows.{size}
use Rattle.parse_held.proofs.LetterLaws.{letters_to}
use Rattle.parse_held.specs.Sections.{letters_of}
use Rattle.parse_held.proofs.letters.put.Given as goal

abbrev pub invariant-loop-k : goal.invariant-loop-k
invariant-loop-k l = (l.k ≤ l.n) × (length l.s ≡ length l.initial.s) × (l.to ≤ l.at + 65535 * l.k) × (size l.table ≡ 4 → l.to ≡ l.at + length (letters_to l.text l.table l.n l.work l.k)) × (size l.table ≡ 4 → l.at + length (letters_of l.text l.table l.n l.work) ≤ length l.initial.s → l.s ≡ placed l.initial.s l.at (letters_to l.text l.table l.n l.work l.k))
