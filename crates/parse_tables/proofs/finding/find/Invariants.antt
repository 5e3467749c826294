use Rattle.parse_array.specs.Names.{letters}
use Rattle.parse_tables.proofs.FirstFound.{Left}
use Rattle.parse_tables.proofs.finding.find.Given as goal

abbrev pub invariant-loop-k : goal.invariant-loop-k
invariant-loop-k l = Left l.text l.fn.table l.n l.work (letters l.text l.place l.length) l.k
