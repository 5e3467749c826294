use Rattle.parse_tables.proofs.NamesGrown.{word-short, word-there}
use native.Mathlib.Omega.{arith}
use Rattle.parse_tables.proofs.names.word.Goals as goal

pub returns : goal.returns
returns c =
    (λ n e h. word-there c.args.text.now c.args.work.now c.args.table c.args.k n e h c.begin.ensures.0 c.two-place.ensures c.two-size.ensures c.part.ensures, word-short c.args.text.now c.two-place.result c.two-size.result c.part.ensures (omega arith))
