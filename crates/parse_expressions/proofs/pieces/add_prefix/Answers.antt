use Rattle.parse_expressions.proofs.PartLaws.{gained-at, prefix-as}
use Rattle.parse_expressions.proofs.pieces.add_prefix.Goals as goal

pub returns : goal.returns
returns c =
    gained-at c.add.ensures c.eased.ensures (prefix-as c.kind_of.ensures c.last.ensures) c.plain-beside.ensures
