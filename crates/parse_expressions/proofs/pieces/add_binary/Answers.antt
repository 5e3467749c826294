use mathlib.Core.Path.{refl}
use Rattle.parse_operands.proofs.ReferenceLaws.{gained-as}
use Rattle.parse_expressions.proofs.PartLaws.{binary-as}
use Rattle.parse_expressions.proofs.pieces.add_binary.Goals as goal

pub returns : goal.returns
returns c =
    gained-as c.add.ensures (binary-as c.kind_of.ensures refl c.last.ensures) c.plain-beside.ensures
