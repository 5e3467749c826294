use Rattle.parse_operands.proofs.ReferenceLaws.{part-gained}
use mathlib.Core.Path.{refl}
use Rattle.parse_operands.proofs.nodes.add_part.Goals as goal

pub returns : goal.returns
returns c =
    λ sc e. part-gained c.add.ensures sc _ e c.facility-f.ensures _ c.bound-a.ensures c.bound-b.ensures c.ended-beside.ensures c.marked.ensures c.marked-2.ensures (c.part-node.ensures 0) refl
