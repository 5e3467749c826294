use Rattle.parse_operands.proofs.ReferenceLaws.{word-part-gained}
use mathlib.Core.Path.{refl}
use Rattle.parse_operands.proofs.nodes.add_word_part.Goals as goal

pub returns : goal.returns
returns c =
    λ sc e. word-part-gained c.add.ensures sc _ e c.facility-f.ensures _ c.bound-a.ensures c.bound-b.ensures c.ended-beside.ensures c.marked.ensures c.marked-2.ensures c.args.e (c.word_part-node.ensures 0) refl
