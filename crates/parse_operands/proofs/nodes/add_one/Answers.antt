use Rattle.language.specs.Description as D
use Rattle.parse_operands.proofs.ReferenceLaws.{gained-as, reference-bytes, reference-beside, one-beside}
use mathlib.Core.Path.{◌∙◌}
use Rattle.parse_operands.proofs.nodes.add_one.Goals as goal

pub returns : goal.returns
returns c =
    λ sc e. gained-as c.add.ensures (reference-bytes sc _ e c.facility.ensures (λ k. D.one k c.args.e) (c.one-node.ensures 0)) (c.plain-beside.ensures ∙ reference-beside sc _ e c.facility.ensures (λ k. D.one k c.args.e) _ (one-beside _ _))
