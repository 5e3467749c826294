use Rattle.language.specs.Description as D
use Rattle.parse_operands.proofs.ReferenceLaws.{gained-as, reference-bytes, reference-beside, two-beside}
use mathlib.Core.Path.{◌∙◌}
use Rattle.parse_operands.proofs.nodes.add_two.Goals as goal

pub returns : goal.returns
returns c =
    λ sc e. gained-as c.add.ensures (reference-bytes sc _ e c.facility.ensures (λ k. D.two k c.args.e c.args.g) (c.two-node.ensures 0)) (c.plain-beside.ensures ∙ reference-beside sc _ e c.facility.ensures (λ k. D.two k c.args.e c.args.g) _ (two-beside _ _ _))
