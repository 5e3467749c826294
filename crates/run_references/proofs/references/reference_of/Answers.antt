use Rattle.image_records.proofs.ReferenceLaws.{unwidened}
use Rattle.image_records.specs.Nodes.{meant}
use Rattle.language.specs.References.{reference_of}
use mathlib.Core.Path.{ap, ◌∙◌}
use Rattle.run_references.proofs.references.reference_of.Goals as goal

pub returns : goal.returns
returns c =
    λ v. c.reference_of.ensures v ∙ ap reference_of (unwidened (meant v c.args.node))
