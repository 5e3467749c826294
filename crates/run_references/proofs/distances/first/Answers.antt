use mathlib.Core.Path.{◌∙◌}
use Rattle.run_references.proofs.PlaceLaws.{first-once}
use Rattle.run_references.proofs.distances.first.Goals as goal

pub returns-in_default : goal.returns-in_default
returns-in_default c =
    λ f g.
    c.first_of.ensures ∙ first-once c.facility_at.result f c.facility_at.ensures g c.args.s
