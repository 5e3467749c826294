use Rattle.std.specs.Prelude.{Ok}
use Rattle.run_references.proofs.PlaceLaws.{bit-once}
use Rattle.run_references.proofs.distances.second.Goals as goal

pub returns-in-Two-Ok : goal.returns-in-Two-Ok
returns-in-Two-Ok c =
    λ f g. rw (c.in-Two-Ok.is-0, c.in-Two-Ok.is-1) (bit-once c.facility_at.result f c.facility_at.ensures g c.in-Two-Ok.g (Ok c.in-Two-Ok.field-0-1))
