use mathlib.Core.Path.{ap, ◌∙◌}
use Rattle.store_geometry.specs.Places.{capped}
use Rattle.judge_all.proofs.memory.place_after.Goals as goal

pub returns : goal.returns
returns c =
    λ name. c.cap.ensures ∙ ap capped (c.place_after.ensures _ (c.shape_of.ensures name))
