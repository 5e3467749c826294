use mathlib.Core.Path.{◌∙◌}
use Rattle.image_order.proofs.RunLaws.{all_runs}
use Rattle.image_order.proofs.runs.runs_right.Goals as goal

pub returns : goal.returns
returns c =
    λ d o a s. c.ends_at.ensures d ∙ rw (← a.count) (all_runs d (c.operations_end-middle.ensures d o) (c.states_end-last.ensures d s))
