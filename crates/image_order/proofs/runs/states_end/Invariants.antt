use mathlib.Core.Path.{◌≡◌}
use lib.ListN.{drop}
use Rattle.language.specs.Description.{Description}
use Rattle.language.specs.Order.{ending, states_end}
use Rattle.image_order.specs.Edges.{edge}
use Rattle.image_order.specs.Holds.{States}
use Rattle.image_order.proofs.runs.states_end.Given as goal

abbrev pub invariant-loop-n : goal.invariant-loop-n
invariant-loop-n l = (d : Description) → States d l.states → ending (edge l.end) (λ m. states_end d m (drop l.n d.states)) ≡ ending (edge l.at) (λ m. states_end d m d.states)
