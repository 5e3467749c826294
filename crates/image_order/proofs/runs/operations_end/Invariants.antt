use mathlib.Core.Path.{◌≡◌}
use lib.ListN.{drop}
use Rattle.language.specs.Description.{Description}
use Rattle.language.specs.Order.{ending, operations_end}
use Rattle.image_order.specs.Edges.{edge}
use Rattle.image_order.specs.Holds.{Operations}
use Rattle.image_order.proofs.runs.operations_end.Given as goal

abbrev pub invariant-loop-n : goal.invariant-loop-n
invariant-loop-n l = (d : Description) → Operations d l.operations → ending (edge l.end) (λ m. operations_end d m (drop l.n d.operations)) ≡ ending (edge l.initial.end) (λ m. operations_end d m d.operations)
