use mathlib.Core.Path.{◌≡◌}
use lib.ListN.{drop}
use Rattle.language.specs.Description.{Description}
use Rattle.language.specs.Order.{operation_roots}
use Rattle.image_order.specs.Edges.{after, edge}
use Rattle.image_order.specs.Holds.{Actions, Nodes, Operations}
use Rattle.image_order.proofs.trees.operation_trees.Given as goal

abbrev pub invariant-loop-n : goal.invariant-loop-n
invariant-loop-n l = (d : Description) → Nodes d l.exprs → Actions d l.acts → Operations d l.operations → after d (edge l.end) (operation_roots d (drop l.n d.operations)) ≡ after d (edge l.at) (operation_roots d d.operations)
