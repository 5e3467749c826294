use mathlib.Core.Path.{◌≡◌}
use lib.ListN.{drop}
use Rattle.language.specs.Description.{Description}
use Rattle.language.specs.Order.{state_roots}
use Rattle.image_order.specs.Edges.{after, edge}
use Rattle.image_order.specs.Holds.{Actions, Nodes, States}
use Rattle.image_order.proofs.trees.state_trees.Given as goal

abbrev pub invariant-loop-n : goal.invariant-loop-n
invariant-loop-n l = (d : Description) → Nodes d l.exprs → Actions d l.acts → States d l.states → after d (edge l.end) (state_roots d (drop l.n d.states)) ≡ after d (edge l.at) (state_roots d d.states)
