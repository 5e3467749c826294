use mathlib.Core.Path.{◌≡◌}
use Prim.Native.Nat.{◌+◌, ◌-◌}
use Rattle.language.specs.Description.{Description}
use Rattle.language.specs.Order.{run_roots}
use Rattle.image_order.specs.Edges.{after, edge}
use Rattle.image_order.specs.Holds.{Actions, Nodes}
use Rattle.image_order.proofs.trees.run_trees.Given as goal

abbrev pub invariant-loop-i : goal.invariant-loop-i
invariant-loop-i l = (d : Description) → Nodes d l.exprs → Actions d l.acts → after d (edge l.end) (run_roots d (l.count - l.i) (l.first + l.i)) ≡ after d (edge l.at) (run_roots d l.count l.first)
