use mathlib.Core.Path.{◌≡◌}
use lib.ListN.{drop}
use Rattle.language.specs.Description.{Description}
use Rattle.language.specs.Order.{facility_roots}
use Rattle.image_order.specs.Edges.{after, edge}
use Rattle.image_order.specs.Holds.{Facilities, Nodes}
use Rattle.image_order.proofs.trees.facility_trees.Given as goal

abbrev pub invariant-loop-n : goal.invariant-loop-n
invariant-loop-n l = (d : Description) → Nodes d l.exprs → Facilities d l.facilities → after d (edge l.end) (facility_roots d (drop l.n d.facilities)) ≡ after d (edge l.initial.end) (facility_roots d d.facilities)
