use mathlib.Core.Path.{◌≡◌}
use Prim.Native.Nat.{◌+◌, ◌≤◌}
use lib.ListN.{drop}
use Rattle.language.specs.Canonical.{node_count, total}
use Rattle.language.specs.Description.{Description}
use Rattle.image_order.specs.Holds.{Nodes}
use Rattle.image_form.proofs.counts.nodes_count.Given as goal

abbrev pub invariant-loop-n : goal.invariant-loop-n
invariant-loop-n l = (l.sum ≤ l.n) × ((d : Description) → Nodes d l.exprs → l.sum + total node_count (drop l.n d.expressions) ≡ total node_count d.expressions)
