use mathlib.Core.Path.{◌≡◌}
use Prim.Native.Nat.{◌+◌, ◌≤◌}
use lib.ListN.{drop}
use Rattle.language.specs.Canonical.{total, value_count}
use Rattle.language.specs.Description.{Description}
use Rattle.image_order.specs.Holds.{States}
use Rattle.image_form.proofs.counts.values_count.Given as goal

abbrev pub invariant-loop-n : goal.invariant-loop-n
invariant-loop-n l = (l.sum ≤ l.n) × ((d : Description) → States d l.states → l.sum + total value_count (drop l.n d.states) ≡ total value_count d.states)
