use mathlib.Core.Path.{◌≡◌}
use Prim.Native.Nat.{◌+◌, ◌*◌, ◌≤◌}
use lib.ListN.{drop}
use Rattle.language.specs.Canonical.{action_count, left_count, total}
use Rattle.language.specs.Description.{Description}
use Rattle.image_order.specs.Holds.{Actions}
use Rattle.image_form.proofs.counts.actions_count.Given as goal

abbrev pub invariant-loop-n : goal.invariant-loop-n
invariant-loop-n l =
    (l.all ≤ l.n) × (l.lefts ≤ 2 * l.n)
    × ((d : Description) → Actions d l.acts → (l.all + total action_count (drop l.n d.actions) ≡ total action_count d.actions) × (l.lefts + total left_count (drop l.n d.actions) ≡ total left_count d.actions))
