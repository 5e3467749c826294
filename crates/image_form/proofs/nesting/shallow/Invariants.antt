use Prim.Native.Nat.{ℕ, ◌≤◌}
use mathlib.Core.Path.{◌≡◌}
use lib.ListN.{length}
use Rattle.language.specs.Description.{Description}
use Rattle.image_order.specs.Holds.{Nodes}
use Rattle.image_form.specs.Depths.{noted}
use Rattle.image_form.proofs.DepthLaws.{Noted}
use Rattle.image_form.proofs.nesting.shallow.Given as goal

abbrev pub invariant-loop-n : goal.invariant-loop-n
invariant-loop-n l = (length l.depths ≡ 34816) × ((i : ℕ) → noted l.depths i ≤ 4097) × ((d : Description) → Nodes d l.exprs → Noted d l.n l.depths)
