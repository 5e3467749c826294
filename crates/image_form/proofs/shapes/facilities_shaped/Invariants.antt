use mathlib.Core.Path.{◌≡◌}
use lib.ListN.{drop}
use Rattle.language.specs.Canonical.{facilities_right}
use Rattle.language.specs.Description.{Description}
use Rattle.image_order.specs.Holds.{Facilities}
use Rattle.image_form.proofs.shapes.facilities_shaped.Given as goal

abbrev pub invariant-loop-n : goal.invariant-loop-n
invariant-loop-n l = (d : Description) → Facilities d l.facilities → facilities_right l.rank (drop l.n d.facilities) ≡ facilities_right 0 d.facilities
