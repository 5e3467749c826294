use mathlib.Core.Path.{◌≡◌}
use Prim.Native.Nat.{ℕ, ◌*◌, ◌%◌, ◌<◌}
use lib.ListN.{drop, take}
use Rattle.language.specs.Description.{Description, facility_at}
use Rattle.language.specs.Encode.{facility_record, facility_size}
use Rattle.language.specs.Layout.{place_in}
use Rattle.image_order.specs.Holds.{Facilities}
use Rattle.image_form.specs.Form.{NamesLong}
use Rattle.image_form.proofs.rows.facilities_right.Given as goal

abbrev pub invariant-loop-n : goal.invariant-loop-n
invariant-loop-n l = (d : Description) → Facilities d l.facilities → NamesLong d l.facilities → (l.place ≡ place_in d.facilities l.n % 65536) × ((k : ℕ) → k < l.n → take facility_size (drop (facility_size * k) l.facilities) ≡ facility_record (place_in d.facilities k) (facility_at d k))
