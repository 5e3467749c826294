-- Where the bits of a place lie among the bytes of a store, by the facility's place and shape.
use Rattle.std.specs.Prelude.{ℕ, ◌+◌, ◌*◌}
use Rattle.language.specs.Description.{Facility, word_length}
use Rattle.language.specs.Layout.{word_bytes}
use Rattle.run_references.specs.declared.places.Place.{Place}
use Rattle.run_stores.specs.declared.spots.Spot.{Spot}

abbrev pub spot_of : ℕ → Facility → Place → Spot
spot_of at f p = record { at = at + p.word * word_bytes (word_length f); length = word_length f; from = p.from; count = p.count }
