-- Sections describe what they decode to, where places and constants are as they should be.
use mathlib.Core.Bool.{false}
use mathlib.Core.Path.{◌≡◌}
use Prim.Native.Nat.{ℕ, ◌^◌, ◌<◌, ◌≤◌}
use lib.ListN.{length}
use Rattle.language.specs.Decode.{described}
use Rattle.language.specs.Description as D
use Rattle.language.specs.Description.{facility_at, is_computed, node_at}
use Rattle.language.specs.Encode.{Sections}
use Rattle.language.specs.Layout.{place_in}
use Rattle.language.specs.Value.{Value}
use Rattle.image_sections.proofs.DescribedLaws.{facilities-count, facility-described, node-described}
use Rattle.image_sections.specs.Declarations.{place_field_in}
use Rattle.image_sections.specs.Names.{facility_part, named}
use Rattle.run_references.specs.Described.{Describes}

pub sections-describe : (x : Sections)
    → ((n : ℕ) → n < length (described x).facilities → is_computed (facility_at (described x) n).kind ≡ false → place_field_in x.facilities n ≡ place_in (described x).facilities n)
    → ((n : ℕ) (v : Value) → node_at (described x) n ≡ D.constant v → (v.number < 2 ^ v.length) × (v.length ≤ 256))
    → Describes (described x) x.facilities x.expressions
sections-describe x places fit = record {
  nodes = node-described x;
  facilities = λ n. record { name = named (facility_part x.facilities n) x.names; is = facility-described x n };
  count = facilities-count x;
  places = places;
  fit = fit;
}
