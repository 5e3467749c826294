-- What the code's bounds and shapes mean in the language.
use Rattle.std.specs.Prelude.{◌≡◌}
use Rattle.language.specs.Description as D
use Rattle.language.specs.Description.{Facility, bounds, is_computed}
use Rattle.store_geometry.specs.declared.bounds.Bounds.{Bounds}
use Rattle.store_geometry.specs.declared.shapes.Shape.{Shape}

abbrev pub bounds_meant : Bounds → D.Bounds
bounds_meant b = bounds b.first b.last

-- f is of this shape.
pub record Shaped (s : Shape) (f : Facility) : Type 0 where
  pub computed : s.computed ≡ is_computed f.kind
  pub dimensions : s.dimensions ≡ f.dimensions
  pub words : bounds_meant s.words ≡ f.words
  pub bits : bounds_meant s.bits ≡ f.bits
