-- Descriptions by the sections of an image: what evaluation knows of them.
use Rattle.std.specs.Prelude.{List, ℕ}
use Rattle.language.specs.Description.{Description}
use Rattle.image_sections.specs.declared.sections.Sections.{Sections}
use Rattle.run_references.specs.Described.{Describes, ForEach}
use Rattle.store_layout.specs.InBytes.{InBytes}

-- The sections of facilities and expressions describe d.
abbrev pub Described : Description → Sections → Type 0
Described d s = Describes d s.facilities.now s.expressions.now

-- A claim about each such description, and each store of the bytes B.
abbrev pub ForImage : Sections → List ℕ → (Description → InBytes → Type 0) → Type 0
ForImage s B claim = ForEach s.facilities.now s.expressions.now B claim
