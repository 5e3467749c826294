-- Facilities and names of an image, as its sections give them.
use mathlib.Core.Bool.{true}
use mathlib.Core.List.{List}
use mathlib.Core.Path.{◌≡◌, sym, ap₂, ◌∙◌}
use Prim.Native.Nat.{ℕ}
use Rattle.language.specs.Decode.{decode, section_at, sections_in}
use Rattle.language.specs.Image.{passes}
use Rattle.image_sections.proofs.DescribedLaws.{facility-described}
use Rattle.image_sections.specs.Declarations.{facility_in}
use Rattle.image_sections.specs.Names.{facility_part, named}
use Rattle.language.specs.Encode.{expressions_section, facilities_section, facility_size, name_size, names_section, node_size}
use Rattle.run_references.specs.Described.{Describes}
use Rattle.run_soundness.proofs.PassedLaws.{passed-described}
use Rattle.trace_output.specs.Texts.{Named}

pub image-named : (image : List ℕ) {F N : List ℕ} → F ≡ section_at facilities_section facility_size image → N ≡ section_at names_section name_size image → Named (decode image) F N
unfolding decode sections_in
image-named image {F} {N} f m n =
    facility-described (sections_in image) n ∙ ap₂ (λ (x y : List ℕ). facility_in x n (named (facility_part x n) y)) (sym f) (sym m)

pub image-described : (image : List ℕ) {F : List ℕ} → passes image ≡ true → F ≡ section_at facilities_section facility_size image → Describes (decode image) F (section_at expressions_section node_size image)
image-described image p f = rw f (passed-described image p)
