-- The form of an image: the whole of the check but its rules.
use Rattle.std.specs.Prelude.{Bool, true, false, List, ◌≡◌, refl, ℕ, ◌/◌, ◌<◌, eqb, length}
use Rattle.std.proofs.Common.{◌∙◌}
use Rattle.language.specs.Canonical.{canonical}
use Rattle.language.specs.Decode.{decode}
use Rattle.language.specs.Description.{Description, facility_at, no_places}
use Rattle.language.specs.Encode.{Sections, facility_size}
use Rattle.language.specs.Image.{legal_form, passes}
use Rattle.language.specs.Rules.{faults}
use Rattle.image_sections.specs.Declarations.{name_length_in}
use Rattle.about_images.specs.Whole.{bytes_right, passes-parts}
use Rattle.language.specs.Tests.{both}

-- The bytes are those of what they describe, and that is in the form that reading gives.
unfoldable pub form_right : List ℕ → Bool
form_right image = both (bytes_right image) (canonical (decode image))

-- What is left of the check are the rules.
pub passes-form : (image : List ℕ) → passes image ≡ both (form_right image) (eqb (length (faults (decode image) no_places)) 0)
unfolding form_right legal_form
passes-form image = passes-parts image ∙ by-test (bytes_right image)
  where
    by-test : (b : Bool) → both b (both (canonical (decode image)) (eqb (length (faults (decode image) no_places)) 0))
        ≡ both (both b (canonical (decode image))) (eqb (length (faults (decode image) no_places)) 0)
    by-test true = refl
    by-test false = refl

-- Sections as slices.
abbrev pub sectioned : List ℕ → List ℕ → List ℕ → List ℕ → List ℕ → List ℕ → Sections
sectioned f o e a s n = record { facilities = f; operations = o; expressions = e; actions = a; states = s; names = n }

-- The names of facilities are as long as their records say.
abbrev pub NamesLong : Description → List ℕ → Type 0
NamesLong d s = (n : ℕ) → n < length s / facility_size → length (facility_at d n).name ≡ name_length_in facility_size 2 s n
