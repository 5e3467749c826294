-- A facility in print, from the bytes B of a store in which its first word is at `place`.
use Rattle.std.specs.Prelude.{cond, List, [], ◌++◌, ◌≡◌, ℕ, ◌+◌, ◌≤◌, length}
use Rattle.language.specs.Description.{Description, Facility, facility_at, word_length}
use Rattle.language.specs.Layout.{word_bytes}
use Rattle.language.specs.Scan.{bytes}
use Rattle.language.specs.Trace.{bits, decimal, line_end, shown}
use Rattle.image_sections.specs.Declarations.{facility_in}
use Rattle.image_sections.specs.Names.{facility_part, named}
use Rattle.store_layout.specs.Layout.{word_in}

abbrev pub HasWord : Facility → ℕ → List ℕ → Type 0
HasWord f place B = place + word_bytes (word_length f) ≤ length B

unfoldable pub word_text : Facility → ℕ → List ℕ → List ℕ
word_text f place B = bits (word_length f) (word_in B place (word_length f))

unfoldable pub facility_text : Facility → ℕ → List ℕ → List ℕ
facility_text f place B = cond (shown f) (bytes " " ++ (f.name ++ (bytes "=" ++ word_text f place B))) []

-- The facilities of d are those of the section F, with their names from N.
abbrev pub Named : Description → List ℕ → List ℕ → Type 0
Named d F N = (n : ℕ) → facility_at d n ≡ facility_in F n (named (facility_part F n) N)

-- The line of a text that is refused, by its number and its place.
abbrev pub refused_text : ℕ → ℕ → List ℕ
refused_text n place = bytes "refused " ++ (decimal n ++ (bytes " " ++ (decimal place ++ line_end)))
