-- THE CHECK IS EXACT: an image passes if and only if it begins with what is written of a description in legal form in which only computed terminals have expressions; and it is read as that description.
use Rattle.std.specs.Prelude.{Bool, true, false, List, ◌++◌, ◌≡◌, refl, ℕ, ◌+◌, ◌*◌, leb, length, take}
use Rattle.std.proofs.Common.{sym, subst}
use Rattle.language.specs.Decode.{decode, described, facility_of, pick}
use Rattle.language.specs.Description.{Description, Facility, is_computed}
use Rattle.language.specs.Encode.{Sections, encode, facility_size}
use Rattle.language.specs.Image.{legal_form, passes}
use Rattle.language.specs.Tree.{Name}
use Rattle.image_sections.proofs.DescribedLaws.{facility-described}
use Rattle.image_sections.specs.Declarations.{facility_in}
use Rattle.image_sections.specs.Names.{facility_part, named}
use Rattle.about_images.specs.Begins.{begins-passes, begins-read, passes-begins}
use Rattle.about_images.specs.Whole.{decode-encode}
use Rattle.about_images.specs.Depth.{bounded}
use Rattle.about_images.specs.Legal.{Plain, bounded-so}
use Rattle.about_images.specs.Ranges.{in-range}

-- What is read has expressions only in computed terminals.
abbrev PlainOne : Facility → Type 0
PlainOne f = is_computed f.kind ≡ false → f.expression ≡ 0

picked : (b : Bool) (x y : Facility) → PlainOne x → PlainOne y → PlainOne (pick b x y)
picked true x y p q = p
picked false x y p q = q

read_plain : (s : List ℕ) (n : ℕ) (name : Name) → PlainOne (facility_in s n name)
unfolding facility_in facility_of
read_plain s n name = picked (leb (facility_size * n + facility_size) (length s)) _ _ (λ e. rw e) (λ e. refl)

described-plain : (x : Sections) → Plain (described x)
described-plain x n l = subst PlainOne (sym (facility-described x n)) (read_plain x.facilities n (named (facility_part x.facilities n) x.names))

pub decoded-plain : (image : List ℕ) → Plain (decode image)
unfolding decode
decoded-plain image = described-plain _

-- The walks over what passes are bounded.
pub passes-bounded : (image : List ℕ) → passes image ≡ true → bounded (decode image) ≡ true
passes-bounded image h = bounded-so (decode image) (passes-begins image h).legal

-- ---- What is written is read back.

pub legal-back : (d : Description) (rest : List ℕ) → legal_form d ≡ true → Plain d → decode (encode d ++ rest) ≡ d
legal-back d rest h p = decode-encode d rest (in-range d h p)

-- ---- Both ways.

pub record Written (image : List ℕ) : Type 0 where
  pub description : Description
  pub legal : legal_form description ≡ true
  pub plain : Plain description
  pub same : take (length (encode description)) image ≡ encode description

pub passes-written : (image : List ℕ) → passes image ≡ true → Written image
passes-written image h =
    let b = passes-begins image h in
    record { description = decode image; legal = b.legal; plain = decoded-plain image; same = b.same }

pub written-passes : (image : List ℕ) → Written image → passes image ≡ true
written-passes image w =
    begins-passes image w.description (in-range w.description w.legal w.plain) (record { legal = w.legal; same = w.same })

pub check-exact : (image : List ℕ) → (passes image ≡ true → Written image) × (Written image → passes image ≡ true)
check-exact image = (passes-written image, written-passes image)

-- It is read as the description that was written.
pub written_read : (image : List ℕ) (w : Written image) → decode image ≡ w.description
written_read image w =
    begins-read image w.description (in-range w.description w.legal w.plain) (record { legal = w.legal; same = w.same })
