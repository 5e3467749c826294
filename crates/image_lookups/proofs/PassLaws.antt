-- What is known of an image that passes: its sections are those written of what it describes.
use mathlib.Core.Bool.{true}
use mathlib.Core.List.{List}
use mathlib.Core.Path.{◌≡◌, ap}
use Prim.Native.Nat.{ℕ, ◌/◌, ◌^◌, ◌<◌}
use native.Mathlib.Omega.{arith}
use lib.ListN.{length, length-append}
use Rattle.language.specs.Decode.{decode, section_at, sections_in}
use Rattle.language.specs.Encode.{Sections, concat, encode, facilities_section, facility_records, facility_size, name_bytes, name_size, names_section, operation_record, operation_size, operations_section, sections_of, state_record, state_size, states_section}
use Rattle.language.specs.Image.{legal_form, passes}
use Rattle.image_sections.proofs.DescribedLaws.{facilities-count, states-count}
use Rattle.image_sections.proofs.ImageLaws.{Sized, header-sized, image-header}
use Rattle.image_sections.specs.Header.{counts_in}
use Rattle.about_images.specs.Back.{InRange}
use Rattle.about_images.specs.Begins.{passes-begins}
use Rattle.about_images.specs.Whole.{found, right-header}
use Rattle.image_order.proofs.HoldsLaws.{facilities-held}
use Rattle.image_order.specs.Holds.{Facilities}
use Rattle.about_images.specs.CheckExact.{decoded-plain}
use Rattle.about_images.specs.Ranges.{in-range}

module _ (image : List ℕ) where
  pub facilities-many : length (decode image).facilities ≡ length (section_at facilities_section facility_size image) / facility_size
  unfolding decode sections_in
  facilities-many = facilities-count (sections_in image)

  pub states-many : length (decode image).states ≡ length (section_at states_section state_size image) / state_size
  unfolding decode sections_in
  states-many = states-count (sections_in image)

  pub held : Facilities (decode image) (section_at facilities_section facility_size image)
  unfolding decode sections_in
  held = facilities-held (sections_in image)

  module _ (h : passes image ≡ true) where
    pub legal-so : legal_form (decode image) ≡ true
    legal-so = (passes-begins image h).legal

    pub range-so : InRange (decode image)
    range-so = in-range (decode image) legal-so (decoded-plain image)

    sections-so : sections_in image ≡ sections_of (decode image)
    sections-so = found (decode image) image range-so.whole (passes-begins image h).same

    pub facilities-are : section_at facilities_section facility_size image ≡ facility_records 0 (decode image).facilities
    unfolding sections_in sections_of
    facilities-are = ap (λ (x : Sections). x.facilities) sections-so

    pub operations-are : section_at operations_section operation_size image ≡ concat operation_record (decode image).operations
    unfolding sections_in sections_of
    operations-are = ap (λ (x : Sections). x.operations) sections-so

    pub states-are : section_at states_section state_size image ≡ concat state_record (decode image).states
    unfolding sections_in sections_of
    states-are = ap (λ (x : Sections). x.states) sections-so

    pub names-are : section_at names_section name_size image ≡ name_bytes (decode image)
    unfolding sections_in sections_of
    names-are = ap (λ (x : Sections). x.names) sections-so

    sized-so : Sized (sections_in image) (counts_in image)
    sized-so = header-sized image (right-header (decode image) image range-so.whole (passes-begins image h).same)

    -- The names are a part of the image.
    pub names-short : length (section_at names_section name_size image) < 2 ^ 32
    unfolding encode sections_in
    names-short =
        let w = rw (← sections-so) at range-so.whole in
        omega (arith, w, simp length-append at (ap length (image-header (sections_in image) (counts_in image) sized-so)))

    pub facilities-counted : (counts_in image).facilities ≡ length (section_at facilities_section facility_size image) / facility_size
    unfolding sections_in
    facilities-counted = omega (arith, sized-so.facilities)

    pub operations-counted : (counts_in image).operations ≡ length (section_at operations_section operation_size image) / operation_size
    unfolding sections_in
    operations-counted = omega (arith, sized-so.operations)
