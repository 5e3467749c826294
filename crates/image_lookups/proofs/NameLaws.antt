-- Where names stand in an image that passes.
use mathlib.Core.Bool.{true, false}
use mathlib.Core.List.{List, [], ◌∷◌}
use mathlib.Core.Option.{none}
use mathlib.Core.Path.{◌≡◌, ap, ◌∙◌}
use Prim.Native.Nat.{ℕ, zero, suc, ◌+◌, ◌*◌, ◌/◌, ◌^◌, ◌<◌, ◌≤◌}
use native.Mathlib.Omega.{arith}
use borrow.Author.Tests.{le-ltb, lt-ltb}
use lib.ListN.{get_or, length, take, length-append}
use Rattle.language.specs.Canonical.{total}
use Rattle.language.specs.Decode.{decode, names_length, offset_of, section_at}
use Rattle.language.specs.Description.{Facility, Operation, State, facility_at, no_facility, no_run, state_at}
use Rattle.language.specs.Encode.{concat, facilities_section, facility_size, name_bytes, name_size, names_section, operation_size, operations_section, state_size, states_section}
use Rattle.language.specs.Image.{passes}
use Rattle.language.specs.Lookups as L
use Rattle.language.specs.Lookups.{facility_name, state_name}
use Rattle.image_sections.proofs.DeclarationLaws.{name-first, name-whole}
use Rattle.image_sections.specs.Declarations.{name_length_in}
use Rattle.image_sections.specs.Header.{counts_in}
use Rattle.image_sections.specs.Names as I
use Rattle.image_sections.specs.Names.{part_meant}
use Rattle.image_sections.specs.declared.names.Part.{Part}
use Rattle.image_sections.specs.declared.header.Counts.{Counts}
use Rattle.about_images.specs.Back.{all-facilities, all-operations, facility-byte, facility-names, state-byte, state-names}
use Rattle.about_images.specs.Names.{names-length, names_of}
use Rattle.image_lookups.proofs.PassLaws.{facilities-are, facilities-counted, facilities-many, names-are, names-short, operations-are, operations-counted, range-so, states-are, states-many}
use Rattle.language.specs.declared.refusals.Refusal.TheVariants.{BadSubscript, ImageFails}

names-upto : {A : Type 0} (name : A → List ℕ) (z : A) (xs : List A) (n : ℕ) → n < length xs → names_of name (take n xs) + length (name (get_or xs n z)) ≤ length (concat name xs)
unfolding total concat
names-upto name z [] n h = absurd (omega arith)
names-upto name z (x ∷ xs) zero h = omega (arith, length-append (name x) (concat name xs))
names-upto name z (x ∷ xs) (suc n) h = omega (arith, names-upto name z xs n (omega arith), length-append (name x) (concat name xs))

-- A part of the names as a part of the image.
abbrev pub in_image : List ℕ → L.Part → L.NameAnswer
in_image image p = L.named (record { offset = offset_of names_section image + p.offset; length = p.length })

-- ---- Refusals.

module _ (image : List ℕ) (n : ℕ) where
  pub facility-refused : passes image ≡ false → L.refused ImageFails ≡ facility_name image n
  unfolding facility_name
  facility-refused e = rw e

  pub facility-none : passes image ≡ true → length (section_at facilities_section facility_size image) / facility_size ≤ n → L.refused BadSubscript ≡ facility_name image n
  unfolding facility_name
  facility-none e h = rw (e, le-ltb n (length (decode image).facilities) (omega (arith, facilities-many image)))

  pub state-refused : passes image ≡ false → L.refused ImageFails ≡ state_name image n
  unfolding state_name
  state-refused e = rw e

  pub state-none : passes image ≡ true → length (section_at states_section state_size image) / state_size ≤ n → L.refused BadSubscript ≡ state_name image n
  unfolding state_name
  state-none e h = rw (e, le-ltb n (length (decode image).states) (omega (arith, states-many image)))

module _ (image : List ℕ) (h : passes image ≡ true) (n : ℕ) where
  abbrev names : List ℕ
  names = section_at names_section name_size image

  long : length names ≡ length (concat (λ (f : Facility). f.name) (decode image).facilities) + (length (concat (λ (o : Operation). o.name) (decode image).operations) + length (concat (λ (s : State). s.name) (decode image).states))
  unfolding name_bytes
  long = ap length (names-are image h) ∙ simp length-append

  -- ---- Facilities.

  module _ (l : n < length (section_at facilities_section facility_size image) / facility_size) where
    inside : n < length (decode image).facilities
    inside = omega (arith, facilities-many image)

    offset-is : names_length n 2 facility_size (section_at facilities_section facility_size image) ≡ L.name_lengths (take n (decode image).facilities)
    offset-is = ap (names_length n 2 facility_size) (facilities-are image h) ∙ facility-names (decode image) (range-so image h) n (omega (arith, inside))

    pub length-is : name_length_in facility_size 2 (section_at facilities_section facility_size image) n ≡ length (facility_at (decode image) n).name
    length-is =
        name-whole facility_size 2 (section_at facilities_section facility_size image) n (omega arith)
        ∙ ap (λ (s : List ℕ). get_or s (facility_size * n + 2) 0) (facilities-are image h) ∙ facility-byte (decode image) (range-so image h) n inside

    facility-fits : L.name_lengths (take n (decode image).facilities) + length (facility_at (decode image) n).name ≤ length names
    unfolding facility_at
    facility-fits = omega (arith, long, names-upto (λ (f : Facility). f.name) no_facility (decode image).facilities n inside)

    pub facility-within : (I.facility_part (section_at facilities_section facility_size image) n).offset + (I.facility_part (section_at facilities_section facility_size image) n).length ≤ length names
    unfolding I.facility_part
    facility-within = omega (arith, offset-is, length-is, facility-fits)

    pub facility-short : (I.facility_part (section_at facilities_section facility_size image) n).offset < 2 ^ 32
    unfolding I.facility_part
    facility-short = omega (arith, offset-is, facility-fits, names-short image h)

    pub facility-named : in_image image (I.facility_part (section_at facilities_section facility_size image) n) ≡ facility_name image n
    unfolding facility_name L.facility_part I.facility_part
    facility-named = rw (h, lt-ltb n (length (decode image).facilities) inside, offset-is, length-is)

  -- ---- States.

  module _ (l : n < length (section_at states_section state_size image) / state_size) where
    state-inside : n < length (decode image).states
    state-inside = omega (arith, states-many image)

    first-is : names_length (counts_in image).facilities 2 facility_size (section_at facilities_section facility_size image) ≡ L.name_lengths (decode image).facilities
    first-is =
        rw (facilities-counted image h)
        (ap (λ (s : List ℕ). names_length (length s / facility_size) 2 facility_size s) (facilities-are image h) ∙ all-facilities (decode image) (range-so image h)
        ∙ names-length (λ (f : Facility). f.name) (decode image).facilities)

    second_is : names_length (counts_in image).operations 0 operation_size (section_at operations_section operation_size image) ≡ total (λ (o : Operation). length o.name) (decode image).operations
    second_is =
        rw (operations-counted image h)
        (ap (λ (s : List ℕ). names_length (length s / operation_size) 0 operation_size s) (operations-are image h) ∙ all-operations (decode image) (range-so image h)
        ∙ names-length (λ (o : Operation). o.name) (decode image).operations)

    third-is : names_length n 0 state_size (section_at states_section state_size image) ≡ total (λ (s : State). length s.name) (take n (decode image).states)
    third-is = ap (names_length n 0 state_size) (states-are image h) ∙ state-names (decode image) (range-so image h) n (omega (arith, state-inside))

    label_is : name_length_in state_size 0 (section_at states_section state_size image) n ≡ length (state_at (decode image) n).name
    label_is =
        name-first 7 (section_at states_section state_size image) n (omega arith)
        ∙ ap (λ (s : List ℕ). get_or s (state_size * n) 0) (states-are image h) ∙ state-byte (decode image) (range-so image h) n state-inside

    -- Where the label begins among the names.
    abbrev from : ℕ
    from = L.name_lengths (decode image).facilities + total (λ (o : Operation). length o.name) (decode image).operations
        + total (λ (s : State). length s.name) (take n (decode image).states)

    state-fits : from + length (state_at (decode image) n).name ≤ length names
    unfolding state_at
    state-fits =
        omega (
          arith,
          long,
          names-length (λ (f : Facility). f.name) (decode image).facilities,
          names-length (λ (o : Operation). o.name) (decode image).operations,
          names-upto (λ (s : State). s.name) (record { name = []; value = none; actions = no_run }) (decode image).states n state-inside,
        )

    abbrev part : L.Part
    part = I.state_part (section_at facilities_section facility_size image) (counts_in image).facilities (section_at operations_section operation_size image) (counts_in image).operations (section_at states_section state_size image) n

    pub state-within : part.offset + part.length ≤ length names
    unfolding I.state_part
    state-within = omega (arith, first-is, second_is, third-is, label_is, state-fits)

    pub state-short : part.offset < 2 ^ 32
    unfolding I.state_part
    state-short = omega (arith, first-is, second_is, third-is, state-fits, names-short image h)

    pub state-named : in_image image part ≡ state_name image n
    unfolding state_name L.state_part I.state_part
    state-named =
        let e : offset_of names_section image + from
        ≡ offset_of names_section image + L.name_lengths (decode image).facilities + total (λ (o : Operation). length o.name) (decode image).operations
        + total (λ (s : State). length s.name) (take n (decode image).states) = omega arith in
        rw (h, lt-ltb n (length (decode image).states) state-inside, first-is, second_is, third-is, label_is, ← e)

-- ---- The same of sections in hand.

module _ (image : List ℕ) (h : passes image ≡ true) (n : ℕ) {f : List ℕ} {p : Part} (e : f ≡ section_at facilities_section facility_size image) (l : n < length f / facility_size) (q : part_meant p ≡ I.facility_part f n) where
  pub facility-below : p.offset < 2 ^ 32
  facility-below = rw (ap (λ (x : L.Part). x.offset) q, e) (facility-short image h n (rw e at l))

  pub facility-found : in_image image (part_meant p) ≡ facility_name image n
  facility-found = ap (in_image image) q ∙ rw e (facility-named image h n (rw e at l))

module _ (image : List ℕ) (h : passes image ≡ true) (n : ℕ) {f o s : List ℕ} {c : Counts} {p : Part} (e : f ≡ section_at facilities_section facility_size image) (g : o ≡ section_at operations_section operation_size image) (k : s ≡ section_at states_section state_size image) (m : c ≡ counts_in image) (l : n < length s / state_size)
    (q : part_meant p ≡ I.state_part f c.facilities o c.operations s n) where
  pub state-below : p.offset < 2 ^ 32
  state-below = rw (ap (λ (x : L.Part). x.offset) q, m, e, g, k) (state-short image h n (rw k at l))

  pub state-found : in_image image (part_meant p) ≡ state_name image n
  state-found = ap (in_image image) q ∙ rw (m, e, g, k) (state-named image h n (rw k at l))
