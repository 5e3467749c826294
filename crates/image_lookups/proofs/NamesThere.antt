-- A name that is looked up in an image that passes is the one that its description has, and empty past the last.
use mathlib.Core.Bool.{Bool, true, false}
use mathlib.Core.List.{List}
use mathlib.Core.Option.{none}
use mathlib.Core.Path.{◌≡◌, refl, sym, ap, ap₂, ◌∙◌}
use Prim.Native.Nat.{ℕ, ◌+◌, ◌*◌, ◌/◌, ◌≤◌}
use native.Mathlib.Omega.{arith}
use borrow.Author.Tests.{leb-false, leb-true}
use lib.Dec.{leb}
use lib.ListN.{get_or-eq_default, drop, length, length-drop, take, take-append-drop}
use lib.Seq.{drop-append-le, drop-drop, take-append-le}
use Rattle.language.specs.Decode.{count_of, decode, facility_of, half_at, offset_of, pick, run_at, section_at, sections_in, value_of}
use Rattle.language.specs.Description.{Facility, State, facility_at, no_facility, no_run, state_at}
use Rattle.language.specs.Image.{passes}
use Rattle.language.specs.Lookups.{Part, facility_name, part_of, state_name}
use Rattle.language.specs.Tree.{Name}
use Rattle.image_sections.proofs.DescribedLaws.{facility-described, state-described}
use Rattle.image_sections.specs.Declarations.{facility_in, none_named, state_in}
use Rattle.image_sections.specs.Header.{counts_in}
use Rattle.image_sections.specs.Names.{facility_part, named, state_part}
use Rattle.image_lookups.proofs.NameLaws.{facility-named, facility-none, facility-within, state-named, state-none, state-within}
use Rattle.image_lookups.proofs.PassLaws.{facilities-counted, facilities-many, operations-counted, states-many}
use Rattle.language.specs.Encode.{facilities_section, facility_size, name_size, names_section, operation_size, operations_section, state_size, states_section}

-- A part of a part.
within : (x : List ℕ) (a m o l : ℕ) → o + l ≤ length (take m (drop a x)) → take l (drop o (take m (drop a x))) ≡ take l (drop (a + o) x)
within x a m o l h =
    let s = take m (drop a x) in
    sym (take-append-le l (drop o s) (drop m (drop a x)) (omega (arith, length-drop o s)))
    ∙ ap (take l) (sym (drop-append-le o s (drop m (drop a x)) (omega arith)) ∙ ap (drop o) (take-append-drop m (drop a x)) ∙ drop-drop o a x)

-- ---- Whatever a record says, its name is the one beside it.

facility-name : (s : List ℕ) (n : ℕ) (name : Name) → (facility_in s n name).name ≡ name
unfolding facility_in facility_of
facility-name s n name = go (leb (facility_size * n + facility_size) (length s))
  where
    go : (b : Bool) → (pick {A = Facility} b (facility_of (facility_size * n) s name) (none_named name)).name ≡ name
    go true = refl
    go false = refl

state-name : (s : List ℕ) (n : ℕ) (name : Name) → (state_in s n name).name ≡ name
unfolding state_in
state-name s n name = go (leb (state_size * n + state_size) (length s))
  where
    go : (b : Bool) → (pick {A = State} b (record { name = name; value = value_of (half_at (state_size * n + 1) s); actions = run_at (state_size * n + 3) s }) (record { name = name; value = none; actions = no_run })).name ≡ name
    go true = refl
    go false = refl

module _ (image : List ℕ) (h : passes image ≡ true) (n : ℕ) where
  -- ---- Facilities.

  facility-is : (facility_at (decode image) n).name ≡ named (facility_part (section_at facilities_section facility_size image) n) (section_at names_section name_size image)
  unfolding decode sections_in
  facility-is = ap (λ (f : Facility). f.name) (facility-described (sections_in image) n) ∙ facility-name (section_at facilities_section facility_size image) n _

  pub facility-name-there : part_of image (facility_name image n) ≡ (facility_at (decode image) n).name
  unfolding facility_at
  facility-name-there = by-test (leb (length (section_at facilities_section facility_size image) / facility_size) n) refl
    where
      by-test : (b : Bool) → leb (length (section_at facilities_section facility_size image) / facility_size) n ≡ b → part_of image (facility_name image n) ≡ (facility_at (decode image) n).name
      by-test true t =
          let past = leb-true (length (section_at facilities_section facility_size image) / facility_size) n t in
          ap (part_of image) (sym (facility-none image n h past))
          ∙ sym (ap (λ (f : Facility). f.name) (get_or-eq_default (decode image).facilities no_facility (omega (arith, facilities-many image, past))))
      by-test false t =
          let l = leb-false (length (section_at facilities_section facility_size image) / facility_size) n t in
          let p = facility_part (section_at facilities_section facility_size image) n in
          ap (part_of image) (sym (facility-named image h n l))
          ∙ (sym (within image (offset_of names_section image) (1 * count_of names_section image) p.offset p.length (facility-within image h n l)) ∙ sym facility-is)

  -- ---- States.

  abbrev part : Part
  part = state_part (section_at facilities_section facility_size image) (counts_in image).facilities (section_at operations_section operation_size image) (counts_in image).operations (section_at states_section state_size image) n

  -- The counts that the header gives are those of the sections.
  state-is : (state_at (decode image) n).name ≡ named part (section_at names_section name_size image)
  unfolding decode sections_in
  state-is =
      ap (λ (s : State). s.name) (state-described (sections_in image) n)
      ∙ (state-name (section_at states_section state_size image) n _
      ∙ ap₂ (λ (i k : ℕ). named (state_part (section_at facilities_section facility_size image) i (section_at operations_section operation_size image) k (section_at states_section state_size image) n) (section_at names_section name_size image))
      (sym (facilities-counted image h)) (sym (operations-counted image h)))

  pub state-name-there : part_of image (state_name image n) ≡ (state_at (decode image) n).name
  unfolding state_at
  state-name-there = by-test (leb (length (section_at states_section state_size image) / state_size) n) refl
    where
      by-test : (b : Bool) → leb (length (section_at states_section state_size image) / state_size) n ≡ b → part_of image (state_name image n) ≡ (state_at (decode image) n).name
      by-test true t =
          let past = leb-true (length (section_at states_section state_size image) / state_size) n t in
          ap (part_of image) (sym (state-none image n h past))
          ∙ sym (ap (λ (s : State). s.name) (get_or-eq_default (decode image).states _ (omega (arith, states-many image, past))))
      by-test false t =
          let l = leb-false (length (section_at states_section state_size image) / state_size) n t in
          ap (part_of image) (sym (state-named image h n l))
          ∙ (sym (within image (offset_of names_section image) (1 * count_of names_section image) part.offset part.length (state-within image h n l)) ∙ sym state-is)
