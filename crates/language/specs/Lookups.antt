-- What the lookups owe (01, "Refusal numbers": a lookup tests 13, then 6): a facility's or state's name as that part of the lent image, and a facility's declaration and place in the store. They write nothing.
use Rattle.std.specs.Prelude.{cond, List, [], ℕ, ◌+◌, ltb, drop, length, take}
use Rattle.std.proofs.Math.Option.{Option, none, some}
use Rattle.language.specs.Canonical.{total}
use Rattle.language.specs.Decode.{decode, offset_of}
use Rattle.language.specs.Description.{Facility, facility_at, is_computed, state_at}
use Rattle.language.specs.Image.{passes}
use Rattle.language.specs.Layout.{place_in}
use Rattle.language.specs.declared.refusals.Refusal.{Refusal}
use Rattle.language.specs.declared.refusals.Refusal.TheVariants.{BadSubscript, ImageFails}

-- A part of the image.
pub record Part : Type 0 where
  pub offset : ℕ
  pub length : ℕ

pub data NameAnswer : Type 0 where
  named : Part → NameAnswer
  refused : Refusal → NameAnswer

abbrev pub name_lengths : List Facility → ℕ
name_lengths fs = total (λ f. length f.name) fs

-- The names stand one after the other: facilities', operations', states'.
unfoldable pub facility_part : List ℕ → ℕ → Part
facility_part image n =
    let d = decode image in
    record { offset = offset_of 5 image + name_lengths (take n d.facilities); length = length (facility_at d n).name }

unfoldable pub state_part : List ℕ → ℕ → Part
state_part image n =
    let d = decode image in
    record {
      offset = offset_of 5 image + name_lengths d.facilities + total (λ o. length o.name) d.operations + total (λ s. length s.name) (take n d.states);
      length = length (state_at d n).name;
    }

-- 13 where the image does not pass, 6 where there is no such number.
abbrev pub lookup : {A : Type 0} → List ℕ → ℕ → ℕ → (Refusal → A) → A → A
lookup image count n refuse found = cond (passes image) (cond (ltb n count) found (refuse BadSubscript)) (refuse ImageFails)

unfoldable pub facility_name : List ℕ → ℕ → NameAnswer
facility_name image n = lookup image (length (decode image).facilities) n refused (named (facility_part image n))

-- An unnamed state's name is empty and no refusal.
unfoldable pub state_name : List ℕ → ℕ → NameAnswer
state_name image n = lookup image (length (decode image).states) n refused (named (state_part image n))

-- The part itself, empty on refusal.
abbrev pub part_of : List ℕ → NameAnswer → List ℕ
part_of image (named p) = take p.length (drop p.offset image)
part_of image (refused n) = []

pub data FacilityAnswer : Type 0 where
  -- the declaration, and the place in the store, which a computed terminal has not
  declared : Facility → Option ℕ → FacilityAnswer
  unknown : Refusal → FacilityAnswer

unfoldable pub facility : List ℕ → ℕ → FacilityAnswer
facility image n =
    let d = decode image in
    let f = facility_at d n in
    lookup image (length d.facilities) n unknown
    (declared f (cond (is_computed f.kind) none (some (place_in d.facilities n))))
