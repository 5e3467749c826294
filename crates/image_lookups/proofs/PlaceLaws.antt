-- Places of facilities in the store of an image that passes.
use mathlib.Core.Bool.{Bool, true, false, cond, ◌||◌}
use mathlib.Core.List.{List, [], ◌∷◌}
use Rattle.std.specs.Prelude.{Err, Ok}
use mathlib.Core.Option.{none, some}
use mathlib.Core.Path.{◌≡◌, refl, sym, ap, subst, ◌∙◌}
use Prim.Native.Nat.{ℕ, zero, suc, ◌+◌, ◌*◌, ◌/◌, ◌<◌, ◌≤◌}
use native.Mathlib.Omega.{arith}
use borrow.Author.Tests.{leb-true, le-ltb, lt-ltb}
use lib.Dec.{leb}
use lib.ListN.{length}
use Rattle.language.specs.Decode.{decode, number_at, section_at}
use Rattle.language.specs.Description.{Description, Facility, facility_at, facility_place, is_computed, is_sequencing, no_places}
use Rattle.language.specs.Encode.{facilities_section, facility_record, facility_size, little}
use Rattle.language.specs.Image.{passes}
use Rattle.language.specs.Judging.{unless}
use Rattle.language.specs.Layout.{facility_bytes, place_in}
use Rattle.language.specs.Lookups as L
use Rattle.language.specs.declared.refusals.Refusal.{Refusal}
use Rattle.language.specs.declared.refusals.Refusal.TheVariants.{BadSequencing, BadSubscript, CeilingPassed, ImageFails}
use Rattle.language.specs.Rules.{bounds_faults, facilities_faults, facility_faults, first_faults, sequencing_right}
use Rattle.language.specs.Ceilings.{largest_store}
use Rattle.about_running.specs.Judged.{append-none-left, append-none-right, unless-none}
use Rattle.about_running.specs.LegalForm.{after-names, no-faults, or-else-both}
use Rattle.image_records.proofs.NodeBack.{half_back}
use Rattle.image_sections.proofs.DeclarationLaws.{place-whole}
use Rattle.image_sections.specs.Declarations.{FacilityRead, facility_meant, kind_meant}
use Rattle.image_sections.specs.declared.facilities.FacilityRecord as F
use Rattle.about_images.specs.Back.{facility-stands}
use Rattle.image_order.proofs.DeclaredLaws.{facility-is}
use Rattle.image_lookups.proofs.NameLaws.{length-is}
use Rattle.image_lookups.proofs.PassLaws.{facilities-are, facilities-many, held, legal-so, range-so}
use Rattle.call_answers.specs.Lookups.{Looks, answered}

pub store-fits : (d : Description) (n : ℕ) (another : Bool) (before : ℕ) (f : Facility) → facility_faults d no_places n another before f (facility_place no_places n) ≡ []
    → before + facility_bytes f ≤ 16384
unfolding facility_faults largest_store
store-fits d n another before f e =
    let at = facility_place no_places n in
    leb-true (before + facility_bytes f) 16384
    (unless-none (leb (before + facility_bytes f) 16384) at.name CeilingPassed
    (append-none-left _ _ (append-none-right (unless (cond (is_sequencing f.kind) (sequencing_right d no_places another f) true) at.name BadSequencing) _ e)))

-- No facility begins past the largest store.
place-low : (d : Description) (n : ℕ) (another : Bool) (before : ℕ) (fs : List Facility) → facilities_faults d no_places n another before fs ≡ [] → before ≤ 16384
    → (i : ℕ) → i < length fs → before + place_in fs i ≤ 16384
unfolding facilities_faults place_in
place-low d n another before [] e b i h = absurd (omega arith)
place-low d n another before (f ∷ fs) e b zero h = omega arith
place-low d n another before (f ∷ fs) e b (suc i) h =
    let at = facility_place no_places n in
    let own = or-else-both d no_places (bounds_faults d no_places f at) (facility_faults d no_places n another before f at) (append-none-left _ _ e) in
    let m : before + facility_bytes f ≤ 16384 = store-fits d n another before f own in
    let rest = append-none-right (first_faults d no_places (bounds_faults d no_places f at) (facility_faults d no_places n another before f at)) _ e in
    omega (arith, place-low d (suc n) (another || is_sequencing f.kind) (before + facility_bytes f) fs rest m i (omega arith))

module _ (image : List ℕ) (n : ℕ) where
  refused-so : (k : Refusal) → L.unknown k ≡ L.facility image n → Looks image n (Err k)
  refused-so k e = record { facility = e; name = λ f q. absurd (let z : ◌≡◌ {A = ℕ} 0 1 = cc in omega arith) }

  pub lookup-refused : passes image ≡ false → Looks image n (Err ImageFails)
  unfolding L.facility
  lookup-refused e = refused-so ImageFails (rw e)

  pub lookup-none : passes image ≡ true → length (section_at facilities_section facility_size image) / facility_size ≤ n → Looks image n (Err BadSubscript)
  unfolding L.facility
  lookup-none e h = refused-so BadSubscript (rw (e, le-ltb n (length (decode image).facilities) (omega (arith, facilities-many image))))

  module _ (h : passes image ≡ true) (l : n < length (section_at facilities_section facility_size image) / facility_size) where
    inside : n < length (decode image).facilities
    inside = omega (arith, facilities-many image)

    place-half : place_in (decode image).facilities n ≤ 16384
    place-half = omega (arith, place-low (decode image) 0 false 0 (decode image).facilities (append-none-left _ _ (after-names (decode image) (no-faults (decode image) (legal-so image h)))) (omega arith) n inside)

    place_is : is_computed (facility_at (decode image) n).kind ≡ false → number_at 2 (facility_size * n + 11) (section_at facilities_section facility_size image) ≡ place_in (decode image).facilities n
    unfolding facility_record little
    place_is c =
        let d = decode image in
        let s = facility-stands d (range-so image h) n inside in
        let z : facility_size * n + 11 + 1 ≡ facility_size * n + 12 = omega arith in
        rw (facilities-are image h) (half_back _ (facility_size * n + 11) (place_in d.facilities n) (omega (arith, place-half)) (s 11 (omega arith) ∙ rw c) (rw z (s 12 (omega arith) ∙ rw c)))

    module _ {f : F.FacilityRecord} (r : FacilityRead (section_at facilities_section facility_size image) n f) where
      is : facility_at (decode image) n ≡ facility_meant (facility_at (decode image) n).name f
      is = facility-is (decode image) (section_at facilities_section facility_size image) n (held image) r

      kind-is : (facility_at (decode image) n).kind ≡ kind_meant f.kind
      kind-is = ap (λ (g : Facility). g.kind) is

      places : (b : Bool) → is_computed (kind_meant f.kind) ≡ b → cond b none (some f.place) ≡ cond b none (some (place_in (decode image).facilities n))
      places true e = refl
      places false e = ap some (r.place ∙ place-whole (section_at facilities_section facility_size image) n (omega arith) ∙ place_is (ap is_computed kind-is ∙ e))

      pub lookup-declared : answered (facility_at (decode image) n).name (Ok f) ≡ L.facility image n
      unfolding L.facility facility_at
      lookup-declared =
          rw (h, lt-ltb n (length (decode image).facilities) inside, kind-is, places (is_computed (kind_meant f.kind)) refl)
          (ap (λ (g : Facility). L.declared g (cond (is_computed (kind_meant f.kind)) none (some (place_in (decode image).facilities n)))) (sym is))

-- The same of a section in hand.
pub lookup-found : (image : List ℕ) (n : ℕ) {s : List ℕ} {f : F.FacilityRecord} → passes image ≡ true → s ≡ section_at facilities_section facility_size image → n < length s / facility_size → FacilityRead s n f → Looks image n (Ok f)
lookup-found image n {s} {f} h e l r =
    let i : n < length (section_at facilities_section facility_size image) / facility_size = rw e at l in
    let q : FacilityRead (section_at facilities_section facility_size image) n f = subst (λ (t : List ℕ). FacilityRead t n f) e r in
    record {
      facility = lookup-declared image n h i q;
      name = λ g z. let same : f ≡ g = cc in ap (λ (x : F.FacilityRecord). x.name) (sym same) ∙ q.name ∙ length-is image h n i;
    }
