-- A name stands within the total length of its image, which has 32 bits.
use mathlib.Core.Bool.{Bool, true, false, cond}
use mathlib.Core.List.{List, [], ◌∷◌}
use mathlib.Core.Option.{none}
use mathlib.Core.Path.{◌≡◌, refl, sym, ap, ◌∙◌}
use Prim.Native.Nat.{ℕ, zero, suc, ◌+◌, ◌/◌, ◌%◌, ◌^◌, ◌<◌, ◌≤◌}
use native.Mathlib.Omega.{arith}
use borrow.Author.Tests.{ltb-true}
use lib.Dec.{ltb}
use lib.ListN.{get_or, length, take, length-append}
use lib.Seq.{get_or-take}
use Rattle.language.specs.Canonical.{total}
use Rattle.language.specs.Decode.{decode, number_at, offset_of, section_at, sections_in}
use Rattle.language.specs.Description.{Facility, Operation, State, facility_at, no_facility, no_run, state_at}
use Rattle.language.specs.Encode.{header_size, little, name_bytes, name_size, names_section}
use Rattle.language.specs.Image.{passes}
use Rattle.language.specs.Lookups as L
use Rattle.language.specs.Lookups.{facility_name, state_name}
use Rattle.language.specs.RecordBytes.{fours}
use Rattle.image_sections.proofs.ImageLaws.{Right, header-sized, right-parts, total-below}
use Rattle.image_sections.specs.Header.{counts_in, header_numbers, header_right, names_from}
use Rattle.image_sections.specs.declared.header.Counts.{Counts}
use Rattle.about_images.specs.Begins.{passes-begins}
use Rattle.about_images.specs.Names.{names-length, names_of}
use Rattle.about_images.specs.Whole.{right-header}
use Rattle.image_lookups.proofs.PassLaws.{names-are, range-so}
use Rattle.call_answers.specs.Numbers.{Short}
use Rattle.language.specs.declared.refusals.Refusal.TheVariants.{BadSubscript, ImageFails}

-- The names before the n-th, and it, are among all.
upto : {A : Type 0} (name : A → List ℕ) (z : A) (xs : List A) (n : ℕ) → n < length xs → names_of name (take n xs) + length (name (get_or xs n z)) ≤ names_of name xs
unfolding total
upto name z [] n h = absurd (omega arith)
upto name z (x ∷ xs) zero h = omega arith
upto name z (x ∷ xs) (suc n) h = omega (arith, upto name z xs n (omega arith))

-- The header says where the names begin.
module _ (s : List ℕ) (c : Counts) (stands : take header_size s ≡ fours (header_numbers c)) where
  byte : (i : ℕ) → i < header_size → get_or s i 0 ≡ get_or (fours (header_numbers c)) i 0
  byte i h = sym (get_or-take header_size s i 0 h) ∙ ap (λ (l : List ℕ). get_or l i 0) stands

  names-from : offset_of names_section s ≤ names_from c
  unfolding number_at fours little header_numbers
  names-from =
      let b0 : get_or s 48 0 ≡ names_from c % 256 = byte 48 (omega arith) in
      let b1 : get_or s 49 0 ≡ names_from c / 256 % 256 = byte 49 (omega arith) in
      let b2 : get_or s 50 0 ≡ names_from c / 256 / 256 % 256 = byte 50 (omega arith) in
      let b3 : get_or s 51 0 ≡ names_from c / 256 / 256 / 256 % 256 = byte 51 (omega arith) in
      omega arith

module _ (image : List ℕ) (h : passes image ≡ true) where
  header-so : header_right image ≡ true
  header-so = right-header (decode image) image (range-so image h).whole (passes-begins image h).same

  names-long : length (section_at names_section name_size image) ≡ (counts_in image).names
  unfolding sections_in
  names-long = (header-sized image header-so).names

  names-all : length (section_at names_section name_size image) ≡ names_of (λ (f : Facility). f.name) (decode image).facilities + (names_of (λ (o : Operation). o.name) (decode image).operations + names_of (λ (s : State). s.name) (decode image).states)
  unfolding name_bytes
  names-all =
      ap length (names-are image h)
      ∙ simp (length-append, names-length (λ (f : Facility). f.name) (decode image).facilities, names-length (λ (o : Operation). o.name) (decode image).operations, names-length (λ (s : State). s.name) (decode image).states)

  below : offset_of names_section image + length (section_at names_section name_size image) < 2 ^ 32
  below =
      let r : Right image = right-parts image header-so in
      omega (arith, names-long, names-from image (counts_in image) r.stands, r.total, total-below image (counts_in image) r.stands)

-- ---- Answers.

pub facility-short : (image : List ℕ) (n : ℕ) → Short (facility_name image n)
unfolding facility_name L.facility_part facility_at
facility-short image n = by-pass (passes image) refl
  where
    by_count : passes image ≡ true → (b : Bool) → ltb n (length (decode image).facilities) ≡ b → Short (cond b (L.named (L.facility_part image n)) (L.refused BadSubscript))
    by_count h true t =
        let u = upto (λ (f : Facility). f.name) no_facility (decode image).facilities n (ltb-true n (length (decode image).facilities) t) in
        (omega (arith, u, names-all image h, below image h), omega (arith, u, names-all image h, below image h))
    by_count h false t = tt

    by-pass : (b : Bool) → passes image ≡ b → Short (cond b (cond (ltb n (length (decode image).facilities)) (L.named (L.facility_part image n)) (L.refused BadSubscript)) (L.refused ImageFails))
    by-pass true h = by_count h (ltb n (length (decode image).facilities)) refl
    by-pass false h = tt

pub state-short : (image : List ℕ) (n : ℕ) → Short (state_name image n)
unfolding state_name L.state_part state_at
state-short image n = by-pass (passes image) refl
  where
    by_count : passes image ≡ true → (b : Bool) → ltb n (length (decode image).states) ≡ b → Short (cond b (L.named (L.state_part image n)) (L.refused BadSubscript))
    by_count h true t =
        let u = upto (λ (s : State). s.name) (record { name = []; value = none; actions = no_run }) (decode image).states n (ltb-true n (length (decode image).states) t) in
        (omega (arith, u, names-all image h, below image h), omega (arith, u, names-all image h, below image h))
    by_count h false t = tt

    by-pass : (b : Bool) → passes image ≡ b → Short (cond b (cond (ltb n (length (decode image).states)) (L.named (L.state_part image n)) (L.refused BadSubscript)) (L.refused ImageFails))
    by-pass true h = by_count h (ltb n (length (decode image).states)) refl
    by-pass false h = tt
