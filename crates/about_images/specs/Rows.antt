-- The sections of a description are rows of records: how long they are, what stands at each number, and when bytes are the section.
use mathlib.Core.List.{List, [], ◌∷◌, ◌++◌}
use Rattle.std.specs.Prelude.{◌≡◌, ℕ, zero, suc, ◌+◌, ◌*◌, ◌<◌, drop, get_or, length, take}
use Rattle.std.proofs.Math.Path.{refl, ap}
use Rattle.std.proofs.Common.{sym, ◌∙◌, arith}
use Rattle.language.specs.Description.{Facility, no_facility}
use Rattle.language.specs.Encode.{concat, facility_record, facility_records, facility_size}
use Rattle.language.specs.Layout.{facility_bytes, place_in}
use Rattle.image_sections.proofs.WrittenDeclarations.{facility-length}
use Rattle.about_images.specs.Running.{place_at, running, running-at, running-is, running-length}

-- ---- Records that stand for themselves.

module _ {A : Type 0} (write : A → List ℕ) where
  concat-running : (p : ℕ) (xs : List A) → concat write xs ≡ running (λ p. write) (λ x. 0) p xs
  unfolding concat running
  concat-running p [] = refl
  concat-running p (x ∷ xs) = ap (λ (t : List ℕ). write x ++ t) (concat-running (p + 0) xs)

  module _ (size : ℕ) (sized : (x : A) → length (write x) ≡ size) where
    pub row-length : (xs : List A) → length (concat write xs) ≡ size * length xs
    row-length xs = ap length (concat-running 0 xs) ∙ running-length (λ p. write) (λ x. 0) size (λ p x. sized x) 0 xs

    pub row_at : (xs : List A) (n : ℕ) (d : A) → n < length xs → take size (drop (size * n) (concat write xs)) ≡ write (get_or xs n d)
    row_at xs n d h =
        ap (λ (s : List ℕ). take size (drop (size * n) s)) (concat-running 0 xs) ∙ running-at (λ p. write) (λ x. 0) size (λ p x. sized x) 0 xs n d h

    pub row_is : (xs : List A) (s : List ℕ) (d : A) → length s ≡ size * length xs
        → ((n : ℕ) → n < length xs → take size (drop (size * n) s) ≡ write (get_or xs n d)) → s ≡ concat write xs
    row_is xs s d l f = running-is (λ p. write) (λ x. 0) size (λ p x. sized x) 0 xs s d l f ∙ sym (concat-running 0 xs)

-- ---- Facilities, each with its place in the store.

facilities-running : (p : ℕ) (fs : List Facility) → facility_records p fs ≡ running facility_record facility_bytes p fs
unfolding facility_records running
facilities-running p [] = refl
facilities-running p (f ∷ fs) = ap (λ (t : List ℕ). facility_record p f ++ t) (facilities-running (p + facility_bytes f) fs)

place-in : (p : ℕ) (fs : List Facility) (n : ℕ) → place_at facility_record facility_bytes p fs n ≡ p + place_in fs n
unfolding place_at place_in
place-in p [] n = omega arith
place-in p (f ∷ fs) zero = omega arith
place-in p (f ∷ fs) (suc n) = place-in (p + facility_bytes f) fs n ∙ omega arith

pub facilities-length : (fs : List Facility) → length (facility_records 0 fs) ≡ facility_size * length fs
facilities-length fs = ap length (facilities-running 0 fs) ∙ running-length facility_record facility_bytes facility_size facility-length 0 fs

pub facilities-at : (fs : List Facility) (n : ℕ) → n < length fs
    → take facility_size (drop (facility_size * n) (facility_records 0 fs)) ≡ facility_record (place_in fs n) (get_or fs n no_facility)
facilities-at fs n h =
    ap (λ (s : List ℕ). take facility_size (drop (facility_size * n) s)) (facilities-running 0 fs)
    ∙ running-at facility_record facility_bytes facility_size facility-length 0 fs n no_facility h
    ∙ ap (λ (p : ℕ). facility_record p (get_or fs n no_facility)) (place-in 0 fs n ∙ omega arith)

pub facilities-are : (fs : List Facility) (s : List ℕ) → length s ≡ facility_size * length fs
    → ((n : ℕ) → n < length fs → take facility_size (drop (facility_size * n) s) ≡ facility_record (place_in fs n) (get_or fs n no_facility)) → s ≡ facility_records 0 fs
facilities-are fs s l f =
    running-is facility_record facility_bytes facility_size facility-length 0 fs s no_facility l
    (λ n h. f n h ∙ ap (λ (p : ℕ). facility_record p (get_or fs n no_facility)) (sym (place-in 0 fs n ∙ omega arith)))
    ∙ sym (facilities-running 0 fs)
