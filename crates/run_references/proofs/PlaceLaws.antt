-- The place that a reference names: when it has one, whose it is, and what is loaded from there.
use mathlib.Core.Bool.{Bool, true, false, cond}
use mathlib.Core.List.{List, []}
use mathlib.Core.Path.{◌≡◌, refl, sym, ap, ◌∙◌}
use Prim.Native.Nat.{ℕ, ◌+◌, ◌*◌, ◌/◌, ◌≤◌, ◌<◌}
use native.Mathlib.Omega.{arith}
use borrow.Author.Tests.{le-leb, le-ltb, lt-ltb, ltb-false, ltb-true}
use lib.Dec.{eqb, leb, ltb}
use lib.ListN.{length}
use Rattle.language.specs.Description as D
use Rattle.language.specs.Description.{Description, facility_at, from_first, in_bounds, is_computed, word_length}
use Rattle.language.specs.Encode.{facility_size}
use Rattle.language.specs.Layout.{place_in, word_bytes}
use Rattle.language.specs.Meaning as M
use Rattle.language.specs.Meaning.{Answer, Located, Place, located, place_of, read_at, up_to_longest}
use Rattle.language.specs.References as R
use Rattle.language.specs.References.{Reference, right_count, same_direction}
use Rattle.language.specs.declared.stops.Stop.TheVariants.{OutsideBounds}
use Rattle.language.specs.Tree.{Name}
use Rattle.language.specs.Value as L
use Rattle.language.specs.Ceilings.{longest}
use Rattle.image_sections.specs.Declarations.{FacilityRead, facility_meant}
use Rattle.image_sections.specs.declared.facilities.FacilityRecord.{FacilityRecord}
use Rattle.store_layout.specs.InBytes.{InBytes, bytes, load_bytes, place_of_word}
use Rattle.store_layout.specs.Parts.{loaded}
use Rattle.store_geometry.specs.Subscripts.{subscripts_meant}
use Rattle.store_geometry.specs.declared.subscripts.Subscripts.{Subscripts}
use Rattle.store_geometry.specs.declared.subscripts.Subscripts.TheVariants as S
use Rattle.run_references.specs.Described.{Describes}
use Rattle.run_references.specs.Places.{bit_of, first_of, refers_to}
use Rattle.run_references.specs.declared.worth.Halted.{Halted}
use Rattle.std.specs.Prelude.{Err, Ok, Result}
use Rattle.language.specs.Tests.{both}

-- ---- When a reference has a place.

module _ (d : Description) (ev : ℕ → Answer) (r : Reference) where
  pub no-facility : length d.facilities ≤ r.facility → place_of d ev r ≡ Located.stuck M.no_facility
  unfolding place_of
  no-facility h = rw (le-ltb r.facility (length d.facilities) h)

  module _ (l : r.facility < length d.facilities) (f : D.Facility) (e : facility_at d r.facility ≡ f) where
    pub wrong-subscripts : right_count f.dimensions r.subscripts ≡ false → place_of d ev r ≡ Located.stuck M.wrong_subscripts
    unfolding place_of
    wrong-subscripts q = rw (lt-ltb r.facility (length d.facilities) l, e, q)

    pub right-subscripts : right_count f.dimensions r.subscripts ≡ true → place_of d ev r ≡ located ev r.facility f r.subscripts
    unfolding place_of
    right-subscripts q = rw (lt-ltb r.facility (length d.facilities) l, e, q)

-- ---- Whose place it is.

module _ (n : ℕ) where
  abbrev Of : Located → Type 0
  Of (Located.at p) = p.facility ≡ n
  Of (Located.stops k) = Unit {0}
  Of (Located.stuck s) = Unit {0}

  of_either : (b : Bool) (l m : Located) → Of l → Of m → Of (cond b l m)
  of_either true l m p q = p
  of_either false l m p q = q

  of_narrow : (w a c : ℕ) → Of (up_to_longest (M.place n w a c))
  of_narrow w a c = of_either (leb c longest) (Located.at (M.place n w a c)) (Located.stuck M.wrong_length) refl tt

  of-subscript : (a : Answer) (b : D.Bounds) (on : ℕ → Located) → ((k : ℕ) → Of (on k)) → Of (M.subscript a b on)
  of-subscript (Answer.is v) b on h = of_either (in_bounds b v.number) (on (from_first b v.number)) (Located.stops OutsideBounds) (h (from_first b v.number)) tt
  of-subscript (Answer.stops k) b on h = tt
  of-subscript (Answer.stuck s) b on h = tt

  of_part : (b x : D.Bounds) (on : ℕ → ℕ → Located) → ((k c : ℕ) → Of (on k c)) → Of (M.constant_part b x on)
  of_part b x on h =
      of_either (both (in_bounds b x.first) (both (in_bounds b x.last) (same_direction b x))) (on (from_first b x.first) (D.span_of x)) (Located.stuck M.outside)
      (h (from_first b x.first) (D.span_of x)) tt

  of-located : (ev : ℕ → Answer) (f : D.Facility) (s : R.Subscripts) → Of (located ev n f s)
  unfolding located
  of-located ev f R.whole = of_narrow 0 0 (word_length f)
  of-located ev f (R.one e) =
      of_either (eqb f.dimensions 1) (M.subscript (ev e) f.bits (λ b. up_to_longest (M.place n 0 b 1)))
      (M.subscript (ev e) f.words (λ w. up_to_longest (M.place n w 0 (word_length f))))
      (of-subscript (ev e) f.bits (λ b. up_to_longest (M.place n 0 b 1)) (λ b. of_narrow 0 b 1))
      (of-subscript (ev e) f.words (λ w. up_to_longest (M.place n w 0 (word_length f))) (λ w. of_narrow w 0 (word_length f)))
  of-located ev f (R.part x) = of_part f.bits x (λ b c. up_to_longest (M.place n 0 b c)) (λ b c. of_narrow 0 b c)
  of-located ev f (R.two e g) =
      of-subscript (ev e) f.words (λ w. M.subscript (ev g) f.bits (λ b. up_to_longest (M.place n w b 1)))
      (λ w. of-subscript (ev g) f.bits (λ b. up_to_longest (M.place n w b 1)) (λ b. of_narrow w b 1))
  of-located ev f (R.word_part e x) =
      of-subscript (ev e) f.words (λ w. M.constant_part f.bits x (λ b c. up_to_longest (M.place n w b c)))
      (λ w. of_part f.bits x (λ b c. up_to_longest (M.place n w b c)) (λ b c. of_narrow w b c))

module _ (d : Description) (ev : ℕ → Answer) (r : Reference) (p : Place) (e : place_of d ev r ≡ Located.at p) where
  -- A place is that of the facility referred to, which is there.
  pub place-there : r.facility < length d.facilities
  unfolding place_of
  place-there = by-test (ltb r.facility (length d.facilities)) refl
    where
      by-test : (b : Bool) → ltb r.facility (length d.facilities) ≡ b → r.facility < length d.facilities
      by-test true t = ltb-true r.facility (length d.facilities) t
      by-test false t =
          let q : Located.stuck M.no_facility ≡ Located.at p = sym (no-facility d ev r (ltb-false r.facility (length d.facilities) t)) ∙ e in
          absurd (let z : ◌≡◌ {A = ℕ} 0 1 = cc in omega arith)

  pub place-of-facility : p.facility ≡ r.facility
  place-of-facility = by_count (right_count (facility_at d r.facility).dimensions r.subscripts) refl
    where
      by_count : (b : Bool) → right_count (facility_at d r.facility).dimensions r.subscripts ≡ b → p.facility ≡ r.facility
      by_count true t =
          rw (sym (right-subscripts d ev r place-there (facility_at d r.facility) refl t) ∙ e) at (of-located r.facility ev (facility_at d r.facility) r.subscripts)
      by_count false t =
          let q : Located.stuck M.wrong_subscripts ≡ Located.at p = sym (wrong-subscripts d ev r place-there (facility_at d r.facility) refl t) ∙ e in
          absurd (let z : ◌≡◌ {A = ℕ} 0 1 = cc in omega arith)

-- ---- What is known of a facility that was read.

module _ {d : Description} {F E : List ℕ} (h : Describes d F E) (n : ℕ) (f : FacilityRecord) (g : FacilityRead F n f) where
  -- The name that it bears in the description.
  abbrev pub name_of : Name
  name_of = (h.facilities n).name

  pub facility-known : facility_at d n ≡ facility_meant name_of f
  facility-known = (h.facilities n).is ∙ sym (g.meaning name_of)

  module _ (ev : ℕ → Answer) (s : Subscripts) where
    pub none_read : length F / facility_size ≤ n → place_of d ev (refers_to n s) ≡ Located.stuck M.no_facility
    none_read l = no-facility d ev (refers_to n s) (rw h.count l)

    module _ (l : n < length F / facility_size) where
      pub miscounted : right_count f.dimensions (subscripts_meant s) ≡ false → place_of d ev (refers_to n s) ≡ Located.stuck M.wrong_subscripts
      miscounted q = wrong-subscripts d ev (refers_to n s) (rw h.count l) (facility_meant name_of f) facility-known q

      pub counted : right_count f.dimensions (subscripts_meant s) ≡ true → place_of d ev (refers_to n s) ≡ located ev n (facility_meant name_of f) (subscripts_meant s)
      counted q = right-subscripts d ev (refers_to n s) (rw h.count l) (facility_meant name_of f) facility-known q

  module _ (l : n < length d.facilities) (k : is_computed (facility_meant name_of f).kind ≡ false) where
    pub stored-place : f.place ≡ place_in d.facilities n
    stored-place = g.place ∙ h.places n l (ap (λ (y : D.Facility). is_computed y.kind) facility-known ∙ k)

    -- The first byte of one of its words.
    pub stored-word : (w : ℕ) → f.place + w * word_bytes (word_length (facility_meant name_of f)) ≡ place_of_word d.facilities n w
    unfolding place_of_word facility_at
    stored-word w =
        ap (λ (z : ℕ). z + w * word_bytes (word_length (facility_meant name_of f))) stored-place
        ∙ sym (ap (λ (y : D.Facility). place_in d.facilities n + w * word_bytes (word_length y)) facility-known)

    pub stored-load : (B : List ℕ) (w a c : ℕ)
        → (loaded B (f.place + w * word_bytes (word_length (facility_meant name_of f))) (word_length (facility_meant name_of f)) a c).number ≡ load_bytes d B (M.place n w a c)
    unfolding load_bytes
    stored-load B w a c =
        ap (λ (z : ℕ). (loaded B z (word_length (facility_meant name_of f)) a c).number) (stored-word w)
        ∙ sym (ap (λ (y : D.Facility). (loaded B (place_of_word d.facilities n w) (word_length y) a c).number) facility-known)

-- The place of a whole facility.
pub whole-place : {d : Description} {F E : List ℕ} (h : Describes d F E) (n : ℕ) (f : FacilityRecord) (g : FacilityRead F n f) (ev : ℕ → Answer) → n < length F / facility_size → f.dimensions ≤ 1
    → word_length (facility_meant (name_of h n f g) f) ≤ 256 → place_of d ev (refers_to n S.Whole) ≡ Located.at (M.place n 0 0 (word_length (facility_meant (name_of h n f g) f)))
unfolding located right_count longest
whole-place h n f g ev l p q = counted h n f g ev S.Whole l (le-leb f.dimensions 1 p) ∙ rw (le-leb (word_length (facility_meant (name_of h n f g) f)) 256 q) refl

-- A facility that is read twice has the same subscripts to be worked out.
module _ {F : List ℕ} {n : ℕ} (f g : FacilityRecord) (p : FacilityRead F n f) (q : FacilityRead F n g) where
  meant-once : facility_meant [] f ≡ facility_meant [] g
  meant-once = p.meaning [] ∙ sym (q.meaning [])

  same-words : f.words ≡ g.words
  same-words = ap (λ (y : D.Facility). record { first = y.words.first; last = y.words.last }) meant-once

  same_bits : f.bits ≡ g.bits
  same_bits = ap (λ (y : D.Facility). record { first = y.bits.first; last = y.bits.last }) meant-once

  pub first-once : (s : Subscripts) → first_of f s ≡ first_of g s
  first-once S.Whole = refl
  first-once (S.One e) = rw (ap (λ (y : D.Facility). y.dimensions) meant-once, same_bits, same-words)
  first-once (S.Part b) = refl
  first-once (S.Two e k) = rw same-words
  first-once (S.WordPart e b) = rw same-words

  pub bit-once : (k : ℕ) (d : Result ℕ Halted) → bit_of f k d ≡ bit_of g k d
  bit-once k (Ok w) = rw same_bits
  bit-once k (Err h) = refl

-- ---- What is read there.

module _ (d : Description) (x : InBytes) (ev : ℕ → Answer) (name : Name) (f : FacilityRecord) (p : Place) where
  pub computed-read : is_computed (facility_meant name f).kind ≡ true
      → read_at (bytes d) d x ev (facility_meant name f) p ≡ M.after (ev f.place) (M.part_of_value (bytes d) d x (facility_meant name f) p)
  computed-read z = rw z

  pub stored-read : is_computed (facility_meant name f).kind ≡ false
      → read_at (bytes d) d x ev (facility_meant name f) p ≡ Answer.is (L.value p.count (load_bytes d x.bytes p))
  stored-read z = rw z
