-- The length of the first sequencing register.
use mathlib.Core.Bool.{Bool, true, false}
use mathlib.Core.List.{List}
use mathlib.Core.Option.{Option, none, some}
use mathlib.Core.Path.{◌≡◌, refl, sym, ap, ◌∙◌}
use native.Mathlib.Numerals.{add-one}
use native.Mathlib.Omega.{arith}
use Prim.Native.Nat.{ℕ, ◌+◌, ◌/◌, ◌<◌, ◌≤◌}
use lib.ListN.{drop, drop_of_length-le, length}
use lib.Seq.{drop-cons}
use Rattle.image_sections.specs.Declarations.{kind_meant}
use Rattle.language.specs.Description.{Description, Facility, Places, facility_at, is_sequencing, no_facility, sequencing_from, sequencing_of, word_length}
use Rattle.language.specs.Rules.{length_if_any, sequencing_length}
use Rattle.language.specs.Tree.{Name}
use Rattle.judge_records.specs.Read.{FacilityRead, facility_meant}
use Rattle.judge_records.specs.declared.facilities.Facility as N
use Rattle.std.specs.Prelude as C
use Rattle.judge_all.specs.InSlices.{Declared}
use Rattle.judge_all.specs.Stated.{wanted_length}
use Rattle.language.specs.Encode.{facility_size}

module _ (d : Description) where
  abbrev pub from : ℕ → Option ℕ
  from n = sequencing_from n (drop n d.facilities)

  pub from_start : from 0 ≡ sequencing_of d
  unfolding sequencing_of
  from_start = refl

  next-from : (n : ℕ) → n < length d.facilities → is_sequencing (facility_at d n).kind ≡ false → from n ≡ from (n + 1)
  unfolding sequencing_from facility_at
  next-from n h e = ap (sequencing_from n) (drop-cons d.facilities n no_facility h) ∙ rw (add-one n, e)

  here-from : (n : ℕ) → n < length d.facilities → is_sequencing (facility_at d n).kind ≡ true → from n ≡ some n
  unfolding sequencing_from facility_at
  here-from n h e = ap (sequencing_from n) (drop-cons d.facilities n no_facility h) ∙ rw e

  none_from : (n : ℕ) → length d.facilities ≤ n → from n ≡ none
  unfolding sequencing_from
  none_from n h = rw (drop_of_length-le d.facilities h)

module _ {facs exprs marks places : List ℕ} {d : Description} {p : Places} (s : Declared facs exprs marks places d p) (n : ℕ) where
  module _ (f : N.Facility) (g : FacilityRead facs marks n f) {b : Bool} (q : b ≡ is_sequencing (kind_meant f.kind)) (h : n < length facs / facility_size) where
    kind-here : is_sequencing (facility_at d n).kind ≡ b
    kind-here = sym (q ∙ ap (λ (x : Facility). is_sequencing x.kind) (s.facility n h f g))

    pub not-here : {whole : Option ℕ} → b ≡ false → from d n ≡ whole → from d (n + 1) ≡ whole
    not-here e w = sym (next-from d n (omega (arith, s.count)) (kind-here ∙ e)) ∙ w

    pub found_here : (l : ℕ) → b ≡ true → ((name : Name) → l ≡ word_length (facility_meant name f)) → from d n ≡ sequencing_of d → wanted_length (C.Some l) ≡ sequencing_length d p
    unfolding sequencing_length wanted_length
    found_here l e m w =
        let k : l ≡ word_length (facility_at d n) = m (facility_at d n).name ∙ ap word_length (s.facility n h f g) in
        ap some k ∙ ap (length_if_any d p) (sym (here-from d n (omega (arith, s.count)) (kind-here ∙ e)) ∙ w)

  pub found_nowhere : length facs / facility_size ≤ n → from d n ≡ sequencing_of d → wanted_length C.None ≡ sequencing_length d p
  unfolding sequencing_length wanted_length
  found_nowhere h w = ap (length_if_any d p) (sym (none_from d n (omega (arith, s.count))) ∙ w)
