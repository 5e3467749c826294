-- Where the names of facilities stand, one after the other. Assumes nothing.
use mathlib.Core.List.{List}
use mathlib.Core.Path.{◌≡◌, refl, sym, ap, ◌∙◌}
use Prim.Native.Nat.{ℕ, zero, suc, ◌+◌, ◌*◌, ◌/◌, ◌≤◌, ◌<◌}
use native.Mathlib.Omega.{arith}
use native.Mathlib.Nat.{suc-mul}
use borrow.Author.Tests.{le-leb}
use lib.ListN.{drop, get_or, length, take}
use Rattle.language.specs.Decode.{names_length}
use Rattle.language.specs.Description.{Description, facility_at}
use Rattle.image_sections.specs.Declarations.{FacilityRead, facility_in, facility_meant, name_length_in}
use Rattle.image_sections.specs.Names.{facility_part, named}
use Rattle.image_sections.specs.declared.facilities.FacilityRecord.{FacilityRecord}
use Rattle.language.specs.Encode.{facility_size}
use Rattle.trace_output.specs.Texts.{Named}

names-last : (n at size : ℕ) (s : List ℕ) → names_length (suc n) at size s ≡ names_length n at size s + get_or s (at + n * size) 0
unfolding names_length
names-last zero at size s = let e : at + 0 * size ≡ at = omega arith in rw e (omega arith)
names-last (suc n) at size s =
    let i = names-last n (at + size) size s in
    let m : suc n * size ≡ size + n * size = simp (suc-mul) (omega arith) in
    let e : at + suc n * size ≡ at + size + n * size = omega (arith, m) in
    rw e (omega (arith, i))

pub offset-first : (s : List ℕ) → 0 ≡ names_length 0 2 facility_size s
unfolding names_length
offset-first s = refl

module _ (s : List ℕ) (n : ℕ) (f : FacilityRecord) (g : FacilityRead s n f) where
  pub offset-next : {o : ℕ} → n < length s / facility_size → o ≡ names_length n 2 facility_size s → o + f.name ≡ names_length (n + 1) 2 facility_size s
  unfolding name_length_in
  offset-next {o} h e =
      let u : n + 1 ≡ suc n = omega arith in
      let k : facility_size * n + facility_size ≤ length s = omega (arith, h) in
      let v : f.name ≡ get_or s (facility_size * n + 2) 0 = g.name ∙ rw (le-leb (facility_size * n + facility_size) (length s) k) refl in
      let w : facility_size * n + 2 ≡ 2 + n * 13 = omega arith in
      rw u (omega (arith, e, v, ap (λ (i : ℕ). get_or s i 0) w, names-last n 2 13 s))

  -- The facility by its record and the part of the names.
  pub facility-named : (d : Description) (N X : List ℕ) {o : ℕ} → Named d s N → o ≡ names_length n 2 facility_size s → X ≡ take f.name (drop o N) → facility_at d n ≡ facility_meant X f
  unfolding facility_part
  facility-named d N X {o} h e x =
      let y : X ≡ named (facility_part s n) N = x ∙ (ap (λ (m : ℕ). take m (drop o N)) g.name ∙ ap (λ (m : ℕ). take (name_length_in facility_size 2 s n) (drop m N)) e) in
      h n ∙ (ap (facility_in s n) (sym y) ∙ sym (g.meaning X))
