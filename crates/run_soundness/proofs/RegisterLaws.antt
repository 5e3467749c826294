-- The sequencing register's word, loaded with its spare bits, is the word of the store. Assumes nothing.
use mathlib.Core.Bool.{true, false}
use mathlib.Core.List.{List}
use mathlib.Core.Option.{some}
use mathlib.Core.Path.{◌≡◌, refl, ap, ◌∙◌}
use Prim.Native.Nat.{ℕ, ◌*◌, ◌≤◌}
use native.Mathlib.Omega.{arith}
use lib.ListN.{length}
use Rattle.language.specs.Description as D
use Rattle.language.specs.Description.{Description, facility_at, is_computed, is_sequencing, sequencing_of, word_length}
use Rattle.language.specs.Layout.{store_size_of, word_bytes}
use Rattle.language.specs.Store.{from_bytes, word_of}
use Rattle.language.specs.Tree.{Kind, computed, input, memory, plain, register, sequencing}
use Rattle.language.specs.Value.{Value}
use Rattle.image_sections.specs.Declarations.{FacilityRead, facility_meant}
use Rattle.image_sections.specs.declared.facilities.FacilityRecord.{FacilityRecord}
use Rattle.store_layout.specs.Layout.{Bytes}
use Rattle.store_layout.specs.Parts.{loaded}
use Rattle.about_running.specs.StateValues.{Found, found_from, some_word}
use Rattle.run_references.proofs.PlaceLaws.{facility-known, name_of}
use Rattle.run_next.proofs.RegisterLaws.{first-word}
use Rattle.run_soundness.specs.Tested.{Testable}

pub register-stored : (k : Kind) → is_sequencing k ≡ true → is_computed k ≡ false
register-stored register e = refl
register-stored sequencing e = refl
register-stored memory e = refl
register-stored plain e = refl
register-stored input e = refl
register-stored computed e = absurd (let z : ◌≡◌ {A = ℕ} 0 1 = cc in omega arith)

pub register-there : (d : Description) (n : ℕ) → sequencing_of d ≡ some n → Found d.facilities n
unfolding sequencing_of
register-there d n q =
    let y = found_from 0 n d.facilities q in
    let e : n ≡ y.0 = omega (arith, y.1) in
    rw e y.2

module _ {d : Description} {F E T : List ℕ} (h : Testable d F E T) (n : ℕ) (f : FacilityRecord) (g : FacilityRead F n f) (q : sequencing_of d ≡ some n) where
  abbrev known : D.Facility
  known = facility_meant (name_of h.described n f g) f

  pub few_bits : word_length known ≤ 256
  few_bits = rw (facility-known h.described n f g) at (h.register n q)

  few_bytes : 8 * word_bytes (word_length known) ≤ 256
  unfolding word_bytes
  few_bytes = omega (arith, few_bits)

  pub register-word : (B : List ℕ) → Bytes B → store_size_of d.facilities ≤ length B → {v : Value}
      → v ≡ loaded B f.place (8 * word_bytes (word_length known)) 0 (8 * word_bytes (word_length known)) → v.number ≡ word_of (from_bytes d.facilities B) n 0
  unfolding facility_at
  register-word B are room {v} e =
      let r = register-there d n q in
      let k : is_computed known.kind ≡ false = register-stored known.kind (rw (facility-known h.described n f g) at r.sequencing) in
      ap (λ (x : Value). x.number) e ∙ first-word h.described n f g r.inside k (some_word (facility_at d n)) B are room few_bytes
