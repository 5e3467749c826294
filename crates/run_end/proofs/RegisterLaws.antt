-- The sequencing register is a stored facility with a word: what is put there, and what is found. Assumes nothing.
use mathlib.Core.Bool.{true, false}
use mathlib.Core.List.{List}
use mathlib.Core.Option.{some}
use mathlib.Core.Path.{◌≡◌, refl, sym, ap, ◌∙◌}
use Prim.Native.Nat.{ℕ, ◌*◌, ◌^◌, ◌≤◌, ◌<◌}
use native.Mathlib.Nat.{lt_of_lt_of_le}
use native.Mathlib.Omega.{arith}
use lib.ListN.{get_or, length}
use lib.Pow.{pow_mono}
use Rattle.language.specs.Decode.{node_of}
use Rattle.language.specs.Description as D
use Rattle.language.specs.Description.{Description, constant_value, facility_at, is_computed, is_sequencing, no_facility, node_at, sequencing_of, state_at, word_length}
use Rattle.language.specs.Layout.{store_size_of, word_bytes}
use Rattle.language.specs.Store.{from_bytes, set_word, word_of}
use Rattle.language.specs.Tree.{Kind, computed, input, memory, plain, register, sequencing}
use Rattle.language.specs.Value as L
use Rattle.about_running.specs.StateValues.{found_from, some_word}
use Rattle.value_limbs.specs.Limbs.{number}
use Rattle.value_operators.specs.Meaning.{valued}
use Rattle.value_operators.specs.declared.Value.{Value}
use Rattle.image_records.specs.Nodes.{held}
use Rattle.image_sections.specs.Declarations.{FacilityRead, StateRead, facility_meant, value_meant}
use Rattle.image_sections.specs.declared.facilities.FacilityRecord.{FacilityRecord}
use Rattle.image_sections.specs.declared.states.StateRecord.{StateRecord}
use Rattle.store_layout.proofs.ByteOrder.{word_room}
use Rattle.store_layout.specs.InBytes.{Stored, place_of_word}
use Rattle.store_layout.specs.Layout.{Bytes}
use Rattle.store_layout.specs.Parts.{loaded, saved}
use Rattle.run_references.proofs.EvalLaws.{held_whole}
use Rattle.run_references.proofs.PlaceLaws.{facility-known, name_of, stored-place}
use Rattle.run_references.specs.Described.{Describes}
use Rattle.run_next.proofs.RegisterLaws.{first-word}
use Rattle.run_end.proofs.WordPut.{word-put}
use Rattle.run_end.specs.Register.{Enters, Holds}

kept-sequencing : (k : Kind) → is_sequencing k ≡ true → is_computed k ≡ false
kept-sequencing register e = refl
kept-sequencing sequencing e = refl
kept-sequencing memory e = refl
kept-sequencing plain e = refl
kept-sequencing input e = refl
kept-sequencing computed e = absurd (let z : ◌≡◌ {A = ℕ} 0 1 = cc in omega arith)

register-stored : (d : Description) (f : ℕ) → sequencing_of d ≡ some f → Stored d.facilities f 0
unfolding sequencing_of
register-stored d f e =
    let x = found_from 0 f d.facilities e in
    let q : x.0 ≡ f = omega (arith, x.1) in
    let y = rw q at x.2 in
    record { there = y.inside; kept = kept-sequencing (get_or d.facilities f no_facility).kind y.sequencing; below = some_word (get_or d.facilities f no_facility) }

short-bytes : (l : ℕ) → l ≤ 256 → 8 * word_bytes l ≤ 256
unfolding word_bytes
short-bytes l h = omega arith

-- ---- The value of a state.

module _ {d : Description} {F E T : List ℕ} (h : Enters d F E T) where
  pub value_read : (s : ℕ) (x : StateRecord) → StateRead T s x → (state_at d s).value ≡ value_meant x.value
  value_read s x r = ap (λ (y : D.State). y.value) ((h.valued.states s).is ∙ sym (r.meaning (h.valued.states s).name))

  pub number_read : (n : ℕ) (x : Value) → valued x ≡ held (constant_value (node_of E n)) → number x.limbs ≡ (constant_value (node_at d n)).number
  number_read n x e =
      ap (λ (z : L.Value). z.number) (e ∙ (ap (λ (z : D.Node). held (constant_value z)) (sym (h.valued.nodes n)) ∙ held_whole _ (h.valued.fit n)))

-- ---- The register's word.

module _ {d : Description} {F E : List ℕ} (h : Describes d F E) (k : Holds d) (f : ℕ) (e : sequencing_of d ≡ some f) (x : FacilityRecord) (g : FacilityRead F f x) where
  abbrev pub length_read : ℕ
  length_read = word_length (facility_meant (name_of h f x g) x)

  length-known : word_length (facility_at d f) ≡ length_read
  length-known = ap word_length (facility-known h f x g)

  pub short-read : length_read ≤ 256
  short-read = rw length-known at (k.short f e)

  kept_read : is_computed (facility_meant (name_of h f x g) x).kind ≡ false
  unfolding facility_at
  kept_read = sym (ap (λ (y : D.Facility). is_computed y.kind) (facility-known h f x g)) ∙ (register-stored d f e).kept

  place_read : x.place ≡ place_of_word d.facilities f 0
  unfolding place_of_word
  place_read = let p = stored-place h f x g (register-stored d f e).there kept_read in omega (arith, p)

  module _ (B : List ℕ) (are : Bytes B) (room : store_size_of d.facilities ≤ length B) where
    pub register-put : (v : ℕ) → v < 2 ^ word_length (facility_at d f)
        → from_bytes d.facilities (saved B x.place (8 * word_bytes length_read) 0 (8 * word_bytes length_read) v) ≡ set_word (from_bytes d.facilities B) f 0 v
    unfolding facility_at
    register-put v b =
        let l = word_length (get_or d.facilities f no_facility) in
        rw (← length-known, place_read) (word-put d.facilities B are room f 0 v (register-stored d f e) (short-bytes l (k.short f e)) (lt_of_lt_of_le b (pow_mono (word_room l))))

    pub register-found : (loaded B x.place (8 * word_bytes length_read) 0 (8 * word_bytes length_read)).number ≡ word_of (from_bytes d.facilities B) f 0
    unfolding facility_at
    register-found =
        first-word h f x g (register-stored d f e).there kept_read (register-stored d f e).below B are room (short-bytes length_read short-read)
