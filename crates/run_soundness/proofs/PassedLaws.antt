-- What is known of an image that passes: its sections describe it, constants and the sequencing register are no longer than a value, and the store is no larger than a store may be. Assumes nothing.
use mathlib.Core.Bool.{Bool, true, false, cond, ◌||◌}
use mathlib.Core.List.{List, [], ◌∷◌}
use mathlib.Core.Option.{Option, none, some}
use mathlib.Core.Path.{◌≡◌, refl, sym, ap, subst, ◌∙◌}
use Prim.Native.Nat.{ℕ, suc, ◌+◌, ◌*◌, ◌/◌, ◌^◌, ◌≤◌, ◌<◌}
use native.Mathlib.Nat.{lt_of_lt_of_le}
use native.Mathlib.Omega.{arith}
use borrow.Author.Tests.{leb-true, ltb-false, ltb-true}
use lib.Dec.{leb, ltb}
use lib.ListN.{get_or-eq_default, length}
use lib.Pow.{pow_mono, pow_pos}
use Rattle.language.specs.Decode.{decode, section_at, sections_in}
use Rattle.language.specs.Description as D
use Rattle.language.specs.Description.{Description, Facility, Node, constant_value, facility_at, facility_place, is_computed, is_sequencing, no_places, node_at, sequencing_of, state_at, word_length}
use Rattle.language.specs.Encode.{expressions_section, facilities_section, facility_record, facility_size, little, node_size, state_size, states_section}
use Rattle.language.specs.Image.{passes}
use Rattle.language.specs.Layout.{facility_bytes, place_in, store_size_of}
use Rattle.language.specs.declared.refusals.Refusal.TheVariants.{BadSequencing}
use Rattle.language.specs.Rules.{bounds_faults, facilities_faults, facility_faults, first_faults, sequencing_right}
use Rattle.language.specs.Step.{into, set_register}
use Rattle.language.specs.Store.{StoreWords, set_word}
use Rattle.language.specs.Value.{Value}
use Rattle.language.specs.Ceilings.{longest}
use Rattle.about_running.specs.Judged.{append-none-left, append-none-right, unless-none}
use Rattle.about_running.specs.NeverStuck.{legal-image}
use Rattle.about_running.specs.StateValues.{Bears, bears-value, none-borne}
use Rattle.about_running.specs.LegalForm.{after-names, facility-none, no-faults, or-else-both, right_of}
use Rattle.image_records.proofs.NodeBack.{half_back}
use Rattle.image_sections.proofs.DeclarationLaws.{place-whole}
use Rattle.image_sections.proofs.DescribedLaws.{state-described}
use Rattle.image_sections.specs.Declarations.{place_field_in}
use Rattle.about_images.specs.Back.{NodeInRange, facility-stands}
use Rattle.about_images.specs.Legal.{few-facilities, few-states}
use Rattle.run_references.proofs.SectionLaws.{sections-describe}
use Rattle.run_references.specs.Described.{Describes}
use Rattle.run_next.specs.Values.{Valued}
use Rattle.image_lookups.proofs.PlaceLaws.{store-fits}
use Rattle.image_lookups.proofs.PassLaws.{facilities-are, facilities-many, legal-so, range-so, states-many}
use Rattle.run_soundness.proofs.RegisterLaws.{register-there}
use Rattle.run_soundness.proofs.WordLaws.{in-room}
use Rattle.run_soundness.specs.Tested.{Testable}

-- ---- Facilities without fault.

module _ (d : Description) (n : ℕ) (another : Bool) (before : ℕ) (f : Facility) (e : facility_faults d no_places n another before f (facility_place no_places n) ≡ []) where
  register-short : is_sequencing f.kind ≡ true → word_length f ≤ 256
  unfolding facility_faults sequencing_right longest
  register-short k =
      let s : cond (is_sequencing f.kind) (sequencing_right d no_places another f) true ≡ true = unless-none _ (facility_place no_places n).name BadSequencing (append-none-left _ _ e) in
      leb-true (word_length f) 256 (right_of (leb f.dimensions 1) _ (right_of (cond another false true) _ (rw k at s)))

store-small : (d : Description) (n : ℕ) (another : Bool) (before : ℕ) (fs : List Facility) → facilities_faults d no_places n another before fs ≡ [] → before ≤ 16384 → before + store_size_of fs ≤ 16384
unfolding facilities_faults store_size_of
store-small d n another before [] e b = omega arith
store-small d n another before (f ∷ fs) e b =
    let at = facility_place no_places n in
    let m = store-fits d n another before f (or-else-both d no_places (bounds_faults d no_places f at) (facility_faults d no_places n another before f at) (append-none-left _ _ e)) in
    let rest = append-none-right (first_faults d no_places (bounds_faults d no_places f at) (facility_faults d no_places n another before f at)) _ e in
    omega (arith, store-small d (suc n) (another || is_sequencing f.kind) (before + facility_bytes f) fs rest m)

-- ---- The image.

module _ (image : List ℕ) (passed : passes image ≡ true) where
  abbrev d : Description
  d = decode image

  facilities-right : facilities_faults d no_places 0 false 0 d.facilities ≡ []
  facilities-right = append-none-left _ _ (after-names d (no-faults d (legal-so image passed)))

  pub passed-size : store_size_of d.facilities ≤ 16384
  passed-size = omega (arith, store-small d 0 false 0 d.facilities facilities-right (omega arith))

  pub passed-register : (f : ℕ) → sequencing_of d ≡ some f → word_length (facility_at d f) ≤ 256
  unfolding facility_at
  passed-register f q =
      let r = register-there d f q in
      let y = facility-none d no_places d.facilities 0 f false 0 facilities-right r.inside in
      register-short d (0 + f) y.0 y.1.0 (facility_at d f) y.1.1 r.sequencing

  passed-constant : (n : ℕ) (v : Value) → node_at d n ≡ D.constant v → (v.number < 2 ^ v.length) × (v.length ≤ 256)
  unfolding node_at
  passed-constant n v e = by-test (ltb n (length d.expressions)) refl
    where
      by-test : (b : Bool) → ltb n (length d.expressions) ≡ b → (v.number < 2 ^ v.length) × (v.length ≤ 256)
      by-test true t = let h = subst (NodeInRange d n) e ((range-so image passed).expressions n (ltb-true n (length d.expressions) t)) in (h.2, h.1)
      by-test false t = absurd (let z = sym (get_or-eq_default d.expressions D.Node.broken (ltb-false n (length d.expressions) t)) ∙ e in let y : ◌≡◌ {A = ℕ} 0 1 = cc in omega arith)

  passed-value : (n : ℕ) → (constant_value (node_at d n)).number < 2 ^ 256
  passed-value n = go (node_at d n) refl
    where
      go : (x : Node) → node_at d n ≡ x → (constant_value x).number < 2 ^ 256
      go (D.constant v) e = let h = passed-constant n v e in lt_of_lt_of_le h.0 (pow_mono h.1)
      go (D.more m) e = pow_pos 256
      go (D.whole f) e = pow_pos 256
      go (D.one f a) e = pow_pos 256
      go (D.part f b) e = pow_pos 256
      go (D.two f a g) e = pow_pos 256
      go (D.word_part f a b) e = pow_pos 256
      go (D.binary k a b) e = pow_pos 256
      go (D.prefix k a) e = pow_pos 256
      go (D.cut k a c) e = pow_pos 256
      go (D.first_arm a) e = pow_pos 256
      go (D.next_arm a b) e = pow_pos 256
      go (D.choice a b m) e = pow_pos 256
      go D.Node.broken e = pow_pos 256

  passed-place : (n : ℕ) → n < length d.facilities → is_computed (facility_at d n).kind ≡ false → place_field_in (section_at facilities_section facility_size image) n ≡ place_in d.facilities n
  unfolding facility_at facility_record little
  passed-place n l k =
      let s = facility-stands d (range-so image passed) n l in
      let z : facility_size * n + 11 + 1 ≡ facility_size * n + 12 = omega arith in
      let p = in-room d.facilities n (facility_at d n) refl l k in
      let m : place_in d.facilities n < 65536 = omega (arith, p, passed-size) in
      place-whole (section_at facilities_section facility_size image) n (omega (arith, facilities-many image))
      ∙ rw (facilities-are image passed) (half_back _ (facility_size * n + 11) (place_in d.facilities n) m (s 11 (omega arith) ∙ rw k) (rw z (s 12 (omega arith) ∙ rw k)))

  pub passed-described : Describes d (section_at facilities_section facility_size image) (section_at expressions_section node_size image)
  unfolding decode sections_in
  passed-described = sections-describe (sections_in image) passed-place passed-constant

  -- What is known of the value of a state: there is a sequencing register, and it takes that value.
  record Borne (s n : ℕ) : Type 0 where
    register : ℕ
    registered : sequencing_of d ≡ some register
    bears : Bears d (legal-image image passed) register registered s
    same : bears.at ≡ n

  value-borne : (s n : ℕ) → (state_at d s).value ≡ some n → Borne s n
  unfolding state_at
  value-borne s n v = by-test (ltb s (length d.states)) refl
    where
      no_value : {A : Type 0} → none ≡ some n → A
      no_value e = absurd (let z : ◌≡◌ {A = ℕ} 0 1 = cc in omega arith)

      by_register : s < length d.states → (x : Option ℕ) → sequencing_of d ≡ x → Borne s n
      by_register l none q = no_value (sym (none-borne d (legal-image image passed) s l q) ∙ v)
      by_register l (some f) q =
          let b = bears-value d (legal-image image passed) f q s l in
          record { register = f; registered = q; bears = b; same = let e = sym b.stands ∙ v in cc }

      by-test : (b : Bool) → ltb s (length d.states) ≡ b → Borne s n
      by-test true t = by_register (ltb-true s (length d.states) t) (sequencing_of d) refl
      by-test false t = no_value (sym (ap (λ (y : D.State). y.value) (get_or-eq_default d.states _ (ltb-false s (length d.states) t))) ∙ v)

  pub passed-valued : Valued d (section_at expressions_section node_size image) (section_at states_section state_size image)
  unfolding decode sections_in
  passed-valued = record {
    nodes = passed-described.nodes;
    states = λ n. record { name = _; is = state-described (sections_in image) n };
    fit = passed-value;
    constants = λ s n v. let b = value-borne s n v in rw (← b.same, b.bears.is) b.bears.borne;
  }

  -- The value of a state fits the sequencing register, which takes it.
  module _ (f s n : ℕ) (q : sequencing_of (decode image) ≡ some f) (v : (state_at (decode image) s).value ≡ some n) where
    pub passed-fits : (constant_value (node_at (decode image) n)).number < 2 ^ word_length (facility_at (decode image) f)
    passed-fits =
        let b = value-borne s n v in
        let z : b.register ≡ f = let e = sym b.registered ∙ q in cc in
        rw (← b.same, b.bears.is, ← z) b.bears.fits

    pub passed-takes : (u : StoreWords) → set_register (decode image) (some f) (some n) u ≡ into (set_word u f 0 (constant_value (node_at (decode image) n)).number)
    passed-takes u =
        let b = value-borne s n v in
        let z : b.register ≡ f = let e = sym b.registered ∙ q in cc in
        let taken : set_register d (some b.register) (state_at d s).value u ≡ into (set_word u b.register 0 (constant_value (node_at d n)).number) =
        b.bears.enters u ∙ ap (λ (m : ℕ). into (set_word u b.register 0 m)) (sym b.bears.is ∙ ap (λ (k : ℕ). (constant_value (node_at d k)).number) b.same)
        in
        ap (λ (y : Option ℕ). set_register d (some f) y u) (sym v) ∙ subst (λ (g : ℕ). set_register d (some g) (state_at d s).value u ≡ into (set_word u g 0 (constant_value (node_at d n)).number)) z taken

  -- Few enough records.
  pub passed-facilities : length (section_at facilities_section facility_size image) / facility_size ≤ 65536
  passed-facilities = omega (arith, facilities-many image, few-facilities d (legal-so image passed))

  pub passed-states : length (section_at states_section state_size image) / state_size ≤ 65536
  passed-states = omega (arith, states-many image, few-states d (legal-so image passed))

  pub passed-testable : Testable d (section_at facilities_section facility_size image) (section_at expressions_section node_size image) (section_at states_section state_size image)
  passed-testable = record { described = passed-described; valued = passed-valued; states = states-many image; register = passed-register }
