-- A description read back from its sections: its bounds have lost what a record has no room for.
use mathlib.Core.List.{List, [], ◌∷◌, ◌++◌, map}
use mathlib.Core.Path.{◌≡◌, refl, sym, ap, ◌∙◌, subst}
use Prim.Native.Nat.{ℕ, ◌+◌, ◌*◌, ◌/◌, ◌<◌, ◌≤◌}
use native.Mathlib.Nat.{mod-eq_of_lt}
use native.Mathlib.Omega.{arith}
use lib.ListN.{get_or-map, drop, get_or, length, length-map, take}
use lib.Seq.{ext_get_or, take-length}
use Rattle.image_sections.proofs.DeclarationBack.{facility-back}
use Rattle.image_sections.proofs.DeclarationLaws.{name-whole}
use Rattle.image_sections.proofs.DescribedLaws.{facilities-count, facility-described}
use Rattle.image_sections.proofs.WrittenDeclarations.{facility-length}
use Rattle.image_sections.specs.Declarations.{facility_in}
use Rattle.image_sections.specs.Names.{facility_part, named}
use Rattle.language.specs.Decode.{described, names_length, node_of, operations_at, states_at, up_to}
use Rattle.language.specs.Description as D
use Rattle.language.specs.Description.{Description, Facility, Node, facility_at, no_facility}
use Rattle.language.specs.Encode.{concat, facility_record, facility_records, facility_size, name_bytes, node_bytes, node_size, operation_record, operation_size, sections_of, state_record, state_size}
use Rattle.language.specs.Layout.{place_in}
use Rattle.parse_tables.proofs.TwoBytes.{two-low}
use Rattle.about_images.specs.Back as B
use Rattle.about_images.specs.Back.{FacilityInRange, InRange, sections-back}
use Rattle.about_images.specs.Names.{lengths-say, name-cut, names-length, names_of}
use Rattle.about_images.specs.Rows.{facilities-at, facilities-length}
use Rattle.about_images.specs.Running.{stands}
use Rattle.parse_held.specs.Standing.{narrow_facility, narrow_node, narrowed}

-- ---- Narrower bounds have the same bytes.

facility-narrow : (p : ℕ) (f : Facility) → facility_record p (narrow_facility f) ≡ facility_record p f
unfolding facility_record
facility-narrow p f = rw (two-low f.words.first refl, two-low f.words.last refl, two-low f.bits.first refl, two-low f.bits.last refl)

node-narrow : (x : Node) → node_bytes (narrow_node x) ≡ node_bytes x
unfolding node_bytes
node-narrow (D.constant v) = refl
node-narrow (D.more n) = refl
node-narrow (D.whole f) = refl
node-narrow (D.one f e) = refl
node-narrow (D.part f b) = rw (two-low b.first refl, two-low b.last refl)
node-narrow (D.two f e g) = refl
node-narrow (D.word_part f e b) = rw (two-low b.first refl, two-low b.last refl)
node-narrow (D.binary k a b) = refl
node-narrow (D.prefix k a) = refl
node-narrow (D.cut k a c) = refl
node-narrow (D.first_arm e) = refl
node-narrow (D.next_arm a e) = refl
node-narrow (D.choice e a n) = refl
node-narrow D.Node.broken = refl

nodes-narrow : (es : List Node) → concat node_bytes (map narrow_node es) ≡ concat node_bytes es
unfolding concat
nodes-narrow [] = refl
nodes-narrow (e ∷ es) = rw (node-narrow e, nodes-narrow es)

pub names-narrow : (fs : List Facility) → concat (λ f. f.name) (map narrow_facility fs) ≡ concat (λ f. f.name) fs
unfolding concat
names-narrow [] = refl
names-narrow (f ∷ fs) = ap (λ (s : List ℕ). f.name ++ s) (names-narrow fs)

module _ (d : Description) (r : InRange (narrowed d)) where
  abbrev facilities_of : List ℕ
  facilities_of = facility_records 0 d.facilities

  -- ---- Facilities.

  narrow_at : (n : ℕ) → facility_at (narrowed d) n ≡ narrow_facility (facility_at d n)
  unfolding narrowed facility_at
  narrow_at n = get_or-map narrow_facility d.facilities n no_facility

  in-range : (n : ℕ) → n < length d.facilities → FacilityInRange (narrow_facility (facility_at d n))
  unfolding narrowed
  in-range n h = subst FacilityInRange (narrow_at n) (r.facilities n (omega (arith, length-map d.facilities narrow_facility)))

  facility-stands : (n : ℕ) → n < length d.facilities → (i : ℕ) → i < 13 → get_or facilities_of (facility_size * n + i) 0 ≡ get_or (facility_record (place_in d.facilities n) (facility_at d n)) i 0
  unfolding facility_at
  facility-stands n h = stands facilities_of (facility_size * n) facility_size (facilities-at d.facilities n h)

  facility-byte : (n : ℕ) → n < length d.facilities → get_or facilities_of (facility_size * n + 2) 0 ≡ length (facility_at d n).name
  unfolding facility_record
  facility-byte n h = facility-stands n h 2 (omega arith) ∙ mod-eq_of_lt (in-range n h).name

  facility-names : (n : ℕ) → n ≤ length d.facilities → names_length n 2 facility_size facilities_of ≡ names_of (λ f. f.name) (take n d.facilities)
  unfolding facility_at
  facility-names n h =
      lengths-say (λ f. length f.name) d.facilities facilities_of 2 facility_size n no_facility h
      (λ i g. let e : 2 + facility_size * i ≡ facility_size * i + 2 = omega arith in rw e (facility-byte i (omega arith)))

  facility-name : (n : ℕ) → n < length d.facilities → named (facility_part facilities_of n) (name_bytes d) ≡ (facility_at d n).name
  unfolding facility_part name_bytes facility_at
  facility-name n h =
      let l = facilities-length d.facilities in
      rw (name-whole facility_size 2 facilities_of n (omega arith), facility-byte n h, facility-names n (omega arith))
      (name-cut (λ f. f.name) d.facilities n no_facility (concat (λ o. o.name) d.operations ++ concat (λ s. s.name) d.states) h)

  pub facilities-narrow : (described (sections_of d)).facilities ≡ map narrow_facility d.facilities
  unfolding sections_of facility_at
  facilities-narrow =
      let l = facilities-length d.facilities in
      let m = length-map d.facilities narrow_facility in
      let k : length (described (sections_of d)).facilities ≡ length (map narrow_facility d.facilities) = facilities-count (sections_of d) ∙ omega arith in
      ext_get_or no_facility _ _ k
      (λ n h. let g : n < length d.facilities = omega arith in
      facility-described (sections_of d) n ∙ ap (facility_in facilities_of n) (facility-name n g)
      ∙ facility-back facilities_of n (place_in d.facilities n) (narrow_facility (facility_at d n)) (omega arith) (in-range n g).fits
      (λ i q. facility-stands n g i (omega (arith, facility-length (place_in d.facilities n) (narrow_facility (facility_at d n))))
      ∙ ap (λ (s : List ℕ). get_or s i 0) (sym (facility-narrow (place_in d.facilities n) (facility_at d n))))
      ∙ sym (get_or-map narrow_facility d.facilities n no_facility))

  -- ---- The other sections, whose names stand behind those of facilities.

  all-facilities : names_length (length facilities_of / facility_size) 2 facility_size facilities_of ≡ length (concat (λ f. f.name) d.facilities)
  all-facilities =
      let l = facilities-length d.facilities in
      let e : length facilities_of / facility_size ≡ length d.facilities = omega arith in
      rw e (facility-names (length d.facilities) (omega arith) ∙ ap (names_of (λ f. f.name)) (take-length d.facilities) ∙ sym (names-length (λ f. f.name) d.facilities))

  abbrev narrow_of : List ℕ
  narrow_of = facility_records 0 (map narrow_facility d.facilities)

  second-same : drop (names_length (length facilities_of / facility_size) 2 facility_size facilities_of) (name_bytes d) ≡ drop (names_length (length narrow_of / facility_size) 2 facility_size narrow_of) (name_bytes (narrowed d))
  unfolding narrowed name_bytes
  second-same =
      let e : names_length (length narrow_of / facility_size) 2 facility_size narrow_of ≡ length (concat (λ f. f.name) (map narrow_facility d.facilities)) = B.all-facilities (narrowed d) r in
      rw (e, all-facilities, names-narrow d.facilities)

  pub operations-narrow : (described (sections_of d)).operations ≡ d.operations
  unfolding described sections_of narrowed
  operations-narrow =
      let os = concat operation_record d.operations in
      ap (λ (s : List ℕ). operations_at (length os / operation_size) 0 os s) second-same ∙ ap (λ (x : Description). x.operations) (sections-back (narrowed d) r)

  pub states-narrow : (described (sections_of d)).states ≡ d.states
  unfolding described sections_of narrowed
  states-narrow =
      let os = concat operation_record d.operations in
      let ss = concat state_record d.states in
      ap (λ (s : List ℕ). states_at (length ss / state_size) 0 ss (drop (names_length (length os / operation_size) 0 operation_size os) s)) second-same ∙ ap (λ (x : Description). x.states) (sections-back (narrowed d) r)

  pub expressions-narrow : (described (sections_of d)).expressions ≡ map narrow_node d.expressions
  unfolding described sections_of narrowed
  expressions-narrow =
      ap (λ (s : List ℕ). up_to (node_of s) 0 (length s / node_size)) (sym (nodes-narrow d.expressions)) ∙ ap (λ (x : Description). x.expressions) (sections-back (narrowed d) r)

  pub actions-narrow : (described (sections_of d)).actions ≡ d.actions
  unfolding described sections_of narrowed
  actions-narrow = ap (λ (x : Description). x.actions) (sections-back (narrowed d) r)
