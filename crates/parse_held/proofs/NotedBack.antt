-- Sections and the places beside them show the description that was written, and its places.
use mathlib.Core.List.{List, [], ◌∷◌, map}
use mathlib.Core.Path.{◌≡◌, refl}
use Prim.Native.Nat.{ℕ, suc, ◌+◌, ◌*◌, ◌%◌, ◌<◌}
use native.Mathlib.Nat.{zero-add}
use native.Mathlib.Omega.{arith}
use lib.ListN.{get_or, length}
use Rattle.language.specs.Decode.{described}
use Rattle.language.specs.Description as D
use Rattle.language.specs.Description.{Action, Description, Facility, FacilityPlaces, Node, Operation, Places, State, action_place, facility_at, facility_place, no_facility, node_at, node_place, operation_place, state_place}
use Rattle.language.specs.Encode.{sections_of}
use Rattle.language.specs.Rules.{faults}
use Rattle.language.specs.WordStage.{least}
use Rattle.judge_records.specs.Noted.{large_no, noted_description, places_in, widened_facilities, widened_facility, widened_nodes}
use Rattle.image_records.specs.References.{widened_node}
use Rattle.parse_held.proofs.NarrowBack.{actions-narrow, expressions-narrow, facilities-narrow, operations-narrow, states-narrow}
use Rattle.parse_held.proofs.PlacesBack.{FacilityAt, facilities-back, facility-places-at, mark-back, node-places-at, nodes-back, plain_back, states-back}
use Rattle.parse_held.proofs.StandingLaws.{beside-stands, sections-stand}
use Rattle.parse_held.specs.declared.Holding.{Holding}
use Rattle.parse_held.specs.Sections.{beside_held, sections_held}
use Rattle.parse_held.specs.Standing.{Marked, Readable, Stands, StandsBeside, beside_of, ends_of, narrow_facility, narrow_node}

-- ---- Marks make narrow bounds whole.

node-widened : (x : Node) (m n : ℕ) → (ends_of x).first % 65536 + 65536 * m ≡ (ends_of x).first → (ends_of x).last % 65536 + 65536 * n ≡ (ends_of x).last → widened_node m n (narrow_node x) ≡ x
node-widened (D.constant v) m n e f = refl
node-widened (D.more k) m n e f = refl
node-widened (D.whole g) m n e f = refl
node-widened (D.one g a) m n e f = refl
node-widened (D.part g b) m n e f = rw (e, f)
node-widened (D.two g a b) m n e f = refl
node-widened (D.word_part g a b) m n e f = rw (e, f)
node-widened (D.binary k a b) m n e f = refl
node-widened (D.prefix k a) m n e f = refl
node-widened (D.cut k a b) m n e f = refl
node-widened (D.first_arm a) m n e f = refl
node-widened (D.next_arm a b) m n e f = refl
node-widened (D.choice a b k) m n e f = refl
node-widened D.Node.broken m n e f = refl

nodes-widened : (s : List ℕ) (k : ℕ) (es : List Node)
    → ((i : ℕ) → i < length es → widened_node (large_no s (3 * (k + i) + 1)) (large_no s (3 * (k + i) + 2)) (narrow_node (get_or es i D.Node.broken)) ≡ get_or es i D.Node.broken) → widened_nodes s k (map narrow_node es) ≡ es
unfolding widened_nodes
nodes-widened s k [] h = refl
nodes-widened s k (e ∷ es) h =
    let z : k + 0 ≡ k = omega arith in
    rw (rw z at (h 0 (omega arith)), nodes-widened s (suc k) es (λ i g. let y : suc k + i ≡ k + suc i = omega arith in rw y (h (suc i) (omega arith))))

facility-widened : (s : List ℕ) (n : ℕ) (f : Facility) (p : FacilityPlaces) → FacilityAt s n f p → Marked f.words → Marked f.bits → widened_facility s n (narrow_facility f) ≡ f
unfolding widened_facility
facility-widened s n f p a w b =
    rw (
      mark-back s (6 * n + 1) f.words.first p.words_first a.words_first w.0,
      mark-back s (6 * n + 2) f.words.last p.words_last a.words_last w.1,
      mark-back s (6 * n + 3) f.bits.first p.bits_first a.bits_first b.0,
      mark-back s (6 * n + 4) f.bits.last p.bits_last a.bits_last b.1,
    )

facilities-widened : (s : List ℕ) (k : ℕ) (fs : List Facility) → ((i : ℕ) → i < length fs → widened_facility s (k + i) (narrow_facility (get_or fs i no_facility)) ≡ get_or fs i no_facility)
    → widened_facilities s k (map narrow_facility fs) ≡ fs
unfolding widened_facilities
facilities-widened s k [] h = refl
facilities-widened s k (f ∷ fs) h =
    let z : k + 0 ≡ k = omega arith in
    rw (rw z at (h 0 (omega arith)), facilities-widened s (suc k) fs (λ i g. let y : suc k + i ≡ k + suc i = omega arith in rw y (h (suc i) (omega arith))))

-- ---- The whole.

made : {f f' : List Facility} {o o' : List Operation} {e e' : List Node} {a a' : List Action} {s s' : List State} → f ≡ f' → o ≡ o' → e ≡ e' → a ≡ a' → s ≡ s'
    → ◌≡◌ {A = Description} (record { facilities = f; operations = o; expressions = e; actions = a; states = s }) (record { facilities = f'; operations = o'; expressions = e'; actions = a'; states = s' })
made p q u v w = rw (p, q, u, v, w)

module _ (d : Description) (p : Places) (h : Readable d p) where
  facilities-noted : widened_facilities (beside_of d p).facilities 0 (described (sections_of d)).facilities ≡ d.facilities
  unfolding beside_of facility_at
  facilities-noted =
      let s = (beside_of d p).facilities in
      rw (facilities-narrow d h.range)
      (facilities-widened s 0 d.facilities
      (λ i g. let m = h.bounds i g in
      rw (zero-add i) (facility-widened s i (get_or d.facilities i no_facility) _ (facility-places-at d.facilities p.facilities h.beside_facilities i (omega (arith, h.beside_facilities))) m.0 m.1)))

  nodes-noted : widened_nodes (beside_of d p).expressions 0 (described (sections_of d)).expressions ≡ d.expressions
  unfolding beside_of node_at
  nodes-noted =
      let s = (beside_of d p).expressions in
      rw (expressions-narrow d h.range)
      (nodes-widened s 0 d.expressions
      (λ i g. let m = h.ends i g in
      let a = node-places-at d.expressions p.expressions h.beside_nodes i (omega (arith, h.beside_nodes)) in
      rw (zero-add i) (node-widened (get_or d.expressions i D.Node.broken) _ _ (mark-back s (3 * i + 1) _ _ a.1 m.0) (mark-back s (3 * i + 2) _ _ a.2 m.1))))

  pub description-back : noted_description (sections_of d) (beside_of d p) ≡ d
  unfolding noted_description
  description-back = made facilities-noted (operations-narrow d h.range) nodes-noted (actions-narrow d h.range) (states-narrow d h.range)

  pub places-back : places_in (beside_of d p) ≡ p
  unfolding places_in beside_of facility_place operation_place node_place action_place state_place
  places-back =
      rw (
        facilities-back d.facilities p.facilities h.beside_facilities h.facilities,
        plain_back p.operations h.operations,
        nodes-back d.expressions p.expressions h.beside_nodes h.expressions,
        plain_back p.actions h.actions,
        states-back p.states h.states,
      )

-- What is judged of the array is what the description is refused for.
pub faults-stand : (text w : List ℕ) (c : Holding) (d : Description) (p : Places) → Stands text w c d → StandsBeside w c d p → Readable d p
    → least (faults (noted_description (sections_held text w c) (beside_held w c)) (places_in (beside_held w c))) ≡ least (faults d p)
faults-stand text w c d p s b h = rw (sections-stand s, beside-stands b, description-back d p h, places-back d p h)
