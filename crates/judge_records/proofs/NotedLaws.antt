-- What sections and the places beside them describe, record by record.
use mathlib.Core.Bool.{Bool, true, false}
use mathlib.Core.List.{List, [], ◌∷◌}
use mathlib.Core.Path.{◌≡◌, refl, sym, ap, ◌∙◌}
use native.Mathlib.Omega.{arith}
use Prim.Native.Nat.{ℕ, zero, suc, ◌+◌, ◌*◌, ◌/◌, ◌<◌}
use borrow.Author.Tests.{le-ltb, lt-ltb, ltb-false, ltb-true}
use lib.Dec.{leb, ltb}
use lib.ListN.{get_or, length}
use Rattle.image_sections.proofs.DescribedLaws.{action-described, facilities-count, facility-described, node-described}
use Rattle.image_sections.specs.Declarations as I
use Rattle.image_sections.specs.Declarations.{facility_in}
use Rattle.image_sections.specs.Names.{facility_part, named}
use Rattle.image_sections.specs.declared.facilities.FacilityRecord as F
use Rattle.language.specs.Decode.{action_of, described, facility_of, node_of, number_at, pick, up_to}
use Rattle.language.specs.Description as D
use Rattle.language.specs.Description.{Facility, FacilityPlaces, Node, action_at, action_place, facility_at, facility_place, no_facility, node_at, node_place, node_places, no_places, nowhere, operation_at, state_at, state_place}
use Rattle.language.specs.Encode.{Sections, facility_size}
use Rattle.language.specs.Tree.{Name}
use Rattle.image_records.proofs.NumberLaws.{number_past}
use Rattle.image_records.specs.References.{widened, widened_node}
use Rattle.store_geometry.specs.Shapes.{bounds_meant}
use Rattle.store_geometry.specs.declared.bounds.Bounds.{Bounds}
use Rattle.judge_records.specs.Noted.{Beside, facility_places_no, large_no, node_places_no, noted, noted_description, nothing_beside, place_no, places_in, state_places_no, widened_facilities, widened_facility, widened_nodes}
use Rattle.judge_records.specs.Read.{facility_meant, place_of}

-- A facility that was read and its widened bounds.
pub widened-fields : (s : List ℕ) (n : ℕ) (f : F.FacilityRecord) {g : Facility} {name : Name} (w b : Bounds) → I.facility_meant name f ≡ g
    → bounds_meant w ≡ widened (I.short_meant f.words) (large_no s (6 * n + 1)) (large_no s (6 * n + 1 + 1))
    → bounds_meant b ≡ widened (I.short_meant f.bits) (large_no s (6 * n + 3)) (large_no s (6 * n + 3 + 1))
    → facility_meant name (record { kind = f.kind; dimensions = f.dimensions; words = w; bits = b; expression = f.place }) ≡ widened_facility s n g
unfolding widened_facility
widened-fields s n f w b e p q =
    let x : 6 * n + 1 + 1 ≡ 6 * n + 2 = omega arith in
    let y : 6 * n + 3 + 1 ≡ 6 * n + 4 = omega arith in
    rw (← e, ← x, ← y, p, q)

-- ---- Expressions.

widened-at : (s : List ℕ) (k n : ℕ) (es : List Node)
    → get_or (widened_nodes s k es) n D.Node.broken ≡ widened_node (large_no s (3 * (k + n) + 1)) (large_no s (3 * (k + n) + 2)) (get_or es n D.Node.broken)
unfolding widened_nodes
widened-at s k n [] = refl
widened-at s k zero (e ∷ es) = let z : k + 0 ≡ k = omega arith in rw z
widened-at s k (suc n) (e ∷ es) = let z : k + suc n ≡ suc k + n = omega arith in rw z (widened-at s (suc k) n es)

module _ (x : Sections) (q : Beside) where
  pub node-noted : (n : ℕ)
      → node_at (noted_description x q) n ≡ widened_node (large_no q.expressions (3 * n + 1)) (large_no q.expressions (3 * n + 2)) (node_of x.expressions n)
  unfolding noted_description node_at
  node-noted n =
      let z : 0 + n ≡ n = omega arith in
      widened-at q.expressions 0 n (described x).expressions ∙ rw (z, ← node-described x n)

  pub action-noted : (n : ℕ) → action_at (noted_description x q) n ≡ action_of x.actions n
  unfolding noted_description action_at
  action-noted n = rw (← action-described x n)

  pub operation-noted : (n : ℕ) → operation_at (noted_description x q) n ≡ operation_at (described x) n
  unfolding noted_description operation_at
  operation-noted n = refl

  pub state-noted : (n : ℕ) → state_at (noted_description x q) n ≡ state_at (described x) n
  unfolding noted_description state_at
  state-noted n = refl

-- ---- Facilities.

widened-length : (s : List ℕ) (k : ℕ) (fs : List Facility) → length (widened_facilities s k fs) ≡ length fs
unfolding widened_facilities
widened-length s k [] = refl
widened-length s k (f ∷ fs) = ap suc (widened-length s (suc k) fs)

widened-facility : (s : List ℕ) (k n : ℕ) (fs : List Facility) → n < length fs
    → get_or (widened_facilities s k fs) n no_facility ≡ widened_facility s (k + n) (get_or fs n no_facility)
unfolding widened_facilities
widened-facility s k n [] h = absurd (omega arith)
widened-facility s k zero (f ∷ fs) h = let z : k + 0 ≡ k = omega arith in rw z
widened-facility s k (suc n) (f ∷ fs) h =
    let z : k + suc n ≡ suc k + n = omega arith in rw z (widened-facility s (suc k) n fs (omega arith))

widened-kind : (s : List ℕ) (k n : ℕ) (fs : List Facility)
    → (get_or (widened_facilities s k fs) n no_facility).kind ≡ (get_or fs n no_facility).kind
unfolding widened_facilities widened_facility
widened-kind s k n [] = refl
widened-kind s k zero (f ∷ fs) = refl
widened-kind s k (suc n) (f ∷ fs) = widened-kind s (suc k) n fs

kind-nameless : (s : List ℕ) (n : ℕ) (name : Name) → (facility_in s n name).kind ≡ (facility_in s n []).kind
unfolding facility_in facility_of
kind-nameless s n name = by-test (leb (facility_size * n + facility_size) (length s))
  where
    by-test : (b : Bool) → (pick b (facility_of (facility_size * n) s name) (I.none_named name)).kind ≡ (pick b (facility_of (facility_size * n) s []) (I.none_named [])).kind
    by-test true = refl
    by-test false = refl

module _ (x : Sections) (q : Beside) where
  pub count-noted : length (noted_description x q).facilities ≡ length x.facilities / facility_size
  unfolding noted_description
  count-noted = widened-length q.facilities 0 (described x).facilities ∙ facilities-count x

  pub facility-noted : (n : ℕ) → n < length x.facilities / facility_size
      → facility_at (noted_description x q) n
      ≡ widened_facility q.facilities n (facility_in x.facilities n (named (facility_part x.facilities n) x.names))
  unfolding noted_description facility_at
  facility-noted n h =
      let z : 0 + n ≡ n = omega arith in
      widened-facility q.facilities 0 n (described x).facilities (omega (arith, facilities-count x)) ∙ rw (z, ← facility-described x n)

  pub kind-noted : (n : ℕ) → (facility_at (noted_description x q) n).kind ≡ (facility_in x.facilities n []).kind
  unfolding noted_description facility_at
  kind-noted n =
      widened-kind q.facilities 0 n (described x).facilities
      ∙ ap (λ (f : Facility). f.kind) (facility-described x n)
      ∙ kind-nameless x.facilities n (named (facility_part x.facilities n) x.names)

-- ---- Places.

ltb-suc : (n k : ℕ) → ltb (suc n) (suc k) ≡ ltb n k
ltb-suc n k = by-test (ltb n k) refl
  where
    by-test : (b : Bool) → ltb n k ≡ b → ltb (suc n) (suc k) ≡ ltb n k
    by-test true t = lt-ltb (suc n) (suc k) (omega (arith, ltb-true n k t)) ∙ sym t
    by-test false t = le-ltb (suc n) (suc k) (omega (arith, ltb-false n k t)) ∙ sym t

pub up_to_pick : {A : Type 0} (f : ℕ → A) (d : A) (i k n : ℕ) → get_or (up_to f i k) n d ≡ pick (ltb n k) (f (i + n)) d
unfolding up_to
up_to_pick f d i zero n = rw (le-ltb n 0 (omega arith))
up_to_pick f d i (suc k) zero = let z : i + 0 ≡ i = omega arith in rw (lt-ltb 0 (suc k) (omega arith), z)
up_to_pick f d i (suc k) (suc n) =
    let z : i + suc n ≡ suc i + n = omega arith in
    rw (z, ltb-suc n k) (up_to_pick f d (suc i) k n)

module _ (q : Beside) (n : ℕ) where
  pub node-places : node_place (places_in q) n
      ≡ record { at = place_of 3 q.expressions n 0; first = place_of 3 q.expressions n 1; last = place_of 3 q.expressions n 2 }
  unfolding places_in node_place place_of node_places_no
  node-places = up_to_pick (node_places_no q.expressions) (node_places nowhere) 0 (length q.expressions / 6) n ∙ by-test (ltb n (length q.expressions / 6)) refl
    where
      by-test : (b : Bool) → ltb n (length q.expressions / 6) ≡ b
          → pick (ltb n (length q.expressions / 6)) (node_places_no q.expressions (0 + n)) (node_places nowhere)
          ≡ record { at = place_of 3 q.expressions n 0; first = place_of 3 q.expressions n 1; last = place_of 3 q.expressions n 2 }
      by-test true t = let z : 0 + n ≡ n = omega arith in let y : 3 * n + 0 ≡ 3 * n = omega arith in rw (t, z, y)
      by-test false t = rw t

  pub action-place : action_place (places_in q) n ≡ place_of 1 q.actions n 0
  unfolding places_in action_place place_of
  action-place =
      let z : 0 + n ≡ 1 * n + 0 = omega arith in
      up_to_pick (place_no q.actions) nowhere 0 (length q.actions / 2) n ∙ rw z

  pub state-places : state_place (places_in q) n ≡ record { at = place_of 2 q.states n 0; value = place_of 2 q.states n 1 }
  unfolding places_in state_place place_of state_places_no
  state-places = up_to_pick (state_places_no q.states) (record { at = nowhere; value = nowhere }) 0 (length q.states / 4) n ∙ by-test (ltb n (length q.states / 4)) refl
    where
      by-test : (b : Bool) → ltb n (length q.states / 4) ≡ b
          → pick (ltb n (length q.states / 4)) (state_places_no q.states (0 + n)) (record { at = nowhere; value = nowhere })
          ≡ record { at = place_of 2 q.states n 0; value = place_of 2 q.states n 1 }
      by-test true t = let z : 0 + n ≡ n = omega arith in let y : 2 * n + 0 ≡ 2 * n = omega arith in rw (t, z, y)
      by-test false t = rw t

  abbrev facility_places : FacilityPlaces
  facility_places = record {
    name = place_of 6 q.facilities n 0;
    words_first = place_of 6 q.facilities n 1;
    words_last = place_of 6 q.facilities n 2;
    bits_first = place_of 6 q.facilities n 3;
    bits_last = place_of 6 q.facilities n 4;
    equals = place_of 6 q.facilities n 5;
  }

  abbrev no_facility_places : FacilityPlaces
  no_facility_places =
      record { name = nowhere; words_first = nowhere; words_last = nowhere; bits_first = nowhere; bits_last = nowhere; equals = nowhere }

  pub facility-places : facility_place (places_in q) n ≡ facility_places
  unfolding places_in facility_place place_of facility_places_no
  facility-places = up_to_pick (facility_places_no q.facilities) no_facility_places 0 (length q.facilities / 12) n ∙ by-test (ltb n (length q.facilities / 12)) refl
    where
      by-test : (b : Bool) → ltb n (length q.facilities / 12) ≡ b
          → pick (ltb n (length q.facilities / 12)) (facility_places_no q.facilities (0 + n)) no_facility_places ≡ facility_places
      by-test true t = let z : 0 + n ≡ n = omega arith in let y : 6 * n + 0 ≡ 6 * n = omega arith in rw (t, z, y)
      by-test false t = rw t

-- ---- Without places: an image.

number-none : (at : ℕ) → number_at 2 at [] ≡ 0
number-none at = number_past 2 at [] (omega arith)

large-none : (k : ℕ) → large_no [] k ≡ 0
unfolding large_no
large-none k = rw (number-none (2 * k))

same-node : (e : Node) → widened_node 0 0 e ≡ e
same-node (D.constant v) = refl
same-node (D.more n) = refl
same-node (D.whole f) = refl
same-node (D.one f e) = refl
same-node (D.part f b) = let x : b.first + 65536 * 0 ≡ b.first = omega arith in let y : b.last + 65536 * 0 ≡ b.last = omega arith in rw (x, y)
same-node (D.two f e g) = refl
same-node (D.word_part f e b) = let x : b.first + 65536 * 0 ≡ b.first = omega arith in let y : b.last + 65536 * 0 ≡ b.last = omega arith in rw (x, y)
same-node (D.binary k a b) = refl
same-node (D.prefix k a) = refl
same-node (D.cut k a c) = refl
same-node (D.first_arm e) = refl
same-node (D.next_arm a e) = refl
same-node (D.choice e a n) = refl
same-node D.Node.broken = refl

same_nodes : (k : ℕ) (es : List Node) → widened_nodes [] k es ≡ es
unfolding widened_nodes
same_nodes k [] = refl
same_nodes k (e ∷ es) = rw (large-none (3 * k + 1), large-none (3 * k + 2), same-node e, same_nodes (suc k) es)

same-bounds : (b : D.Bounds) → widened b 0 0 ≡ b
same-bounds b = let x : b.first + 65536 * 0 ≡ b.first = omega arith in let y : b.last + 65536 * 0 ≡ b.last = omega arith in rw (x, y)

same-facility : (k : ℕ) (f : Facility) → widened_facility [] k f ≡ f
unfolding widened_facility
same-facility k f =
    rw (large-none (6 * k + 1), large-none (6 * k + 2), large-none (6 * k + 3), large-none (6 * k + 4), same-bounds f.words, same-bounds f.bits)

same-facilities : (k : ℕ) (fs : List Facility) → widened_facilities [] k fs ≡ fs
unfolding widened_facilities
same-facilities k [] = refl
same-facilities k (f ∷ fs) = rw (same-facility k f, same-facilities (suc k) fs)

pub noted-none : (x : Sections) → noted x nothing_beside ≡ record { description = described x; places = no_places }
unfolding noted noted_description places_in up_to
noted-none x = rw (same-facilities 0 (described x).facilities, same_nodes 0 (described x).expressions)
