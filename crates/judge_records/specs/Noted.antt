-- Records with the places of their words in bytes beside them: what reading hands to judging. A place takes two bytes; its highest bit says that the bound written there is above 65,535, for which a record has no room. An image has no places.
use Rattle.std.specs.Prelude.{List, [], ◌∷◌, ◌++◌, ℕ, suc, ◌+◌, ◌*◌, ◌/◌, ◌%◌, length}
use Rattle.language.specs.Decode.{described, half_at, up_to}
use Rattle.language.specs.DescribeText.{Described}
use Rattle.language.specs.Description as D
use Rattle.language.specs.Description.{Bounds, Description, Facility, FacilityPlaces, Node, NodePlaces, Places, StatePlaces}
use Rattle.language.specs.Encode.{Sections, two}
use Rattle.language.specs.Words.{Position, position}
use Rattle.image_records.specs.References.{widened, widened_node}

-- The bytes of the places, a section each.
pub record Beside : Type 0 where
  pub facilities : List ℕ
  pub operations : List ℕ
  pub expressions : List ℕ
  pub actions : List ℕ
  pub states : List ℕ

abbrev pub nothing_beside : Beside
nothing_beside = record { facilities = []; operations = []; expressions = []; actions = []; states = [] }

-- Bytes for a record of each section.
abbrev pub facility_beside : ℕ
facility_beside = 12

abbrev pub operation_beside : ℕ
operation_beside = 2

abbrev pub node_beside : ℕ
node_beside = 6

abbrev pub action_beside : ℕ
action_beside = 2

abbrev pub state_beside : ℕ
state_beside = 4

-- ---- Reading: the k-th place of a section, and its mark of a number too large.

abbrev pub large_mark : ℕ
large_mark = 32768

unfoldable pub place_no : List ℕ → ℕ → Position
place_no s k = position (half_at (2 * k) s % large_mark)

unfoldable pub large_no : List ℕ → ℕ → ℕ
large_no s k = half_at (2 * k) s / large_mark

unfoldable pub widened_nodes : List ℕ → ℕ → List Node → List Node
widened_nodes s n [] = []
widened_nodes s n (e ∷ es) = widened_node (large_no s (3 * n + 1)) (large_no s (3 * n + 2)) e ∷ widened_nodes s (suc n) es

unfoldable pub widened_facility : List ℕ → ℕ → Facility → Facility
widened_facility s n f = record {
  name = f.name;
  kind = f.kind;
  dimensions = f.dimensions;
  words = widened f.words (large_no s (6 * n + 1)) (large_no s (6 * n + 2));
  bits = widened f.bits (large_no s (6 * n + 3)) (large_no s (6 * n + 4));
  expression = f.expression;
}

unfoldable pub widened_facilities : List ℕ → ℕ → List Facility → List Facility
widened_facilities s n [] = []
widened_facilities s n (f ∷ fs) = widened_facility s n f ∷ widened_facilities s (suc n) fs

-- Name, the bounds' constants, and the `=`.
unfoldable pub facility_places_no : List ℕ → ℕ → FacilityPlaces
facility_places_no s n = record {
  name = place_no s (6 * n);
  words_first = place_no s (6 * n + 1);
  words_last = place_no s (6 * n + 2);
  bits_first = place_no s (6 * n + 3);
  bits_last = place_no s (6 * n + 4);
  equals = place_no s (6 * n + 5);
}

unfoldable pub node_places_no : List ℕ → ℕ → NodePlaces
node_places_no s n = record { at = place_no s (3 * n); first = place_no s (3 * n + 1); last = place_no s (3 * n + 2) }

unfoldable pub state_places_no : List ℕ → ℕ → StatePlaces
state_places_no s n = record { at = place_no s (2 * n); value = place_no s (2 * n + 1) }

-- As many places as the bytes allow.
unfoldable pub places_in : Beside → Places
places_in q = record {
  facilities = up_to (facility_places_no q.facilities) 0 (length q.facilities / facility_beside);
  operations = up_to (place_no q.operations) 0 (length q.operations / operation_beside);
  expressions = up_to (node_places_no q.expressions) 0 (length q.expressions / node_beside);
  actions = up_to (place_no q.actions) 0 (length q.actions / action_beside);
  states = up_to (state_places_no q.states) 0 (length q.states / state_beside);
}

-- What sections and the places beside them describe.
unfoldable pub noted_description : Sections → Beside → Description
noted_description x q =
    let d = described x in
    record {
      facilities = widened_facilities q.facilities 0 d.facilities;
      operations = d.operations;
      expressions = widened_nodes q.expressions 0 d.expressions;
      actions = d.actions;
      states = d.states;
    }

unfoldable pub noted : Sections → Beside → Described
noted x q = record { description = noted_description x q; places = places_in q }

-- ---- Writing.

-- A place, and the mark where the number there is above 65,535.
unfoldable pub place_bytes : ℕ → Position → List ℕ
place_bytes n p = two (p.place % large_mark + large_mark * (n / 65536 % 2))

abbrev pub plain_places : NodePlaces → List ℕ
plain_places p = place_bytes 0 p.at ++ (place_bytes 0 p.first ++ place_bytes 0 p.last)

abbrev pub end_places : Bounds → NodePlaces → List ℕ
end_places b p = place_bytes 0 p.at ++ (place_bytes b.first p.first ++ place_bytes b.last p.last)

unfoldable pub node_beside_bytes : Node → NodePlaces → List ℕ
node_beside_bytes (D.constant v) p = plain_places p
node_beside_bytes (D.more n) p = plain_places p
node_beside_bytes (D.whole f) p = plain_places p
node_beside_bytes (D.one f e) p = plain_places p
node_beside_bytes (D.part f b) p = end_places b p
node_beside_bytes (D.two f e g) p = plain_places p
node_beside_bytes (D.word_part f e b) p = end_places b p
node_beside_bytes (D.binary k a b) p = plain_places p
node_beside_bytes (D.prefix k a) p = plain_places p
node_beside_bytes (D.cut k a c) p = plain_places p
node_beside_bytes (D.first_arm e) p = plain_places p
node_beside_bytes (D.next_arm a e) p = plain_places p
node_beside_bytes (D.choice e a n) p = plain_places p
node_beside_bytes D.Node.broken p = plain_places p

unfoldable pub facility_beside_bytes : Facility → FacilityPlaces → List ℕ
facility_beside_bytes f p =
    place_bytes 0 p.name
    ++ (place_bytes f.words.first p.words_first
    ++ (place_bytes f.words.last p.words_last
    ++ (place_bytes f.bits.first p.bits_first
    ++ (place_bytes f.bits.last p.bits_last ++ place_bytes 0 p.equals))))

unfoldable pub state_beside_bytes : StatePlaces → List ℕ
state_beside_bytes p = place_bytes 0 p.at ++ place_bytes 0 p.value
