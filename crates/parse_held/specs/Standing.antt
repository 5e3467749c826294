-- A description and the places of its words, as the tables of the working array hold them.
use Rattle.std.specs.Prelude.{List, [], ◌∷◌, ◌++◌, map, ◌≡◌, ℕ, ◌%◌, ◌<◌, length}
use Rattle.language.specs.Describe.{NotedAction}
use Rattle.language.specs.Description as D
use Rattle.language.specs.Description.{Bounds, Description, Facility, FacilityPlaces, Node, Places, StatePlaces, action_place, bounds, facility_at, facility_place, node_at, node_place, operation_place, state_place}
use Rattle.language.specs.Encode.{action_bytes, concat, facility_records, node_bytes, operation_record, state_record}
use Rattle.language.specs.Words.{Position}
use Rattle.judge_records.specs.Noted.{Beside, facility_beside_bytes, node_beside_bytes, place_bytes, state_beside_bytes}
use Rattle.parse_tables.specs.declared.Table.TheVariants as T
use Rattle.parse_tables.specs.Names.{names_of}
use Rattle.parse_tables.specs.Rows.{rows}
use Rattle.parse_array.specs.Held.{held}
use Rattle.about_images.specs.Back.{InRange}
use Rattle.image_records.proofs.ActionBack.{Fits}
use Rattle.parse_held.specs.declared.Holding.{Holding}

-- What is written of the elements of two lists, pair by pair.
unfoldable pub zipped : {A B : Type 0} → (A → B → List ℕ) → List A → List B → List ℕ
zipped write [] ys = []
zipped write (x ∷ xs) [] = []
zipped write (x ∷ xs) (y ∷ ys) = write x y ++ zipped write xs ys

-- The bytes of places beside the records of a description.
unfoldable pub beside_of : Description → Places → Beside
unfolding zipped
beside_of d p = record {
  facilities = zipped facility_beside_bytes d.facilities p.facilities;
  operations = concat (place_bytes 0) p.operations;
  expressions = zipped node_beside_bytes d.expressions p.expressions;
  actions = concat (place_bytes 0) p.actions;
  states = concat state_beside_bytes p.states;
}

-- The tables have the records and the names.
pub record Stands (text w : List ℕ) (c : Holding) (d : Description) : Type 0 where
  pub facilities : rows T.Facilities c.facilities w ≡ facility_records 0 d.facilities
  pub operations : rows T.Operations c.operations w ≡ concat operation_record d.operations
  pub expressions : (held c.nodes w).nodes ≡ concat node_bytes d.expressions
  pub actions : rows T.Actions c.actions w ≡ concat action_bytes d.actions
  pub states : rows T.States c.states w ≡ concat state_record d.states
  pub facility_names : names_of text (rows T.FacilityNames c.facilities w) c.facilities ≡ map (λ f. f.name) d.facilities
  pub operation_names : names_of text (rows T.OperationNames c.operations w) c.operations ≡ map (λ o. o.name) d.operations
  pub state_names : names_of text (rows T.Labels c.states w) c.states ≡ map (λ s. s.name) d.states

-- And the places beside them.
pub record StandsBeside (w : List ℕ) (c : Holding) (d : Description) (p : Places) : Type 0 where
  pub facilities : rows T.FacilityPlaces c.facilities w ≡ zipped facility_beside_bytes d.facilities p.facilities
  pub operations : rows T.OperationPlaces c.operations w ≡ concat (place_bytes 0) p.operations
  pub expressions : (held c.nodes w).places ≡ zipped node_beside_bytes d.expressions p.expressions
  pub actions : rows T.ActionPlaces c.actions w ≡ concat (place_bytes 0) p.actions
  pub states : rows T.StatePlaces c.states w ≡ concat state_beside_bytes p.states

-- ---- What records and places have room for.

-- Bounds as a record has room for them.
abbrev pub narrow : Bounds → Bounds
narrow b = bounds (b.first % 65536) (b.last % 65536)

abbrev pub narrow_facility : Facility → Facility
narrow_facility f = record {
  name = f.name;
  kind = f.kind;
  dimensions = f.dimensions;
  words = narrow f.words;
  bits = narrow f.bits;
  expression = f.expression;
}

abbrev pub narrow_node : Node → Node
narrow_node (D.constant v) = D.constant v
narrow_node (D.more n) = D.more n
narrow_node (D.whole f) = D.whole f
narrow_node (D.one f e) = D.one f e
narrow_node (D.part f b) = D.part f (narrow b)
narrow_node (D.two f e g) = D.two f e g
narrow_node (D.word_part f e b) = D.word_part f e (narrow b)
narrow_node (D.binary k a b) = D.binary k a b
narrow_node (D.prefix k a) = D.prefix k a
narrow_node (D.cut k a c) = D.cut k a c
narrow_node (D.first_arm e) = D.first_arm e
narrow_node (D.next_arm a e) = D.next_arm a e
narrow_node (D.choice e a n) = D.choice e a n
narrow_node D.Node.broken = D.Node.broken

unfoldable pub narrowed : Description → Description
narrowed d = record {
  facilities = map narrow_facility d.facilities;
  operations = d.operations;
  expressions = map narrow_node d.expressions;
  actions = d.actions;
  states = d.states;
}

-- The ends of a part.
abbrev pub ends_of : Node → Bounds
ends_of (D.constant v) = bounds 0 0
ends_of (D.more n) = bounds 0 0
ends_of (D.whole f) = bounds 0 0
ends_of (D.one f e) = bounds 0 0
ends_of (D.part f b) = b
ends_of (D.two f e g) = bounds 0 0
ends_of (D.word_part f e b) = b
ends_of (D.binary k a b) = bounds 0 0
ends_of (D.prefix k a) = bounds 0 0
ends_of (D.cut k a c) = bounds 0 0
ends_of (D.first_arm e) = bounds 0 0
ends_of (D.next_arm a e) = bounds 0 0
ends_of (D.choice e a n) = bounds 0 0
ends_of D.Node.broken = bounds 0 0

-- Bounds that a mark makes whole again.
abbrev pub Marked : Bounds → Type 0
Marked b = (b.first < 131072) × (b.last < 131072)

-- A place that leaves room for a mark.
abbrev pub Near : Position → Type 0
Near p = p.place < 32768

-- Actions of which records and places have room for all that they say.
abbrev pub ActsFit : List NotedAction → Type 0
ActsFit [] = Unit {0}
ActsFit (a ∷ rest) = (Fits a.action × Near a.at) × ActsFit rest

pub record FacilityNear (p : FacilityPlaces) : Type 0 where
  pub name : Near p.name
  pub words : Near p.words_first × Near p.words_last
  pub bits : Near p.bits_first × Near p.bits_last
  pub equals : Near p.equals

-- All that tables are to hold of a description and its places.
pub record Readable (d : Description) (p : Places) : Type 0 where
  pub range : InRange (narrowed d)
  pub bounds : (n : ℕ) → n < length d.facilities → Marked (facility_at d n).words × Marked (facility_at d n).bits
  pub ends : (n : ℕ) → n < length d.expressions → Marked (ends_of (node_at d n))
  pub beside_facilities : length p.facilities ≡ length d.facilities
  pub beside_nodes : length p.expressions ≡ length d.expressions
  pub facilities : (n : ℕ) → n < length p.facilities → FacilityNear (facility_place p n)
  pub operations : (n : ℕ) → n < length p.operations → Near (operation_place p n)
  pub expressions : (n : ℕ) → n < length p.expressions → Near (node_place p n).at × Near (node_place p n).first × Near (node_place p n).last
  pub actions : (n : ℕ) → n < length p.actions → Near (action_place p n)
  pub states : (n : ℕ) → n < length p.states → Near (state_place p n).at × Near (state_place p n).value
