-- The description of a whole text, and the places of its words.
use Rattle.std.specs.Prelude.{cond, List, [], ◌∷◌, ◌++◌, map, ℕ, ◌+◌, ◌^◌, leb, ltb}
use Rattle.std.proofs.Math.Option.{Option, none, some}
use lib.ListN.{length}
use Rattle.language.specs.Describe.{Noted, NotedAction, actions_in, actions_of, bounds_of, constant_nodes, constant_size, expression_size, expressions_in, last_of, nodes_in, nodes_of}
use Rattle.language.specs.Description.{Bounds, Description, Facility, FacilityPlaces, Operation, Places, Run, State, bounds, nowhere, sequencing_from, word_length}
use Rattle.language.specs.Description as D
use Rattle.language.specs.Naming.{Scope, by_labels, no_state}
use Rattle.language.specs.Tree as T
use Rattle.language.specs.Tree.{Declaration, Extent, Function, Name, StateValue, Text}
use Rattle.language.specs.Value.{Value, value}
use Rattle.language.specs.Ceilings.{longest}
use Rattle.language.specs.Words.{Constant, Position}

-- ---- Facilities.

abbrev pub dimensions_of : Extent → ℕ
dimensions_of T.single = 0
dimensions_of (T.row x) = 1
dimensions_of (T.table x y) = 2

abbrev pub word_bounds : Extent → Bounds
word_bounds T.single = bounds 0 0
word_bounds (T.row x) = bounds 0 0
word_bounds (T.table x y) = bounds_of x

abbrev pub bit_bounds : Extent → Bounds
bit_bounds T.single = bounds 0 0
bit_bounds (T.row x) = bounds_of x
bit_bounds (T.table x y) = bounds_of y

abbrev pub function_size : Function → ℕ
function_size T.unspecified = 0
function_size T.from_input = 0
function_size (T.given p e) = expression_size e

abbrev pub function_number : ℕ → Function → ℕ
function_number base T.unspecified = 0
function_number base T.from_input = 0
function_number base (T.given p e) = last_of base (expression_size e)

abbrev pub function_nodes : Scope → ℕ → Function → List Noted
function_nodes s base T.unspecified = []
function_nodes s base T.from_input = []
function_nodes s base (T.given p e) = nodes_of s base e

abbrev pub equals_place : Function → Position
equals_place T.unspecified = nowhere
equals_place T.from_input = nowhere
equals_place (T.given p e) = p

abbrev pub facility_declared : ℕ → Declaration → Facility
facility_declared base d = record {
  name = d.name;
  kind = d.kind;
  dimensions = dimensions_of d.extent;
  words = word_bounds d.extent;
  bits = bit_bounds d.extent;
  expression = function_number base d.function;
}

abbrev pub places_of : Position → Function → Extent → FacilityPlaces
places_of p f T.single = record { name = p; words_first = nowhere; words_last = nowhere; bits_first = nowhere; bits_last = nowhere; equals = equals_place f }
places_of p f (T.row x) = record { name = p; words_first = nowhere; words_last = nowhere; bits_first = x.first_at; bits_last = x.last_at; equals = equals_place f }
places_of p f (T.table x y) = record { name = p; words_first = x.first_at; words_last = x.last_at; bits_first = y.first_at; bits_last = y.last_at; equals = equals_place f }

unfoldable pub facilities_of : ℕ → List Declaration → List Facility
facilities_of base [] = []
facilities_of base (d ∷ ds) = facility_declared base d ∷ facilities_of (base + function_size d.function) ds

-- A terminal's expression knows the facilities declared before it.
unfoldable pub facility_nodes : List Name → ℕ → List Declaration → List Noted
facility_nodes before base [] = []
facility_nodes before base (d ∷ ds) =
    function_nodes (record { facilities = before; operations = []; state_named = no_state }) base d.function
    ++ facility_nodes (before ++ d.name ∷ []) (base + function_size d.function) ds

unfoldable pub function_sizes : List Declaration → ℕ
function_sizes [] = 0
function_sizes (d ∷ ds) = function_size d.function + function_sizes ds

-- ---- Operations. An operation knows all facilities and the operations declared before it.

abbrev pub run_of : ℕ → ℕ → Run
run_of a n = record { first = a; count = n }

unfoldable pub operations_of : ℕ → List T.Operation → List Operation
operations_of a [] = []
operations_of a (o ∷ os) = record { name = o.name; body = run_of a (actions_in o.body) } ∷ operations_of (a + actions_in o.body) os

module _ (facilities : List Name) where
  abbrev pub operation_scope : List Name → Scope
  operation_scope before = record { facilities = facilities; operations = before; state_named = no_state }

  unfoldable pub operation_nodes : List Name → ℕ → List T.Operation → List Noted
  operation_nodes before base [] = []
  operation_nodes before base (o ∷ os) =
      nodes_in (operation_scope before) base o.body ++ operation_nodes (before ++ o.name ∷ []) (base + expressions_in o.body) os

  unfoldable pub operation_actions : List Name → ℕ → List T.Operation → List NotedAction
  operation_actions before base [] = []
  operation_actions before base (o ∷ os) =
      actions_of (operation_scope before) base o.body ++ operation_actions (before ++ o.name ∷ []) (base + expressions_in o.body) os

unfoldable pub operation_expressions : List T.Operation → ℕ
operation_expressions [] = 0
operation_expressions (o ∷ os) = expressions_in o.body + operation_expressions os

unfoldable pub operation_records : List T.Operation → ℕ
operation_records [] = 0
operation_records (o ∷ os) = actions_in o.body + operation_records os

-- ---- States know every name. A bare value that fits the sequencing register takes its length (01, refusal 9).

unfoldable pub state_constant : Option ℕ → Constant → Value
state_constant none c = c.value
state_constant (some l) c = cond c.bare (cond (ltb c.value.number (2 ^ l)) (value l c.value.number) c.value) c.value

abbrev pub value_size : Option ℕ → Option StateValue → ℕ
value_size l none = 0
value_size l (some v) = constant_size (state_constant l v.constant)

abbrev pub value_number : ℕ → Option ℕ → Option StateValue → Option ℕ
value_number base l none = none
value_number base l (some v) = some (last_of base (constant_size (state_constant l v.constant)))

abbrev pub value_nodes : Option ℕ → Option StateValue → List Noted
value_nodes l none = []
value_nodes l (some v) = constant_nodes (state_constant l v.constant) v.at

abbrev pub label_of : Option T.Label → Name
label_of none = []
label_of (some l) = l.name

abbrev pub value_place : Option StateValue → Position
value_place none = nowhere
value_place (some v) = v.at

module _ (l : Option ℕ) where
  abbrev pub expressions_of_state : T.State → ℕ
  expressions_of_state s = value_size l s.value + expressions_in s.actions

  unfoldable pub states_of : ℕ → ℕ → List T.State → List State
  states_of base a [] = []
  states_of base a (s ∷ ss) =
      record { name = label_of s.label; value = value_number base l s.value; actions = run_of a (actions_in s.actions) }
      ∷ states_of (base + expressions_of_state s) (a + actions_in s.actions) ss

  module _ (scope : Scope) where
    unfoldable pub state_nodes : ℕ → List T.State → List Noted
    state_nodes base [] = []
    state_nodes base (s ∷ ss) =
        value_nodes l s.value ++ (nodes_in scope (base + value_size l s.value) s.actions ++ state_nodes (base + expressions_of_state s) ss)

    unfoldable pub state_actions : ℕ → List T.State → List NotedAction
    state_actions base [] = []
    state_actions base (s ∷ ss) = actions_of scope (base + value_size l s.value) s.actions ++ state_actions (base + expressions_of_state s) ss

-- ---- The whole.

pub record Described : Type 0 where
  pub description : Description
  pub places : Places

-- A register longer than any value is refused where it is declared, before all states; it lends its length to none.
abbrev pub lent : ℕ → Option ℕ
lent l = cond (leb l longest) (some l) none

abbrev pub length_at : List Facility → Option ℕ → Option ℕ
length_at fs none = none
length_at fs (some n) = lent (word_length (lib.ListN.get_or fs n D.no_facility))

unfoldable pub describe : Text → Described
describe t =
    let declared : List Declaration = t.registers ++ (t.memories ++ t.terminals) in
    let names : List Name = map (λ d. d.name) declared in
    let facilities : List Facility = facilities_of 0 declared in
    let l : Option ℕ = length_at facilities (sequencing_from 0 facilities) in
    let scope : Scope = record { facilities = names; operations = map (λ o. o.name) t.operations; state_named = by_labels (map (λ s. label_of s.label) t.states) } in
    let first : ℕ = function_sizes declared in
    let second : ℕ = first + operation_expressions t.operations in
    let nodes : List Noted = facility_nodes [] 0 declared ++ (operation_nodes names [] first t.operations ++ state_nodes l scope second t.states) in
    let acts : List NotedAction = operation_actions names [] first t.operations ++ state_actions l scope second t.states in
    record {
      description = record {
        facilities = facilities;
        operations = operations_of 0 t.operations;
        expressions = map (λ n. n.node) nodes;
        actions = map (λ a. a.action) acts;
        states = states_of l second (operation_records t.operations) t.states;
      };
      places = record {
        facilities = map (λ d. places_of d.at d.function d.extent) declared;
        operations = map (λ o. o.at) t.operations;
        expressions = map (λ n. n.places) nodes;
        actions = map (λ a. a.at) acts;
        states = map (λ s. record { at = s.at; value = value_place s.value }) t.states;
      };
    }
