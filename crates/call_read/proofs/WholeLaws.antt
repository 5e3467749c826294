-- THE ARRAY HOLDS THE TEXT: what was written section by section are the records of the description and the places beside them.
use mathlib.Core.List.{List, [], ◌∷◌, ◌++◌, map}
use mathlib.Core.Option.{Option}
use mathlib.Core.Path.{◌≡◌, refl, sym, ap, ◌∙◌}
use Prim.Native.Nat.{ℕ, ◌+◌}
use native.Mathlib.Omega.{arith}
use Rattle.parse_step.specs.declared.State.{State}
use Rattle.parse_facilities.specs.Listed.{besides, none_held}
use Rattle.language.specs.Describe.{Noted, NotedAction}
use Rattle.language.specs.DescribeText.{describe, expressions_of_state, facilities_of, facility_declared, facility_nodes, function_size, function_sizes, label_of, operation_actions, operation_expressions, operation_nodes, operation_records, operations_of, places_of, state_actions, state_nodes, states_of, value_place}
use Rattle.language.specs.Describe.{actions_in}
use Rattle.language.specs.Description.{Facility, Operation, State as Said}
use Rattle.language.specs.Encode.{action_bytes, concat, node_bytes, state_record}
use Rattle.language.specs.Naming.{Scope}
use Rattle.language.specs.Tree as T
use Rattle.language.specs.Tree.{Declaration, Name, Text}
use Rattle.about_rules.specs.WithinCounts.{declarations_of}
use Rattle.judge_records.specs.Noted.{facility_beside_bytes, node_beside_bytes, place_bytes, state_beside_bytes}
use Rattle.parse_sections.specs.Sections.{Ready}
use Rattle.parse_stores.specs.Actions.{front_of}
use Rattle.parse_states.specs.Begins.{length_of}
use Rattle.parse_states.specs.Written.{Written, labels_of}
use Rattle.parse_tables.proofs.NamesGrown.{names-few, no_names}
use Rattle.parse_tables.specs.declared.Table.TheVariants as Tb
use Rattle.parse_tables.specs.Names.{names_of}
use Rattle.parse_tables.specs.Rows.{rows}
use Rattle.text_words.specs.declared.Word.{Word}
use Rattle.parse_array.proofs.NodesAdded.{nodes-append, concat-append}
use Rattle.parse_array.specs.Held.{Held, held, with_nodes}
use Rattle.parse_held.proofs.Resolving.{labelled_in}
use Rattle.parse_held.proofs.StandingLaws.{zipped-one}
use Rattle.parse_held.specs.Sections.{Few}
use Rattle.parse_held.specs.Standing.{zipped}
use Rattle.call_read.proofs.Fronts.{concat-mapped, rows_none}
use Rattle.call_read.specs.Ready.{Whole, length_in, tallied}

-- The names known with some labels.
abbrev pub named : List Declaration → List T.Operation → List Name → Scope
named ds os labels = labelled_in (map (λ d. d.name) ds) (map (λ o. o.name) os) labels

-- ---- Lists.

facilities-named : (base : ℕ) (ds : List Declaration) → map (λ (d : Declaration). d.name) ds ≡ map (λ (f : Facility). f.name) (facilities_of base ds)
unfolding facilities_of
facilities-named base [] = refl
facilities-named base (d ∷ ds) = ap (λ (l : List Name). d.name ∷ l) (facilities-named (base + function_size d.function) ds)

operations-named : (a : ℕ) (os : List T.Operation) → map (λ (o : T.Operation). o.name) os ≡ map (λ (o : Operation). o.name) (operations_of a os)
unfolding operations_of
operations-named a [] = refl
operations-named a (o ∷ os) = ap (λ (l : List Name). o.name ∷ l) (operations-named (a + actions_in o.body) os)

states-named : (l : Option ℕ) (base a : ℕ) (ss : List T.State) → labels_of ss ≡ map (λ (s : Said). s.name) (states_of l base a ss)
unfolding states_of
states-named l base a [] = refl
states-named l base a (s ∷ ss) = ap (λ (n : List Name). label_of s.label ∷ n) (states-named l (base + expressions_of_state l s) (a + actions_in s.actions) ss)

pub besides-zipped : (base : ℕ) (ds : List Declaration) → besides base ds ≡ zipped facility_beside_bytes (facilities_of base ds) (map (λ (d : Declaration). places_of d.at d.function d.extent) ds)
unfolding besides zipped facilities_of
besides-zipped base [] = refl
besides-zipped base (d ∷ ds) =
    ap (λ (l : List ℕ). facility_beside_bytes (facility_declared base d) (places_of d.at d.function d.extent) ++ l) (besides-zipped (base + function_size d.function) ds)

-- Records of two lists, one behind the other.
two-mapped : {A B : Type 0} (f : B → List ℕ) (g : A → B) (xs ys : List A) → concat (λ x. f (g x)) xs ++ concat (λ x. f (g x)) ys ≡ concat f (map g (xs ++ ys))
two-mapped f g xs ys = sym (concat-append (λ x. f (g x)) xs ys) ∙ concat-mapped f g (xs ++ ys)

module _ (n : ℕ) (w : List ℕ) (xs : List Noted) (e : front_of n w ≡ with_nodes (none_held []) xs) where
  nodes-held : (held n w).nodes ≡ concat node_bytes (map (λ (x : Noted). x.node) xs)
  unfolding front_of with_nodes
  nodes-held = ap (λ (h : Held). h.nodes) e ∙ concat-mapped node_bytes (λ (x : Noted). x.node) xs

  places-held : (held n w).places ≡ zipped node_beside_bytes (map (λ (x : Noted). x.node) xs) (map (λ (x : Noted). x.places) xs)
  unfolding front_of with_nodes
  places-held = ap (λ (h : Held). h.places) e ∙ sym (zipped-one node_beside_bytes (λ (x : Noted). x.node) (λ (x : Noted). x.places) xs)

-- There are no labels before the first state.
pub none-labelled : (text w : List ℕ) {n : ℕ} → n ≡ 0 → names_of text (rows Tb.Labels n w) n ≡ []
none-labelled text w e = rw e (sym (no_names text Tb.Labels w ∙ names-few text Tb.Labels w 0 (omega arith)))

-- ---- The whole.

module _ (t : Text) {text : List ℕ} {w : Word} {s s' : State} {l : ℕ} {w₂ w₃ : List ℕ} (a : Ready text (declarations_of t) t.operations w s w₂) (e : length_of l ≡ length_in (declarations_of t))
    (x : Written text (named (declarations_of t) t.operations (labels_of t.states)) l t.states s w₂ s' w₃) (few : Few (tallied s s')) where
  abbrev ds : List Declaration
  ds = declarations_of t

  abbrev sc : Scope
  sc = named ds t.operations (labels_of t.states)

  abbrev first : ℕ
  first = function_sizes ds

  abbrev second : ℕ
  second = first + operation_expressions t.operations

  abbrev before : List Noted
  before = facility_nodes [] 0 ds

  abbrev between : List Noted
  between = operation_nodes sc.facilities [] first t.operations

  abbrev stated : List Noted
  stated = state_nodes (length_in ds) sc second t.states

  abbrev operated : List NotedAction
  operated = operation_actions sc.facilities [] first t.operations

  abbrev acted : List NotedAction
  acted = state_actions (length_in ds) sc second t.states

  at_second : s.nodes ≡ second
  at_second = a.standing.bodies.nodes

  nodes-are : front_of s'.nodes w₃ ≡ with_nodes (none_held []) (before ++ (between ++ stated))
  nodes-are =
      x.expressions
      ∙ ap (λ (h : Held). with_nodes h (state_nodes (length_of l) sc s.nodes t.states)) a.standing.bodies.expressions
      ∙ ap (λ (ns : List Noted). with_nodes (with_nodes (with_nodes (none_held []) before) between) ns) (rw (e, at_second))
      ∙ sym (nodes-append (with_nodes (none_held []) before) between stated)
      ∙ sym (nodes-append (none_held []) before (between ++ stated))

  actions-are : rows Tb.Actions s'.actions w₃ ≡ concat action_bytes (map (λ (y : NotedAction). y.action) (operated ++ acted))
  actions-are =
      x.actions ∙ rw (a.standing.bodies.records, e, at_second) (two-mapped action_bytes (λ (y : NotedAction). y.action) operated acted)

  action-places-are : rows Tb.ActionPlaces s'.actions w₃ ≡ concat (place_bytes 0) (map (λ (y : NotedAction). y.at) (operated ++ acted))
  action-places-are =
      x.action_places ∙ rw (a.standing.bodies.places, e, at_second) (two-mapped (place_bytes 0) (λ (y : NotedAction). y.at) operated acted)

  states-are : rows Tb.States s'.states w₃ ≡ concat state_record (states_of (length_in ds) second (operation_records t.operations) t.states)
  states-are = x.records ∙ rw (a.standing.states, rows_none Tb.States w₂, e, at_second, a.standing.bodies.count)

  state-places-are : rows Tb.StatePlaces s'.states w₃ ≡ concat state_beside_bytes (map (λ (y : T.State). record { at = y.at; value = value_place y.value }) t.states)
  state-places-are = x.places ∙ rw (a.standing.states, rows_none Tb.StatePlaces w₂) (concat-mapped state_beside_bytes (λ (y : T.State). record { at = y.at; value = value_place y.value }) t.states)

  pub whole_of : Whole text w₃ (tallied s s') t
  unfolding describe
  whole_of = record {
    few = few;
    stands = record {
      facilities = x.tables Tb.Facilities refl s.known few.facilities ∙ a.facilities.records;
      operations = x.tables Tb.Operations refl s.operations few.operations ∙ a.standing.tabled.records;
      expressions = nodes-held s'.nodes w₃ (before ++ (between ++ stated)) nodes-are;
      actions = actions-are;
      states = states-are;
      facility_names = ap (λ (v : List ℕ). names_of text v s.known) (x.tables Tb.FacilityNames refl s.known few.facilities)
          ∙ sym (names-few text Tb.FacilityNames w₂ s.known few.facilities) ∙ a.facilities.names ∙ facilities-named 0 ds;
      operation_names = ap (λ (v : List ℕ). names_of text v s.operations) (x.tables Tb.OperationNames refl s.operations few.operations)
          ∙ a.standing.tabled.names ∙ operations-named 0 t.operations;
      state_names = x.labels ∙ ap (λ (ns : List Name). ns ++ labels_of t.states) (none-labelled text w₂ a.standing.states) ∙ states-named (length_in ds) second (operation_records t.operations) t.states;
    };
    beside = record {
      facilities = x.tables Tb.FacilityPlaces refl s.known few.facilities ∙ a.facilities.places ∙ besides-zipped 0 ds;
      operations = x.tables Tb.OperationPlaces refl s.operations few.operations ∙ a.standing.tabled.places ∙ concat-mapped (place_bytes 0) (λ (o : T.Operation). o.at) t.operations;
      expressions = places-held s'.nodes w₃ (before ++ (between ++ stated)) nodes-are;
      actions = action-places-are;
      states = state-places-are;
    };
  }

-- The same, where the sections of the text are given by themselves.
pub whole-at : (t : Text) {ds : List Declaration} {os : List T.Operation} {ss : List T.State} → declarations_of t ≡ ds → t.operations ≡ os → t.states ≡ ss
    → {text : List ℕ} {w : Word} {s s' : State} {l : ℕ} {w₂ w₃ : List ℕ} → Ready text ds os w s w₂ → length_of l ≡ length_in ds
    → Written text (named ds os (labels_of ss)) l ss s w₂ s' w₃ → Few (tallied s s') → Whole text w₃ (tallied s s') t
whole-at t i j k a e x few = whole_of t (rw (← i, ← j) at a) (rw (← i) at e) (rw (← i, ← j, ← k) at x) few
