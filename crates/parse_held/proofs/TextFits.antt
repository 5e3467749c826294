-- THE DESCRIPTION OF A TIDY TEXT WHOSE WORDS STAND NEAR IS READABLE: sections and places beside them hold all of it.
use mathlib.Core.Bool.{Bool, true, false, cond}
use mathlib.Core.List.{List, [], ◌∷◌, ◌++◌, map}
use mathlib.Core.Option.{Option, none, some}
use mathlib.Core.Path.{◌≡◌, refl, sym, ap, ◌∙◌, subst}
use Prim.Native.Nat.{ℕ, zero, suc, ◌+◌, ◌-◌, ◌*◌, ◌<◌, ◌≤◌}
use native.Mathlib.Nat.{zero-add}
use native.Mathlib.Omega.{arith}
use borrow.Author.Tests.{leb-true}
use lib.Dec.{eqb, leb}
use lib.ListN.{get_or-map, get_or, length, length-append, length-map}
use Rattle.language.specs.Describe.{Noted, NotedAction, noted}
use Rattle.language.specs.DescribeText.{describe, facilities_of, facility_nodes, function_sizes, label_of, length_at, operation_actions, operation_expressions, operation_nodes, operation_records, operations_of, places_of, state_actions, state_nodes, states_of, value_place}
use Rattle.language.specs.Description as D
use Rattle.language.specs.Description.{Description, Facility, Node, Operation, Places, State, action_at, action_place, facility_at, facility_place, no_facility, no_run, node_at, node_place, operation_at, operation_place, sequencing_from, span_of, state_at, state_place, word_length}
use Rattle.language.specs.Encode.{concat, name_bytes}
use Rattle.language.specs.Naming.{Scope, by_labels}
use Rattle.language.specs.Tree as T
use Rattle.language.specs.Tree.{Declaration, Name, Text}
use Rattle.language.specs.Ceilings.{longest}
use Rattle.about_rules.specs.InOrder.{state_expressions}
use Rattle.about_rules.specs.LegalTexts.{facilities-nodes, operations-nodes, states-nodes}
use Rattle.about_rules.specs.Runs.{operations-size, state_records, states-size}
use Rattle.about_rules.specs.Sizes.{facilities-count, operations-count, states-count}
use Rattle.about_rules.specs.Tidy.{TextTidy}
use Rattle.about_rules.specs.WithinCounts.{declarations_of, names_in}
use Rattle.image_records.proofs.ActionBack as A
use Rattle.about_images.specs.Back.{FacilityInRange, InRange, NodeInRange, OperationInRange, StateInRange}
use Rattle.about_images.specs.Whole.{encode-long}
use Rattle.parse_held.proofs.ActionsFit.{StatesFit, acts-append}
use Rattle.parse_held.proofs.DeclarationsFit.{DeclarationFits, Each, FacilityFit, LengthFits, declarations-fit, each_append, each_at, facilities-fit, facility-names, facility-places, operation-names, operation-places, operations-fit, state-names, state-places, states-fit}
use Rattle.parse_held.proofs.NarrowBack.{names-narrow}
use Rattle.parse_held.proofs.NodesFit.{AllFit, Here, NodeFits, fit_append, here-left, here-right, number-below}
use Rattle.parse_held.proofs.TextNodesFit.{facility-nodes, operation-acts, operation-nodes, state-acts, state-nodes}
use Rattle.parse_held.specs.NearTexts.{TextNear}
use Rattle.parse_held.specs.Sections.{most_letters}
use Rattle.parse_held.specs.Standing.{ActsFit, FacilityNear, Marked, Near, Readable, ends_of, narrow_facility, narrow_node, narrowed}

-- ---- By number.

module _ (d : Description) where
  here-all : (base : ℕ) (ns : List Noted) → ((j : ℕ) → node_at d (base + j) ≡ get_or (map narrow_node (map (λ n. n.node) ns)) j D.Node.broken) → Here d base ns
  here-all base [] h = tt
  here-all base (n ∷ ns) h =
      let z : base + 0 ≡ base = omega arith in
      (rw z at (h 0), here-all (suc base) ns (λ j. let y : base + suc j ≡ suc base + j = omega arith in rw y at (h (suc j))))

  fit_at : (base : ℕ) (ns : List Noted) (z : Noted) → AllFit d base ns → (n : ℕ) → n < length ns → NodeFits d (base + n) (get_or ns n z)
  fit_at base [] z f n h = absurd (omega arith)
  fit_at base (x ∷ ns) z f zero h = let e : base + 0 ≡ base = omega arith in rw e f.0
  fit_at base (x ∷ ns) z f (suc n) h = let e : base + suc n ≡ suc base + n = omega arith in rw e (fit_at (suc base) ns z f.1 n (omega arith))

act-at : (acts : List NotedAction) (z : NotedAction) → ActsFit acts → (n : ℕ) → n < length acts → A.Fits (get_or acts n z).action × Near (get_or acts n z).at
act-at [] z f n h = absurd (omega arith)
act-at (x ∷ acts) z f zero h = f.0
act-at (x ∷ acts) z f (suc n) h = act-at acts z f.1 n (omega arith)

names-most : {A : Type 0} (name : A → List ℕ) (xs : List A) → Each (λ x. length (name x) ≤ 132) xs → length (concat name xs) ≤ 132 * length xs
unfolding concat
names-most name [] f = omega arith
names-most name (x ∷ xs) f = omega (arith, length-append (name x) (concat name xs), f.0, names-most name xs f.1)

each_map : {A B : Type 0} (P : A → Type 0) (Q : B → Type 0) (g : A → B) (xs : List A) → ((x : A) → P x → Q (g x)) → Each P xs → Each Q (map g xs)
each_map P Q g [] h f = tt
each_map P Q g (x ∷ xs) h f = (h x f.0, each_map P Q g xs h f.1)

-- ---- The whole.

-- As many records as the tables have room for.
pub record Counted (d : Description) : Type 0 where
  pub facilities : length d.facilities ≤ 256
  pub operations : length d.operations ≤ 128
  pub expressions : length d.expressions ≤ 65535
  pub actions : length d.actions ≤ 65535
  pub states : length d.states ≤ 256

module _ {text : List ℕ} (t : Text) (tidy : TextTidy t) (near : TextNear text t) (l : Option ℕ) (fits : LengthFits l) (scope : Scope)
    (few-facilities : length scope.facilities ≤ 256) (few-operations : length scope.operations ≤ 65535) (few-states : StatesFit scope) where
  abbrev ds : List Declaration
  ds = declarations_of t

  abbrev first : ℕ
  first = function_sizes ds

  abbrev second : ℕ
  second = first + operation_expressions t.operations

  abbrev declared : List Noted
  declared = facility_nodes [] 0 ds

  abbrev operated : List Noted
  operated = operation_nodes (names_in t) [] first t.operations

  abbrev stated : List Noted
  stated = state_nodes l scope second t.states

  abbrev all_nodes : List Noted
  all_nodes = declared ++ (operated ++ stated)

  abbrev all_actions : List NotedAction
  all_actions = operation_actions (names_in t) [] first t.operations ++ state_actions l scope second t.states

  abbrev described : Description
  described = record {
    facilities = facilities_of 0 ds;
    operations = operations_of 0 t.operations;
    expressions = map (λ n. n.node) all_nodes;
    actions = map (λ a. a.action) all_actions;
    states = states_of l second (operation_records t.operations) t.states;
  }

  abbrev placed : Places
  placed = record {
    facilities = map (λ d. places_of d.at d.function d.extent) ds;
    operations = map (λ o. o.at) t.operations;
    expressions = map (λ n. n.places) all_nodes;
    actions = map (λ a. a.at) all_actions;
    states = map (λ s. record { at = s.at; value = value_place s.value }) t.states;
  }

  declarations : Each DeclarationFits ds
  declarations =
      each_append DeclarationFits t.registers _ (declarations-fit 0 t.registers tidy.registers near.registers)
      (each_append DeclarationFits t.memories t.terminals (declarations-fit 1 t.memories tidy.memories near.memories) (declarations-fit 2 t.terminals tidy.terminals near.terminals))

  nodes-length : length all_nodes ≡ second + state_expressions l t.states
  nodes-length =
      omega (arith, length-append declared (operated ++ stated), length-append operated stated, facilities-nodes [] 0 ds, operations-nodes (names_in t) [] first t.operations, states-nodes l scope second t.states)

  actions-length : length all_actions ≡ operation_records t.operations + state_records t.states
  actions-length =
      omega (arith, length-append (operation_actions (names_in t) [] first t.operations) (state_actions l scope second t.states), operations-size (names_in t) [] first t.operations, states-size l scope second t.states)

  module _ (few : Counted described) where
    abbrev narrow_of : Description
    narrow_of = narrowed described

    few-nodes : length all_nodes ≤ 65535
    few-nodes = omega (arith, few.expressions, length-map all_nodes (λ (n : Noted). n.node))

    few-actions : length all_actions ≤ 65535
    few-actions = omega (arith, few.actions, length-map all_actions (λ (a : NotedAction). a.action))

    few-declarations : length ds ≤ 256
    few-declarations = omega (arith, few.facilities, facilities-count 0 ds)

    -- ---- Expressions.

    here : Here narrow_of 0 all_nodes
    unfolding node_at narrowed
    here = here-all narrow_of 0 all_nodes (λ j. rw (zero-add j) refl)

    after_first : Here narrow_of first (operated ++ stated)
    after_first = here-right narrow_of 0 declared (operated ++ stated) here first (omega (arith, facilities-nodes [] 0 ds))

    all_fit : AllFit narrow_of 0 all_nodes
    all_fit =
        let n = few-nodes in
        let m = nodes-length in
        fit_append narrow_of 0 declared (operated ++ stated)
        (facility-nodes narrow_of [] 0 ds declarations (omega (arith, few-declarations)) (omega arith) (here-left narrow_of 0 declared (operated ++ stated) here)) first (omega (arith, facilities-nodes [] 0 ds))
        (fit_append narrow_of first operated stated
        (operation-nodes narrow_of text (names_in t) (omega (arith, few-declarations, length-map ds (λ (d : Declaration). d.name))) [] first t.operations tidy.operations near.operations (omega arith) (here-left narrow_of first operated stated after_first))
        second (omega (arith, operations-nodes (names_in t) [] first t.operations))
        (state-nodes narrow_of text l fits scope few-facilities second t.states tidy.states near.states (omega arith)
        (here-right narrow_of first operated stated after_first second (omega (arith, operations-nodes (names_in t) [] first t.operations)))))

    abbrev nowhere : Noted
    nowhere = noted D.Node.broken D.nowhere

    node-fits : (n : ℕ) → n < length all_nodes → NodeFits narrow_of n (get_or all_nodes n nowhere)
    node-fits n h = rw (zero-add n) at (fit_at narrow_of 0 all_nodes nowhere all_fit n h)

    node-is : (n : ℕ) → node_at described n ≡ (get_or all_nodes n nowhere).node
    unfolding node_at
    node-is n = get_or-map (λ (x : Noted). x.node) all_nodes n nowhere

    narrow-is : (n : ℕ) → node_at narrow_of n ≡ narrow_node (get_or all_nodes n nowhere).node
    unfolding node_at narrowed
    narrow-is n = get_or-map narrow_node (map (λ (x : Noted). x.node) all_nodes) n D.Node.broken ∙ ap narrow_node (node-is n)

    places-are : (n : ℕ) → node_place placed n ≡ (get_or all_nodes n nowhere).places
    unfolding node_place
    places-are n = get_or-map (λ (x : Noted). x.places) all_nodes n nowhere

    -- ---- Actions.

    abbrev no_act : NotedAction
    no_act = record { action = D.Action.broken; at = D.nowhere }

    acts : ActsFit all_actions
    acts =
        let n = few-nodes in
        let m = nodes-length in
        let k = actions-length in
        let j = few-actions in
        acts-append (operation_actions (names_in t) [] first t.operations) (state_actions l scope second t.states)
        (operation-acts text (names_in t) [] first t.operations near.operations (omega (arith, few.operations, operations-count 0 t.operations)) (omega arith) (omega arith))
        (state-acts text l scope few-operations few-states second t.states near.states (omega arith) (omega arith))

    action-is : (n : ℕ) → action_at described n ≡ (get_or all_actions n no_act).action
    unfolding action_at
    action-is n = get_or-map (λ (a : NotedAction). a.action) all_actions n no_act

    action-place : (n : ℕ) → action_place placed n ≡ (get_or all_actions n no_act).at
    unfolding action_place
    action-place n = get_or-map (λ (a : NotedAction). a.at) all_actions n no_act

    -- ---- Facilities, operations and states.

    facilities : Each FacilityFit (facilities_of 0 ds)
    facilities = facilities-fit 0 ds declarations (omega (arith, few-nodes, nodes-length))

    operations : Each OperationInRange (operations_of 0 t.operations)
    operations = operations-fit 0 t.operations tidy.operations (omega (arith, few-actions, actions-length))

    states : Each StateInRange (states_of l second (operation_records t.operations) t.states)
    states = states-fit l second (operation_records t.operations) t.states tidy.states (omega (arith, few-nodes, nodes-length)) (omega (arith, few-actions, actions-length))

    narrow-facilities : Each FacilityInRange (map narrow_facility (facilities_of 0 ds))
    narrow-facilities = each_map FacilityFit FacilityInRange narrow_facility (facilities_of 0 ds) (λ f r. r.range) facilities

    pub names-few : length (name_bytes described) ≤ most_letters
    unfolding name_bytes
    names-few =
        let fs = facilities_of 0 ds in
        let os = operations_of 0 t.operations in
        let ss = states_of l second (operation_records t.operations) t.states in
        omega (
          arith,
          names-most (λ (f : Facility). f.name) fs (facility-names 0 ds declarations),
          names-most (λ (o : Operation). o.name) os (operation-names 0 t.operations tidy.operations),
          names-most (λ (s : State). s.name) ss (state-names l second (operation_records t.operations) t.states tidy.states),
          length-append (concat (λ (f : Facility). f.name) fs) (concat (λ (o : Operation). o.name) os ++ concat (λ (s : State). s.name) ss),
          length-append (concat (λ (o : Operation). o.name) os) (concat (λ (s : State). s.name) ss),
          few.facilities,
          few.operations,
          few.states,
        )

    same_names : length (name_bytes narrow_of) ≡ length (name_bytes described)
    unfolding name_bytes narrowed
    same_names = rw (names-narrow (facilities_of 0 ds))

    in-range : InRange narrow_of
    unfolding facility_at operation_at state_at action_at narrowed
    in-range = record {
      facilities = λ n h. each_at FacilityInRange no_facility (map narrow_facility (facilities_of 0 ds)) narrow-facilities n h;
      operations = λ n h. each_at OperationInRange (record { name = []; body = no_run }) (operations_of 0 t.operations) operations n h;
      expressions = λ n h. subst (NodeInRange narrow_of n) (sym (narrow-is n)) (node-fits n (omega (arith, length-map (map (λ (x : Noted). x.node) all_nodes) narrow_node, length-map all_nodes (λ (x : Noted). x.node)))).range;
      actions = λ n h. subst A.Fits (sym (action-is n)) (act-at all_actions no_act acts n (omega (arith, length-map all_actions (λ (a : NotedAction). a.action)))).0;
      states = λ n h. each_at StateInRange (record { name = []; value = none; actions = no_run }) (states_of l second (operation_records t.operations) t.states) states n h;
      whole = omega (
        arith,
        encode-long narrow_of,
        names-few,
        same_names,
        few.facilities,
        few.operations,
        few.expressions,
        few.actions,
        few.states,
        length-map (facilities_of 0 ds) narrow_facility,
        length-map (map (λ (x : Noted). x.node) all_nodes) narrow_node,
      );
    }

    pub text-readable : Readable described placed
    unfolding facility_at facility_place operation_place state_place
    text-readable = record {
      range = in-range;
      bounds = λ n h. let f = each_at FacilityFit no_facility (facilities_of 0 ds) facilities n h in (f.words, f.bits);
      ends = λ n h. subst (λ (x : Node). Marked (ends_of x)) (sym (node-is n)) (node-fits n (omega (arith, length-map all_nodes (λ (x : Noted). x.node)))).ends;
      beside_facilities = length-map ds (λ (d : Declaration). places_of d.at d.function d.extent) ∙ sym (facilities-count 0 ds);
      beside_nodes = length-map all_nodes (λ (x : Noted). x.places) ∙ sym (length-map all_nodes (λ (x : Noted). x.node));
      facilities = λ n h. each_at FacilityNear _ (map (λ (d : Declaration). places_of d.at d.function d.extent) ds) (facility-places ds declarations) n h;
      operations = λ n h. each_at Near D.nowhere (map (λ (o : T.Operation). o.at) t.operations) (operation-places text t.operations near.operations) n h;
      expressions = λ n h. let f = node-fits n (omega (arith, length-map all_nodes (λ (x : Noted). x.places))) in rw (places-are n) (f.at, f.first, f.last);
      actions = λ n h. rw (action-place n) (act-at all_actions no_act acts n (omega (arith, length-map all_actions (λ (a : NotedAction). a.at)))).1;
      states = λ n h. each_at (λ (p : D.StatePlaces). Near p.at × Near p.value) (record { at = D.nowhere; value = D.nowhere }) placed.states (state-places text t.states near.states) n h;
    }

-- ---- The sequencing register.

span-some : (b : D.Bounds) → 1 ≤ span_of b
unfolding span_of
span-some b = go (leb b.first b.last)
  where
    go : (z : Bool) → 1 ≤ cond z (b.last - b.first + 1) (b.first - b.last + 1)
    go true = omega arith
    go false = omega arith

pub word_some : (f : Facility) → 1 ≤ word_length f
unfolding word_length
word_some f = go (eqb f.dimensions 0)
  where
    go : (z : Bool) → 1 ≤ cond z 1 (span_of f.bits)
    go true = omega arith
    go false = span-some f.bits

-- The sequencing register lends no length that values have not.
length-fits : (fs : List Facility) (n : Option ℕ) → LengthFits (length_at fs n)
unfolding longest
length-fits fs none = tt
length-fits fs (some n) = go (leb (word_length (get_or fs n no_facility)) 256) refl
  where
    go : (z : Bool) → leb (word_length (get_or fs n no_facility)) 256 ≡ z → LengthFits (cond z (some (word_length (get_or fs n no_facility))) none)
    go true e = (word_some (get_or fs n no_facility), leb-true _ _ e)
    go false e = tt

module _ {text : List ℕ} (t : Text) (tidy : TextTidy t) (near : TextNear text t) (few : Counted (describe t).description) where
  abbrev length-of : Option ℕ
  length-of = length_at (facilities_of 0 (declarations_of t)) (sequencing_from 0 (facilities_of 0 (declarations_of t)))

  fitting : LengthFits length-of
  fitting = length-fits (facilities_of 0 (declarations_of t)) (sequencing_from 0 (facilities_of 0 (declarations_of t)))

  abbrev labels : List Name
  labels = map (λ s. label_of s.label) t.states

  abbrev scope_of : Scope
  scope_of = record { facilities = names_in t; operations = map (λ o. o.name) t.operations; state_named = by_labels labels }

  few-names : length scope_of.facilities ≤ 256
  unfolding describe
  few-names = omega (arith, few.facilities, facilities-count 0 (declarations_of t), length-map (declarations_of t) (λ (d : Declaration). d.name))

  few-named : length scope_of.operations ≤ 65535
  unfolding describe
  few-named = omega (arith, few.operations, operations-count 0 t.operations, length-map t.operations (λ (o : T.Operation). o.name))

  few-labels : StatesFit scope_of
  unfolding describe
  few-labels n k l e =
      omega (
        arith,
        number-below n 0 labels e,
        few.states,
        states-count length-of (function_sizes (declarations_of t) + operation_expressions t.operations) (operation_records t.operations) t.states,
        length-map t.states (λ (s : T.State). label_of s.label),
      )

  pub readable : Readable (describe t).description (describe t).places
  unfolding describe
  readable = text-readable t tidy near length-of fitting scope_of few-names few-named few-labels few

  pub text-names : length (name_bytes (describe t).description) ≤ most_letters
  unfolding describe
  text-names = names-few t tidy near length-of fitting scope_of few-names few-named few-labels few
