-- THE DESCRIPTION OF A LEGAL TEXT IS IN LEGAL FORM: so the image that reading writes of it is one that the check asks for. Assumes nothing.
use Rattle.std.specs.Prelude.{true, ◌≡◌, refl, ℕ, suc, ◌+◌, ◌≤◌, get_or, length}
use mathlib.Core.List.{List, [], ◌∷◌, ◌++◌, map}
use Rattle.std.proofs.Math.Option.{Option, none, some}
use Rattle.std.proofs.Common.{sym, ◌∙◌, arith, eq-eqb, length-append}
use Rattle.std.proofs.Math.Path.{ap}
use Rattle.std.proofs.lemmas.List.{length-map}
use Rattle.language.specs.Canonical.{canonical}
use Rattle.language.specs.Describe.{Noted, NotedAction, expressions_in, nodes_in}
use Rattle.language.specs.DescribeText as X
use Rattle.language.specs.DescribeText.{describe, facilities_of, facility_nodes, function_size, function_sizes, operation_actions, operation_expressions, operation_nodes, operation_records, operations_of, state_actions, state_nodes, states_of}
use Rattle.language.specs.Description as D
use Rattle.language.specs.Description.{Description, Facility, Operation, State, action_at, facility_at, node_at, no_places, operation_at, state_at}
use Rattle.language.specs.Image as Image
use Rattle.language.specs.Image.{legal_form}
use Rattle.language.specs.Naming.{Scope, no_state}
use Rattle.language.specs.Order.{facility_roots, operation_roots, state_roots, trees_end, trees_right}
use Rattle.language.specs.Rules.{faults}
use Rattle.language.specs.Tree as T
use Rattle.language.specs.Tree.{Declaration, Name, Text}
use Rattle.about_rules.specs.Declared.{both_so, facilities-right, labels_right, names-right, operations-right}
use Rattle.about_rules.specs.FaultsAlike.{faultless-anywhere}
use Rattle.about_rules.specs.InOrder.{Facilities, Operations, States, facilities-end, last-suited, operations-end, state_expressions, states-end, suited}
use Rattle.about_rules.specs.Roots.{StandActions, actions-left, actions-right, trees-join}
use Rattle.about_rules.specs.Runs.{operations-size, runs-right}
use Rattle.about_rules.specs.Sizes.{function-size, in_size, value-size}
use Rattle.about_rules.specs.Starts.{Stand, stand-left, stand-right}
use Rattle.about_rules.specs.Tidy.{TextTidy}
use Rattle.about_rules.specs.TidyTexts.{tidy}
use Rattle.about_rules.specs.WithinCounts.{counts-right, declarations_of, names_in}

-- ---- What a section holds stands at its numbers.

module _ (d : Description) where
  nodes-stand : (base : ℕ) (ns : List Noted) → ((j : ℕ) → node_at d (base + j) ≡ get_or (map (λ n. n.node) ns) j D.Node.broken) → Stand d base ns
  nodes-stand base [] h = tt
  nodes-stand base (n ∷ ns) h =
      let z : base + 0 ≡ base = omega arith in
      (rw z at (h 0), nodes-stand (suc base) ns (λ j. let y : base + suc j ≡ suc base + j = omega arith in rw y at (h (suc j))))

  actions-stand : (base : ℕ) (ns : List NotedAction) → ((j : ℕ) → action_at d (base + j) ≡ get_or (map (λ n. n.action) ns) j D.Action.broken) → StandActions d base ns
  actions-stand base [] h = tt
  actions-stand base (n ∷ ns) h =
      let z : base + 0 ≡ base = omega arith in
      (rw z at (h 0), actions-stand (suc base) ns (λ j. let y : base + suc j ≡ suc base + j = omega arith in rw y at (h (suc j))))

  module _ (none-there : faults d no_places ≡ []) where
    facilities-stand : (n : ℕ) (fs : List Facility) → n + length fs ≤ length d.facilities → ((j : ℕ) → facility_at d (n + j) ≡ get_or fs j D.no_facility) → Facilities d none-there n fs
    facilities-stand n [] l h = tt
    facilities-stand n (f ∷ fs) l h =
        let z : n + 0 ≡ n = omega arith in
        ((rw z at (h 0), omega arith), facilities-stand (suc n) fs (omega arith) (λ j. let y : n + suc j ≡ suc n + j = omega arith in rw y at (h (suc j))))

    operations-stand : (n : ℕ) (os : List Operation) → n + length os ≤ length d.operations → ((j : ℕ) → operation_at d (n + j) ≡ get_or os j (record { name = []; body = D.no_run })) → Operations d none-there n os
    operations-stand n [] l h = tt
    operations-stand n (o ∷ os) l h =
        let z : n + 0 ≡ n = omega arith in
        ((rw z at (h 0), omega arith), operations-stand (suc n) os (omega arith) (λ j. let y : n + suc j ≡ suc n + j = omega arith in rw y at (h (suc j))))

    states-stand : (n : ℕ) (ss : List State) → n + length ss ≤ length d.states → ((j : ℕ) → state_at d (n + j) ≡ get_or ss j (record { name = []; value = none; actions = D.no_run })) → States d none-there n ss
    states-stand n [] l h = tt
    states-stand n (s ∷ ss) l h =
        let z : n + 0 ≡ n = omega arith in
        ((rw z at (h 0), omega arith), states-stand (suc n) ss (omega arith) (λ j. let y : n + suc j ≡ suc n + j = omega arith in rw y at (h (suc j))))

-- ---- How many expression records the sections have.

pub facilities-nodes : (before : List Name) (base : ℕ) (ds : List Declaration) → length (facility_nodes before base ds) ≡ function_sizes ds
unfolding facility_nodes function_sizes
facilities-nodes before base [] = refl
facilities-nodes before base (d ∷ ds) =
    let s : Scope = record { facilities = before; operations = []; state_named = no_state } in
    let next = base + function_size d.function in
    omega (arith, length-append (X.function_nodes s base d.function) (facility_nodes (before ++ d.name ∷ []) next ds), function-size s base d.function, facilities-nodes (before ++ d.name ∷ []) next ds)

pub operations-nodes : (facilities before : List Name) (base : ℕ) (os : List T.Operation) → length (operation_nodes facilities before base os) ≡ operation_expressions os
unfolding operation_nodes operation_expressions
operations-nodes facilities before base [] = refl
operations-nodes facilities before base (o ∷ os) =
    let s = X.operation_scope facilities before in
    let next = base + expressions_in o.body in
    omega (arith, length-append (nodes_in s base o.body) (operation_nodes facilities (before ++ o.name ∷ []) next os), in_size s base o.body, operations-nodes facilities (before ++ o.name ∷ []) next os)

pub states-nodes : (l : Option ℕ) (scope : Scope) (base : ℕ) (ss : List T.State) → length (state_nodes l scope base ss) ≡ state_expressions l ss
unfolding state_nodes state_expressions
states-nodes l scope base [] = refl
states-nodes l scope base (s ∷ ss) =
    let from = base + X.value_size l s.value in
    let next = base + X.expressions_of_state l s in
    omega (
      arith,
      length-append (X.value_nodes l s.value) (nodes_in scope from s.actions ++ state_nodes l scope next ss),
      length-append (nodes_in scope from s.actions) (state_nodes l scope next ss),
      value-size l s.value,
      in_size scope from s.actions,
      states-nodes l scope next ss,
    )

-- ---- Trees in order.

module _ (t : Text) (h : TextTidy t) (l : Option ℕ) (scope : Scope) where
  abbrev first : ℕ
  first = function_sizes (declarations_of t)

  abbrev second : ℕ
  second = first + operation_expressions t.operations

  abbrev stated : List Noted
  stated = state_nodes l scope second t.states

  abbrev operated : List Noted
  operated = operation_nodes (names_in t) [] first t.operations

  abbrev all_nodes : List Noted
  all_nodes = facility_nodes [] 0 (declarations_of t) ++ (operated ++ stated)

  abbrev all_actions : List NotedAction
  all_actions = operation_actions (names_in t) [] first t.operations ++ state_actions l scope second t.states

  abbrev described : Description
  described = record {
    facilities = facilities_of 0 (declarations_of t);
    operations = operations_of 0 t.operations;
    expressions = map (λ n. n.node) all_nodes;
    actions = map (λ a. a.action) all_actions;
    states = states_of l second (operation_records t.operations) t.states;
  }

  all-length : length described.expressions ≡ second + state_expressions l t.states
  all-length =
      omega (
        arith,
        length-map all_nodes (λ (n : Noted). n.node),
        length-append (facility_nodes [] 0 (declarations_of t)) (operated ++ stated),
        length-append operated stated,
        facilities-nodes [] 0 (declarations_of t),
        operations-nodes (names_in t) [] first t.operations,
        states-nodes l scope second t.states,
      )

  zero-plus : (n : ℕ) → 0 + n ≡ n
  zero-plus n = omega arith

  module _ (none-there : faults described no_places ≡ []) where
    stand : Stand described 0 all_nodes
    unfolding node_at
    stand = nodes-stand described 0 all_nodes (λ j. rw (zero-plus j) refl)

    stand-actions : StandActions described 0 all_actions
    unfolding action_at
    stand-actions = actions-stand described 0 all_actions (λ j. rw (zero-plus j) refl)

    terminals-so : trees_end described 0 (facility_roots described described.facilities) ≡ some first
    unfolding facility_at
    terminals-so =
        facilities-end described none-there 0 0 [] (declarations_of t) (suited 0 t.registers _ h.registers (suited 1 t.memories _ h.memories (last-suited 2 t.terminals h.terminals)))
        (facilities-stand described none-there 0 described.facilities (omega arith) (λ j. rw (zero-plus j) refl)) (omega (arith, all-length)) (stand-left described 0 (facility_nodes [] 0 (declarations_of t)) _ stand)
        ∙ ap some (zero-plus first)

    after-terminals : Stand described first (operated ++ stated)
    after-terminals = stand-right described 0 (facility_nodes [] 0 (declarations_of t)) _ stand first (let z = facilities-nodes [] 0 (declarations_of t) in omega (arith, z))

    operations-so : trees_end described first (operation_roots described described.operations) ≡ some second
    unfolding operation_at
    operations-so =
        operations-end described none-there 0 first 0 (names_in t) [] t.operations h.operations
        (operations-stand described none-there 0 described.operations (omega arith) (λ j. rw (zero-plus j) refl)) (omega (arith, all-length))
        (stand-left described first operated _ after-terminals) (actions-left described 0 (operation_actions (names_in t) [] first t.operations) _ stand-actions)

    states-so : trees_end described second (state_roots described described.states) ≡ some (second + state_expressions l t.states)
    unfolding state_at
    states-so =
        states-end described none-there l scope 0 second (operation_records t.operations) t.states h.states
        (states-stand described none-there 0 described.states (omega arith) (λ j. rw (zero-plus j) refl)) (omega (arith, all-length))
        (stand-right described first operated _ after-terminals second (let z = operations-nodes (names_in t) [] first t.operations in omega (arith, z)))
        (actions-right described 0 (operation_actions (names_in t) [] first t.operations) _ stand-actions (operation_records t.operations) (let z = operations-size (names_in t) [] first t.operations in omega (arith, z)))

    pub trees-right : trees_right described ≡ true
    unfolding trees_right
    trees-right =
        rw (trees-join described 0 first (facility_roots described described.facilities) _ terminals-so
        ∙ trees-join described first second (operation_roots described described.operations) _ operations-so ∙ states-so)
        (eq-eqb _ _ (sym all-length))

-- ---- The whole.

module _ (t : Text) (legal : Image.Legal t) where
  text-tidy : TextTidy t
  text-tidy = tidy legal.derived legal.right

  pub no-fault : faults (describe t).description no_places ≡ []
  no-fault = faultless-anywhere (describe t).description (describe t).places no_places legal.faultless

  pub canonical-so : canonical (describe t).description ≡ true
  unfolding canonical describe
  canonical-so =
      both_so (counts-right t text-tidy legal.within)
      (both_so (facilities-right t.registers t.memories t.terminals text-tidy.registers text-tidy.memories text-tidy.terminals)
      (both_so (names-right t.registers t.memories t.terminals text-tidy.registers text-tidy.memories text-tidy.terminals)
      (both_so (operations-right 0 t.operations text-tidy.operations)
      (both_so (labels_right _ _ _ t.states text-tidy.states) (both_so (trees-right t text-tidy _ _ no-fault) (runs-right t))))))

  pub in-legal-form : legal_form (describe t).description ≡ true
  unfolding legal_form
  in-legal-form = both_so canonical-so (rw no-fault refl)
