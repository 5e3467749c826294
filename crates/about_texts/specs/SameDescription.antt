-- What a tree describes, and what it counts, do not depend on the places of its words. Assumes nothing.
use mathlib.Core.List.{List, [], ◌∷◌, ◌++◌, map, map-append}
use Rattle.std.proofs.Math.Option.{Option, none, some}
use Rattle.std.specs.Prelude.{◌≡◌, ℕ, zero, suc, ◌+◌}
use Rattle.std.proofs.Math.Path.{refl, ap}
use Rattle.std.proofs.Common.{sym, ◌∙◌}
use native.Mathlib.Omega.{arith}
use Rattle.std.proofs.Math.ListN.{length, length-map}
use Rattle.language.specs.CountedWords.{WithinCeilings, counted_actions, counted_expression, counted_function, counted_left, counted_operations, counted_reference, counted_states, counted_terminals, counted_words}
use Rattle.language.specs.Describe.{Noted, NotedAction, actions_in, actions_of, arms_in, arms_of, constant_nodes, digits_above, expression_size, expressions_in, left_nodes, left_size, nodes_in, nodes_of, store_of}
use Rattle.language.specs.DescribeText.{bit_bounds, describe, dimensions_of, expressions_of_state, facilities_of, facility_nodes, function_nodes, function_number, function_size, function_sizes, label_of, operation_actions, operation_expressions, operation_nodes, operation_records, operation_scope, operations_of, state_actions, state_nodes, states_of, value_nodes, value_number, value_size, word_bounds}
use Rattle.language.specs.Description.{Action, Node}
use Rattle.language.specs.Naming.{Scope, no_state}
use Rattle.language.specs.Tree as T
use Rattle.language.specs.Tree.{Actions, Declaration, Expression, Extent, Function, Label, Left, Name, Operation, State, StateValue, Text}
use Rattle.language.specs.Value.{Value}
use Rattle.language.specs.Words.{Position}
use Rattle.about_texts.specs.Unplaced.{unplaced_actions, unplaced_declaration, unplaced_expression, unplaced_extent, unplaced_function, unplaced_label, unplaced_left, unplaced_operation, unplaced_state, unplaced_text, unplaced_value}

abbrev nodes : List Noted → List Node
nodes ns = map (λ n. n.node) ns

abbrev acts : List NotedAction → List Action
acts xs = map (λ a. a.action) xs

-- ---- Expressions.

size_same : (e : Expression) → expression_size (unplaced_expression e) ≡ expression_size e
unfolding unplaced_expression expression_size
size_same (T.constant c p) = refl
size_same (T.whole n p) = refl
size_same (T.one n p e) = rw (size_same e) refl
size_same (T.part n p x) = refl
size_same (T.two n p e f) = rw (size_same e, size_same f) refl
size_same (T.word_part n p e x) = rw (size_same e) refl
size_same (T.binary k p e f) = rw (size_same e, size_same f) refl
size_same (T.prefix k p e) = rw (size_same e) refl
size_same (T.cut k p e c) = rw (size_same e) refl
size_same (T.choice p e f) = rw (size_same e, size_same f) refl
size_same (T.first_arm e) = rw (size_same e) refl
size_same (T.next_arm e f) = rw (size_same e, size_same f) refl

arms_same : (e : Expression) → arms_of (unplaced_expression e) ≡ arms_of e
unfolding unplaced_expression arms_of
arms_same (T.constant c p) = refl
arms_same (T.whole n p) = refl
arms_same (T.one n p e) = refl
arms_same (T.part n p x) = refl
arms_same (T.two n p e f) = refl
arms_same (T.word_part n p e x) = refl
arms_same (T.binary k p e f) = refl
arms_same (T.prefix k p e) = refl
arms_same (T.cut k p e c) = refl
arms_same (T.choice p e f) = refl
arms_same (T.first_arm e) = refl
arms_same (T.next_arm e f) = ap suc (arms_same e)

counted_same : (e : Expression) → counted_expression (unplaced_expression e) ≡ counted_expression e
unfolding unplaced_expression counted_expression
counted_same (T.constant c p) = refl
counted_same (T.whole n p) = refl
counted_same (T.one n p e) = rw (counted_same e) refl
counted_same (T.part n p x) = refl
counted_same (T.two n p e f) = rw (counted_same e, counted_same f) refl
counted_same (T.word_part n p e x) = rw (counted_same e) refl
counted_same (T.binary k p e f) = rw (counted_same e, counted_same f) refl
counted_same (T.prefix k p e) = rw (counted_same e) refl
counted_same (T.cut k p e c) = rw (counted_same e) refl
counted_same (T.choice p e f) = rw (counted_same e, counted_same f) refl
counted_same (T.first_arm e) = counted_same e
counted_same (T.next_arm e f) = rw (counted_same e, counted_same f) refl

reference-same : (e : Expression) → counted_reference (unplaced_expression e) ≡ counted_reference e
unfolding unplaced_expression
reference-same (T.constant c p) = refl
reference-same (T.whole n p) = refl
reference-same (T.one n p e) = counted_same e
reference-same (T.part n p x) = refl
reference-same (T.two n p e f) = rw (counted_same e, counted_same f) refl
reference-same (T.word_part n p e x) = counted_same e
reference-same (T.binary k p e f) = refl
reference-same (T.prefix k p e) = refl
reference-same (T.cut k p e c) = refl
reference-same (T.choice p e f) = refl
reference-same (T.first_arm e) = refl
reference-same (T.next_arm e f) = refl

digits_same : (k n : ℕ) (p q : Position) (xs ys : List Noted) → nodes xs ≡ nodes ys → nodes (digits_above k n p xs) ≡ nodes (digits_above k n q ys)
unfolding digits_above
digits_same zero n p q xs ys e = e
digits_same (suc k) n p q xs ys e = rw (digits_same k n p q xs ys e) refl

constant-same : (v : Value) (p q : Position) → nodes (constant_nodes v p) ≡ nodes (constant_nodes v q)
unfolding constant_nodes
constant-same v p q = digits_same _ _ p q _ _ refl

module _ (s : Scope) where
  nodes-same : (base : ℕ) (e : Expression) → nodes (nodes_of s base (unplaced_expression e)) ≡ nodes (nodes_of s base e)
  unfolding unplaced_expression nodes_of
  nodes-same base (T.constant c p) = constant-same c.value _ p
  nodes-same base (T.whole n p) = refl
  nodes-same base (T.one n p e) = simp (map-append, size_same e, nodes-same base e)
  nodes-same base (T.part n p x) = refl
  nodes-same base (T.two n p e f) = simp (map-append, size_same e, size_same f, nodes-same base e, nodes-same (base + expression_size e) f)
  nodes-same base (T.word_part n p e x) = simp (map-append, size_same e, nodes-same base e)
  nodes-same base (T.binary k p e f) = simp (map-append, size_same e, size_same f, nodes-same base e, nodes-same (base + expression_size e) f)
  nodes-same base (T.prefix k p e) = simp (map-append, size_same e, nodes-same base e)
  nodes-same base (T.cut k p e c) = simp (map-append, size_same e, nodes-same base e)
  nodes-same base (T.choice p e f) = simp (map-append, size_same e, size_same f, arms_same f, nodes-same base e, nodes-same (base + expression_size e) f)
  nodes-same base (T.first_arm e) = simp (map-append, size_same e, nodes-same base e)
  nodes-same base (T.next_arm e f) = simp (map-append, size_same e, size_same f, nodes-same base e, nodes-same (base + expression_size e) f)

-- ---- Lists of actions.

left-size-same : (l : Left) → left_size (unplaced_left l) ≡ left_size l
left-size-same (T.single e) = size_same e
left-size-same (T.pair e f) = rw (size_same e, size_same f) refl

left-counted-same : (l : Left) → counted_left (unplaced_left l) ≡ counted_left l
left-counted-same (T.single e) = reference-same e
left-counted-same (T.pair e f) = rw (reference-same e, reference-same f) refl

store_same : (k base : ℕ) (l : Left) (e : Expression) → store_of k base (unplaced_left l) (unplaced_expression e) ≡ store_of k base l e
store_same k base (T.single x) e = rw (size_same x, size_same e) refl
store_same k base (T.pair x y) e = rw (size_same x, size_same y, size_same e) refl

left-nodes-same : (s : Scope) (base : ℕ) (l : Left) → nodes (left_nodes s base (unplaced_left l)) ≡ nodes (left_nodes s base l)
left-nodes-same s base (T.single e) = nodes-same s base e
left-nodes-same s base (T.pair e f) = simp (map-append, size_same e, nodes-same s base e, nodes-same s (base + expression_size e) f)

expressions-same : (a : Actions) → expressions_in (unplaced_actions a) ≡ expressions_in a
unfolding unplaced_actions expressions_in
expressions-same T.done = refl
expressions-same (T.store k p l e a) = rw (left-size-same l, size_same e, expressions-same a) refl
expressions-same (T.set p e a) = rw (size_same e, expressions-same a) refl
expressions-same (T.perform n p a) = expressions-same a
expressions-same (T.goto n p a) = expressions-same a
expressions-same (T.call n p a) = expressions-same a
expressions-same (T.return p a) = expressions-same a
expressions-same (T.when p e l a) = rw (size_same e, expressions-same l, expressions-same a) refl
expressions-same (T.choose p e l a) = rw (size_same e, expressions-same l, expressions-same a) refl
expressions-same (T.arm l a) = rw (expressions-same l, expressions-same a) refl

records-same : (a : Actions) → actions_in (unplaced_actions a) ≡ actions_in a
unfolding unplaced_actions actions_in
records-same T.done = refl
records-same (T.store k p l e a) = rw (records-same a) refl
records-same (T.set p e a) = rw (records-same a) refl
records-same (T.perform n p a) = rw (records-same a) refl
records-same (T.goto n p a) = rw (records-same a) refl
records-same (T.call n p a) = rw (records-same a) refl
records-same (T.return p a) = rw (records-same a) refl
records-same (T.when p e l a) = rw (records-same l, records-same a) refl
records-same (T.choose p e l a) = rw (records-same l, records-same a) refl
records-same (T.arm l a) = rw (records-same l, records-same a) refl

action-arms-same : (a : Actions) → arms_in (unplaced_actions a) ≡ arms_in a
unfolding unplaced_actions arms_in
action-arms-same T.done = refl
action-arms-same (T.store k p l e a) = refl
action-arms-same (T.set p e a) = refl
action-arms-same (T.perform n p a) = refl
action-arms-same (T.goto n p a) = refl
action-arms-same (T.call n p a) = refl
action-arms-same (T.return p a) = refl
action-arms-same (T.when p e l a) = refl
action-arms-same (T.choose p e l a) = refl
action-arms-same (T.arm l a) = ap suc (action-arms-same a)

counted-actions-same : (a : Actions) → counted_actions (unplaced_actions a) ≡ counted_actions a
unfolding unplaced_actions counted_actions
counted-actions-same T.done = refl
counted-actions-same (T.store k p l e a) = rw (left-counted-same l, counted_same e, counted-actions-same a) refl
counted-actions-same (T.set p e a) = rw (reference-same e, counted-actions-same a) refl
counted-actions-same (T.perform n p a) = rw (counted-actions-same a) refl
counted-actions-same (T.goto n p a) = rw (counted-actions-same a) refl
counted-actions-same (T.call n p a) = rw (counted-actions-same a) refl
counted-actions-same (T.return p a) = rw (counted-actions-same a) refl
counted-actions-same (T.when p e l a) = rw (counted_same e, counted-actions-same l, counted-actions-same a) refl
counted-actions-same (T.choose p e l a) = rw (counted_same e, counted-actions-same l, counted-actions-same a) refl
counted-actions-same (T.arm l a) = rw (counted-actions-same l, counted-actions-same a) refl

module _ (s : Scope) where
  nodes-in-same : (base : ℕ) (a : Actions) → nodes (nodes_in s base (unplaced_actions a)) ≡ nodes (nodes_in s base a)
  unfolding unplaced_actions nodes_in
  nodes-in-same base T.done = refl
  nodes-in-same base (T.store k p l e a) =
      simp (map-append, left-size-same l, size_same e, left-nodes-same s base l, nodes-same s (base + left_size l) e, nodes-in-same (base + left_size l + expression_size e) a)
  nodes-in-same base (T.set p e a) = simp (map-append, size_same e, nodes-same s base e, nodes-in-same (base + expression_size e) a)
  nodes-in-same base (T.perform n p a) = nodes-in-same base a
  nodes-in-same base (T.goto n p a) = nodes-in-same base a
  nodes-in-same base (T.call n p a) = nodes-in-same base a
  nodes-in-same base (T.return p a) = nodes-in-same base a
  nodes-in-same base (T.when p e l a) =
      simp (map-append, size_same e, expressions-same l, nodes-same s base e, nodes-in-same (base + expression_size e) l, nodes-in-same (base + expression_size e + expressions_in l) a)
  nodes-in-same base (T.choose p e l a) =
      simp (map-append, size_same e, expressions-same l, nodes-same s base e, nodes-in-same (base + expression_size e) l, nodes-in-same (base + expression_size e + expressions_in l) a)
  nodes-in-same base (T.arm l a) = simp (map-append, expressions-same l, nodes-in-same base l, nodes-in-same (base + expressions_in l) a)

  acts-same : (base : ℕ) (a : Actions) → acts (actions_of s base (unplaced_actions a)) ≡ acts (actions_of s base a)
  unfolding unplaced_actions actions_of
  acts-same base T.done = refl
  acts-same base (T.store k p l e a) = simp (left-size-same l, size_same e, store_same k base l e, acts-same (base + left_size l + expression_size e) a)
  acts-same base (T.set p e a) = simp (size_same e, acts-same (base + expression_size e) a)
  acts-same base (T.perform n p a) = simp (acts-same base a)
  acts-same base (T.goto n p a) = simp (acts-same base a)
  acts-same base (T.call n p a) = simp (acts-same base a)
  acts-same base (T.return p a) = simp (acts-same base a)
  acts-same base (T.when p e l a) =
      simp (map-append, size_same e, expressions-same l, records-same l, acts-same (base + expression_size e) l, acts-same (base + expression_size e + expressions_in l) a)
  acts-same base (T.choose p e l a) =
      simp (map-append, size_same e, expressions-same l, records-same l, action-arms-same l, acts-same (base + expression_size e) l, acts-same (base + expression_size e + expressions_in l) a)
  acts-same base (T.arm l a) = simp (map-append, expressions-same l, records-same l, acts-same base l, acts-same (base + expressions_in l) a)

-- ---- Facilities.

dimensions-same : (x : Extent) → dimensions_of (unplaced_extent x) ≡ dimensions_of x
dimensions-same T.single = refl
dimensions-same (T.row x) = refl
dimensions-same (T.table x y) = refl

words_same : (x : Extent) → word_bounds (unplaced_extent x) ≡ word_bounds x
words_same T.single = refl
words_same (T.row x) = refl
words_same (T.table x y) = refl

bits-same : (x : Extent) → bit_bounds (unplaced_extent x) ≡ bit_bounds x
bits-same T.single = refl
bits-same (T.row x) = refl
bits-same (T.table x y) = refl

function-size-same : (f : Function) → function_size (unplaced_function f) ≡ function_size f
function-size-same T.unspecified = refl
function-size-same T.from_input = refl
function-size-same (T.given p e) = size_same e

function-number-same : (base : ℕ) (f : Function) → function_number base (unplaced_function f) ≡ function_number base f
function-number-same base T.unspecified = refl
function-number-same base T.from_input = refl
function-number-same base (T.given p e) = rw (size_same e) refl

function-nodes-same : (s : Scope) (base : ℕ) (f : Function) → nodes (function_nodes s base (unplaced_function f)) ≡ nodes (function_nodes s base f)
function-nodes-same s base T.unspecified = refl
function-nodes-same s base T.from_input = refl
function-nodes-same s base (T.given p e) = nodes-same s base e

function-counted-same : (f : Function) → counted_function (unplaced_function f) ≡ counted_function f
function-counted-same T.unspecified = refl
function-counted-same T.from_input = refl
function-counted-same (T.given p e) = counted_same e

abbrev bare : List Declaration → List Declaration
bare ds = map unplaced_declaration ds

facilities-same : (base : ℕ) (ds : List Declaration) → facilities_of base (bare ds) ≡ facilities_of base ds
unfolding facilities_of
facilities-same base [] = refl
facilities-same base (d ∷ ds) =
    simp (dimensions-same d.extent, words_same d.extent, bits-same d.extent, function-number-same base d.function, function-size-same d.function, facilities-same (base + function_size d.function) ds)

facility-nodes-same : (before : List Name) (base : ℕ) (ds : List Declaration) → nodes (facility_nodes before base (bare ds)) ≡ nodes (facility_nodes before base ds)
unfolding facility_nodes
facility-nodes-same before base [] = refl
facility-nodes-same before base (d ∷ ds) =
    simp (map-append, function-nodes-same (record { facilities = before; operations = []; state_named = no_state }) base d.function, function-size-same d.function, facility-nodes-same (before ++ d.name ∷ []) (base + function_size d.function) ds)

facility-size-same : (ds : List Declaration) → function_sizes (bare ds) ≡ function_sizes ds
unfolding function_sizes
facility-size-same [] = refl
facility-size-same (d ∷ ds) = simp (function-size-same d.function, facility-size-same ds)

terminals-same : (ds : List Declaration) → counted_terminals (bare ds) ≡ counted_terminals ds
unfolding counted_terminals
terminals-same [] = refl
terminals-same (d ∷ ds) = simp (function-counted-same d.function, terminals-same ds)

facility-names-same : (ds : List Declaration) → map (λ (d : Declaration). d.name) (bare ds) ≡ map (λ (d : Declaration). d.name) ds
facility-names-same [] = refl
facility-names-same (d ∷ ds) = simp (facility-names-same ds)

-- ---- Operations.

abbrev bare_operations : List Operation → List Operation
bare_operations os = map unplaced_operation os

operations-same : (a : ℕ) (os : List Operation) → operations_of a (bare_operations os) ≡ operations_of a os
unfolding operations_of
operations-same a [] = refl
operations-same a (o ∷ os) = simp (records-same o.body, operations-same (a + actions_in o.body) os)

operation-nodes-same : (facilities before : List Name) (base : ℕ) (os : List Operation) → nodes (operation_nodes facilities before base (bare_operations os)) ≡ nodes (operation_nodes facilities before base os)
unfolding operation_nodes
operation-nodes-same facilities before base [] = refl
operation-nodes-same facilities before base (o ∷ os) =
    simp (map-append, nodes-in-same (operation_scope facilities before) base o.body, expressions-same o.body, operation-nodes-same facilities (before ++ o.name ∷ []) (base + expressions_in o.body) os)

operation-acts-same : (facilities before : List Name) (base : ℕ) (os : List Operation) → acts (operation_actions facilities before base (bare_operations os)) ≡ acts (operation_actions facilities before base os)
unfolding operation_actions
operation-acts-same facilities before base [] = refl
operation-acts-same facilities before base (o ∷ os) =
    simp (map-append, acts-same (operation_scope facilities before) base o.body, expressions-same o.body, operation-acts-same facilities (before ++ o.name ∷ []) (base + expressions_in o.body) os)

operation-expressions-same : (os : List Operation) → operation_expressions (bare_operations os) ≡ operation_expressions os
unfolding operation_expressions
operation-expressions-same [] = refl
operation-expressions-same (o ∷ os) = simp (expressions-same o.body, operation-expressions-same os)

operation-records-same : (os : List Operation) → operation_records (bare_operations os) ≡ operation_records os
unfolding operation_records
operation-records-same [] = refl
operation-records-same (o ∷ os) = simp (records-same o.body, operation-records-same os)

operation-counted-same : (os : List Operation) → counted_operations (bare_operations os) ≡ counted_operations os
unfolding counted_operations
operation-counted-same [] = refl
operation-counted-same (o ∷ os) = simp (counted-actions-same o.body, operation-counted-same os)

operation-names-same : (os : List Operation) → map (λ (o : Operation). o.name) (bare_operations os) ≡ map (λ (o : Operation). o.name) os
operation-names-same [] = refl
operation-names-same (o ∷ os) = simp (operation-names-same os)

-- ---- States.

abbrev bare_states : List State → List State
bare_states ss = map unplaced_state ss

label_same : (l : Option Label) → label_of (unplaced_label l) ≡ label_of l
label_same none = refl
label_same (some l) = refl

value-size-same : (l : Option ℕ) (v : Option StateValue) → value_size l (unplaced_value v) ≡ value_size l v
value-size-same l none = refl
value-size-same l (some v) = refl

value-number-same : (base : ℕ) (l : Option ℕ) (v : Option StateValue) → value_number base l (unplaced_value v) ≡ value_number base l v
value-number-same base l none = refl
value-number-same base l (some v) = refl

value-nodes-same : (l : Option ℕ) (v : Option StateValue) → nodes (value_nodes l (unplaced_value v)) ≡ nodes (value_nodes l v)
value-nodes-same l none = refl
value-nodes-same l (some v) = constant-same _ _ v.at

module _ (l : Option ℕ) where
  states-same : (base a : ℕ) (ss : List State) → states_of l base a (bare_states ss) ≡ states_of l base a ss
  unfolding states_of
  states-same base a [] = refl
  states-same base a (s ∷ ss) =
      simp (label_same s.label, value-number-same base l s.value, value-size-same l s.value, expressions-same s.actions, records-same s.actions, states-same (base + expressions_of_state l s) (a + actions_in s.actions) ss)

  module _ (scope : Scope) where
    state-nodes-same : (base : ℕ) (ss : List State) → nodes (state_nodes l scope base (bare_states ss)) ≡ nodes (state_nodes l scope base ss)
    unfolding state_nodes
    state-nodes-same base [] = refl
    state-nodes-same base (s ∷ ss) =
        simp (map-append, value-nodes-same l s.value, value-size-same l s.value, expressions-same s.actions, nodes-in-same scope (base + value_size l s.value) s.actions, state-nodes-same (base + expressions_of_state l s) ss)

    state-acts-same : (base : ℕ) (ss : List State) → acts (state_actions l scope base (bare_states ss)) ≡ acts (state_actions l scope base ss)
    unfolding state_actions
    state-acts-same base [] = refl
    state-acts-same base (s ∷ ss) =
        simp (map-append, value-size-same l s.value, expressions-same s.actions, acts-same scope (base + value_size l s.value) s.actions, state-acts-same (base + expressions_of_state l s) ss)

state-counted-same : (ss : List State) → counted_states (bare_states ss) ≡ counted_states ss
unfolding counted_states
state-counted-same [] = refl
state-counted-same (s ∷ ss) = simp (counted-actions-same s.actions, state-counted-same ss)

state-names-same : (ss : List State) → map (λ (s : State). label_of s.label) (bare_states ss) ≡ map (λ (s : State). label_of s.label) ss
state-names-same [] = refl
state-names-same (s ∷ ss) = simp (label_same s.label, state-names-same ss)

-- ---- The whole.

declared_same : (rs ms ts : List Declaration) → bare rs ++ (bare ms ++ bare ts) ≡ bare (rs ++ (ms ++ ts))
declared_same rs ms ts = simp map-append

pub description-same : (t : Text) → (describe (unplaced_text t)).description ≡ (describe t).description
unfolding describe
description-same t =
    rw (declared_same t.registers t.memories t.terminals)
    (simp (
      facilities-same,
      facility-names-same,
      facility-size-same,
      operations-same,
      operation-names-same,
      operation-expressions-same,
      operation-records-same,
      states-same,
      state-names-same,
      map-append (λ (n : Noted). n.node),
      map-append (λ (a : NotedAction). a.action),
      facility-nodes-same,
      operation-nodes-same,
      operation-acts-same,
      state-nodes-same,
      state-acts-same,
    ))

-- Trees that differ in places alone describe and count the same.
module _ (t u : Text) (e : unplaced_text t ≡ unplaced_text u) where
  pub places-apart : (describe t).description ≡ (describe u).description
  places-apart = sym (description-same t) ∙ ap (λ (x : Text). (describe x).description) e ∙ description-same u

  pub within_same : WithinCeilings t → WithinCeilings u
  unfolding counted_words
  within_same w =
      let rs = ap (λ (x : Text). length x.registers) e in
      let ms = ap (λ (x : Text). length x.memories) e in
      let ts = ap (λ (x : Text). length x.terminals) e in
      let os = ap (λ (x : Text). length x.operations) e in
      let ss = ap (λ (x : Text). length x.states) e in
      let ct = ap (λ (x : Text). counted_terminals x.terminals) e in
      let co = ap (λ (x : Text). counted_operations x.operations) e in
      let cs = ap (λ (x : Text). counted_states x.states) e in
      record {
        facilities = omega (arith, w.facilities, simp length-map at rs, simp length-map at ms, simp length-map at ts);
        operations = omega (arith, w.operations, simp length-map at os);
        states = omega (arith, w.states, simp length-map at ss);
        counted =
            omega (
              arith,
              w.counted,
              ct,
              terminals-same t.terminals,
              terminals-same u.terminals,
              co,
              operation-counted-same t.operations,
              operation-counted-same u.operations,
              cs,
              state-counted-same t.states,
              state-counted-same u.states,
            );
      }
