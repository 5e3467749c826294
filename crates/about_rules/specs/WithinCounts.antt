-- The counts of a tidy text within the ceilings are right. Assumes nothing.
use Rattle.std.specs.Prelude.{true, ◌≡◌, refl, ℕ, ◌+◌, ◌-◌, ◌≤◌, ◌<◌, length}
use mathlib.Core.List.{List, [], ◌∷◌, ◌++◌, map}
use Rattle.std.proofs.Math.Option.{Option, none, some}
use native.Mathlib.Omega.{arith}
use Rattle.std.proofs.Common.{le-leb, lt-ltb, length-append}
use Rattle.language.specs.Canonical.{counted_records, counts_right, rank_of, total, value_count}
use Rattle.language.specs.CountedWords.{WithinCeilings, counted_function, counted_operations, counted_states, counted_terminals, counted_words}
use Rattle.language.specs.Describe.{Noted, NotedAction, actions_in, actions_of, expressions_in, nodes_in}
use Rattle.language.specs.DescribeText as X
use Rattle.language.specs.DescribeText.{describe, expressions_of_state, facilities_of, facility_nodes, function_nodes, function_size, operation_actions, operation_nodes, operation_scope, operations_of, state_actions, state_constant, state_nodes, states_of, value_nodes, value_number, value_size}
use Rattle.language.specs.Description.{Description}
use Rattle.language.specs.Ceilings.{most_counted, most_facilities, most_operations, most_states}
use Rattle.language.specs.Naming.{Scope, no_state}
use Rattle.language.specs.Tree as T
use Rattle.language.specs.Tree.{Declaration, Extent, Function, Kind, Name, Operation, State, StateValue, Text}
use Rattle.about_rules.specs.Counted.{Within, actions-counted, acts, acts-append, constant-count, counted, lefts, lefts-append, nodes, nodes-append}
use Rattle.about_rules.specs.Declared.{both_so}
use Rattle.about_rules.specs.Sizes.{facilities-count, operations-count, states-count}
use Rattle.about_rules.specs.Tidy.{DeclarationsTidy, OperationsTidy, StatesTidy, Suits, TextTidy}

-- ---- Facilities.

function-count : (s : Scope) (base : ℕ) (f : Function) → nodes (function_nodes s base f) ≤ counted_function f
unfolding total
function-count s base T.unspecified = omega arith
function-count s base T.from_input = omega arith
function-count s base (T.given p e) = counted s base e

facilities-counted : (before : List Name) (base : ℕ) (ds : List Declaration) → nodes (facility_nodes before base ds) ≤ counted_terminals ds
unfolding facility_nodes counted_terminals total
facilities-counted before base [] = omega arith
facilities-counted before base (d ∷ ds) =
    let s : Scope = record { facilities = before; operations = []; state_named = no_state } in
    let rest = facility_nodes (before ++ d.name ∷ []) (base + function_size d.function) ds in
    omega (arith, function-count s base d.function, facilities-counted (before ++ d.name ∷ []) (base + function_size d.function) ds, nodes-append (function_nodes s base d.function) rest)

terminals-append : (xs ys : List Declaration) → counted_terminals (xs ++ ys) ≡ counted_terminals xs + counted_terminals ys
unfolding counted_terminals
terminals-append [] ys = omega arith
terminals-append (x ∷ xs) ys = let h = terminals-append xs ys in omega (arith, h)

-- Registers and memories have no functions.
no-function : (k : Kind) (x : Extent) (f : Function) → Suits k x f → rank_of k < 2 → counted_function f ≡ 0
no-function k x T.unspecified h l = refl
no-function k x T.from_input h l = refl
no-function T.register x (T.given p e) h l = absurd h
no-function T.sequencing x (T.given p e) h l = absurd h
no-function T.memory x (T.given p e) h l = absurd h
no-function T.plain x (T.given p e) h l = absurd h
no-function T.input x (T.given p e) h l = absurd h
no-function T.computed x (T.given p e) h l = absurd (omega arith)

no-functions : (r : ℕ) (ds : List Declaration) → r < 2 → DeclarationsTidy r ds → counted_terminals ds ≡ 0
unfolding counted_terminals
no-functions r [] l h = refl
no-functions r (d ∷ ds) l h =
    let z : rank_of d.kind < 2 = rw h.0.ranked l in
    omega (arith, no-function d.kind d.extent d.function h.0.suits z, no-functions r ds l h.1)

-- ---- Operations and states.

operations-counted : (facilities before : List Name) (base : ℕ) (os : List Operation) → OperationsTidy os
    → nodes (operation_nodes facilities before base os) + acts (operation_actions facilities before base os) ≤ counted_operations os + lefts (operation_actions facilities before base os)
unfolding operation_nodes operation_actions counted_operations total Within
operations-counted facilities before base [] h = omega arith
operations-counted facilities before base (o ∷ os) h =
    let s = operation_scope facilities before in
    let next = base + expressions_in o.body in
    let more = before ++ o.name ∷ [] in
    omega (
      arith,
      actions-counted s base o.body h.0.1,
      operations-counted facilities more next os h.1,
      nodes-append (nodes_in s base o.body) (operation_nodes facilities more next os),
      acts-append (actions_of s base o.body) (operation_actions facilities more next os),
      lefts-append (actions_of s base o.body) (operation_actions facilities more next os),
    )

abbrev one_if : Option StateValue → ℕ
one_if none = 0
one_if (some v) = 1

value-counted : (l : Option ℕ) (v : Option StateValue) → nodes (value_nodes l v) ≡ one_if v
unfolding total
value-counted l none = refl
value-counted l (some v) = constant-count (state_constant l v.constant) v.at

values : Option ℕ → ℕ → ℕ → List State → ℕ
values l base a ss = total value_count (states_of l base a ss)

states-counted : (l : Option ℕ) (scope : Scope) (base a : ℕ) (ss : List State) → StatesTidy ss
    → nodes (state_nodes l scope base ss) + acts (state_actions l scope base ss) ≤ counted_states ss + (lefts (state_actions l scope base ss) + values l base a ss)
unfolding state_nodes state_actions counted_states total Within values states_of
states-counted l scope base a [] h = omega arith
states-counted l scope base a (s ∷ ss) h =
    let from = base + value_size l s.value in
    let next = base + expressions_of_state l s in
    let rest = state_nodes l scope next ss in
    let own : value_count (record { name = X.label_of s.label; value = value_number base l s.value; actions = X.run_of a (actions_in s.actions) }) ≡ one_if s.value = value-so s.value in
    omega (
      arith,
      own,
      actions-counted scope from s.actions h.0.1,
      states-counted l scope next (a + actions_in s.actions) ss h.1,
      value-counted l s.value,
      nodes-append (value_nodes l s.value) (nodes_in scope from s.actions ++ rest),
      nodes-append (nodes_in scope from s.actions) rest,
      acts-append (actions_of scope from s.actions) (state_actions l scope next ss),
      lefts-append (actions_of scope from s.actions) (state_actions l scope next ss),
    )
  where
    value-so : (v : Option StateValue) → value_count (record { name = X.label_of s.label; value = value_number base l v; actions = X.run_of a (actions_in s.actions) }) ≡ one_if v
    value-so none = refl
    value-so (some v) = refl

-- ---- The whole.

some-length : {A : Type 0} (xs : List A) → (xs ≡ [] → ⊥) → 0 < length xs
some-length [] h = absurd (h refl)
some-length (x ∷ xs) h = omega arith

abbrev pub declarations_of : Text → List Declaration
declarations_of t = t.registers ++ (t.memories ++ t.terminals)

abbrev pub names_in : Text → List Name
names_in t = map (λ d. d.name) (declarations_of t)

-- Only terminals have expressions.
pub terminals-alone : (t : Text) → TextTidy t → counted_terminals (declarations_of t) ≡ counted_terminals t.terminals
terminals-alone t h =
    omega (
      arith,
      terminals-append t.registers (t.memories ++ t.terminals),
      terminals-append t.memories t.terminals,
      no-functions 0 t.registers (omega arith) h.registers,
      no-functions 1 t.memories (omega arith) h.memories,
    )

-- What the pieces of a text count together, whatever its scopes and where its pieces begin.
module _ (t : Text) (h : TextTidy t) (w : WithinCeilings t) (l : Option ℕ) (scope : Scope) (first second a : ℕ) where
  abbrev expression_nodes : List Noted
  expression_nodes = facility_nodes [] 0 (declarations_of t) ++ (operation_nodes (names_in t) [] first t.operations ++ state_nodes l scope second t.states)

  abbrev all_actions : List NotedAction
  all_actions = operation_actions (names_in t) [] first t.operations ++ state_actions l scope second t.states

  all-counted : nodes expression_nodes + acts all_actions - (lefts all_actions + total value_count (states_of l second a t.states)) ≤ most_counted
  unfolding values counted_words
  all-counted =
      let os = operation_actions (names_in t) [] first t.operations in
      let ss = state_actions l scope second t.states in
      omega (
        arith,
        w.counted,
        terminals-alone t h,
        facilities-counted [] 0 (declarations_of t),
        operations-counted (names_in t) [] first t.operations h.operations,
        states-counted l scope second a t.states h.states,
        nodes-append (facility_nodes [] 0 (declarations_of t)) (operation_nodes (names_in t) [] first t.operations ++ state_nodes l scope second t.states),
        nodes-append (operation_nodes (names_in t) [] first t.operations) (state_nodes l scope second t.states),
        acts-append os ss,
        lefts-append os ss,
      )

  facilities-number : length (facilities_of 0 (declarations_of t)) ≡ length t.registers + length t.memories + length t.terminals
  facilities-number =
      omega (arith, facilities-count 0 (declarations_of t), length-append t.registers (t.memories ++ t.terminals), length-append t.memories t.terminals)

counts-so : (d : Description) → length d.facilities ≤ most_facilities → length d.operations ≤ most_operations → length d.states ≤ most_states
    → 0 < length d.states → 0 < length d.facilities → counted_records d ≤ most_counted → counts_right d ≡ true
unfolding counts_right
counts-so d f o s i j c = both_so (le-leb _ _ f) (both_so (le-leb _ _ o) (both_so (le-leb _ _ s) (both_so (lt-ltb _ _ i) (both_so (lt-ltb _ _ j) (le-leb _ _ c)))))

pub counts-right : (t : Text) → TextTidy t → WithinCeilings t → counts_right (describe t).description ≡ true
unfolding describe counted_records
counts-right t h w =
    let f : length (facilities_of 0 (declarations_of t)) ≡ length t.registers + length t.memories + length t.terminals =
    facilities-number t h w none (record { facilities = []; operations = []; state_named = no_state }) 0 0 0 in
    let g : length (facilities_of 0 (declarations_of t)) ≡ length (declarations_of t) = facilities-count 0 (declarations_of t) in
    let o : length (operations_of 0 t.operations) ≡ length t.operations = operations-count 0 t.operations in
    let d : Description = (describe t).description in
    let s : length d.states ≡ length t.states = states-count _ _ _ t.states in
    counts-so d (omega (arith, f, w.facilities)) (omega (arith, o, w.operations)) (omega (arith, s, w.states))
    (omega (arith, s, some-length t.states h.some-state)) (omega (arith, g, some-length (declarations_of t) h.some-facility))
    (all-counted t h w _ _ _ _ _)
