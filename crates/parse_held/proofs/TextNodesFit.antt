-- The expressions and actions of the sections of a tidy text have room for what they say.
use mathlib.Core.List.{List, [], ◌∷◌, ◌++◌}
use mathlib.Core.Option.{Option, none, some}
use mathlib.Core.Path.{◌≡◌}
use Prim.Native.Nat.{ℕ, suc, ◌+◌, ◌≤◌}
use native.Mathlib.Omega.{arith}
use lib.ListN.{length, length-append}
use Rattle.language.specs.Describe.{Noted, actions_of, expressions_in, nodes_in}
use Rattle.language.specs.DescribeText.{expressions_of_state, facility_nodes, function_nodes, function_size, function_sizes, operation_actions, operation_expressions, operation_nodes, operation_records, operation_scope, state_actions, state_constant, state_nodes, value_nodes, value_size}
use Rattle.language.specs.Description.{Description}
use Rattle.language.specs.Naming.{Scope, no_state}
use Rattle.language.specs.Tree as T
use Rattle.language.specs.Tree.{Declaration, Function, Label, Name, Operation, State, StateValue}
use Rattle.about_rules.specs.InOrder.{state_expressions}
use Rattle.about_rules.specs.Runs.{state_records}
use Rattle.about_rules.specs.Sizes.{function-size, in_size, value-size}
use Rattle.about_rules.specs.Tidy.{FunctionTidy, LabelTidy, OperationsTidy, StatesTidy}
use Rattle.parse_held.proofs.ActionsFit.{StatesFit, acts-append, acts-fit, behind, in-fits, join}
use Rattle.parse_held.proofs.DeclarationsFit.{DeclarationFits, Each, LengthFits, state-constant}
use Rattle.parse_held.proofs.NodesFit.{AllFit, Here, constant-fits, here-left, nodes-fit}
use Rattle.parse_held.specs.NearTexts.{FunctionNear, OperationsNear, StatesNear, ValueNear}
use Rattle.parse_held.specs.Standing.{ActsFit}

last-length : {A : Type 0} (xs : List A) (x : A) → length (xs ++ x ∷ []) ≡ suc (length xs)
last-length xs x = omega (arith, length-append xs (x ∷ []))

module _ (d : Description) where
  -- Two lists, the first of m records.
  two : (base m : ℕ) (xs ys : List Noted) → length xs ≡ m → Here d base (xs ++ ys) → (Here d base xs → AllFit d base xs) → (Here d (base + m) ys → AllFit d (base + m) ys) → AllFit d base (xs ++ ys)
  two base m xs ys e h f g = join d base m xs ys e (f (here-left d base xs ys h)) (g (behind d base m xs ys e h))

  -- ---- Terminals.

  function-fits : (s : Scope) → length s.facilities ≤ 256 → (base : ℕ) (f : Function) → FunctionTidy f → FunctionNear f → base + function_size f ≤ 65535 → Here d base (function_nodes s base f) → AllFit d base (function_nodes s base f)
  function-fits s few base T.unspecified t n l h = tt
  function-fits s few base T.from_input t n l h = tt
  function-fits s few base (T.given p e) t n l h = nodes-fit d s few base e t n.1 l h

  pub facility-nodes : (before : List Name) (base : ℕ) (ds : List Declaration) → Each DeclarationFits ds → length before + length ds ≤ 256 → base + function_sizes ds ≤ 65535
      → Here d base (facility_nodes before base ds) → AllFit d base (facility_nodes before base ds)
  unfolding facility_nodes function_sizes
  facility-nodes before base [] f k l h = tt
  facility-nodes before base (x ∷ ds) f k l h =
      let s : Scope = record { facilities = before; operations = []; state_named = no_state } in
      two base (function_size x.function) (function_nodes s base x.function) _ (function-size s base x.function) h
      (function-fits s (omega arith) base x.function f.0.tidy f.0.function (omega arith))
      (facility-nodes (before ++ x.name ∷ []) (base + function_size x.function) ds f.1 (omega (arith, last-length before x.name)) (omega arith))

  -- ---- Operations.

  module _ (text : List ℕ) (facilities : List Name) (few : length facilities ≤ 256) where
    pub operation-nodes : (before : List Name) (base : ℕ) (os : List Operation) → OperationsTidy os → OperationsNear text os → base + operation_expressions os ≤ 65535
        → Here d base (operation_nodes facilities before base os) → AllFit d base (operation_nodes facilities before base os)
    unfolding operation_nodes operation_expressions
    operation-nodes before base [] t n l h = tt
    operation-nodes before base (o ∷ os) t n l h =
        let s = operation_scope facilities before in
        two base (expressions_in o.body) (nodes_in s base o.body) _ (in_size s base o.body) h (in-fits d s few text base o.body t.0.1 n.0.1 (omega arith))
        (operation-nodes (before ++ o.name ∷ []) (base + expressions_in o.body) os t.1 n.1 (omega arith))

  -- ---- States.

  module _ (text : List ℕ) (l : Option ℕ) (fits : LengthFits l) (scope : Scope) (few : length scope.facilities ≤ 256) where
    value-nodes : (base : ℕ) (x : Option Label) (v : Option StateValue) → LabelTidy x v → ValueNear v → Here d base (value_nodes l v) → AllFit d base (value_nodes l v)
    value-nodes base x none t n h = tt
    value-nodes base none (some v) t n h = absurd t
    value-nodes base (some x) (some v) t n h =
        let r = state-constant l v.constant fits t.1 in
        constant-fits d base (state_constant l v.constant) v.at r.0 r.1 r.2 n h

    pub state-nodes : (base : ℕ) (ss : List State) → StatesTidy ss → StatesNear text ss → base + state_expressions l ss ≤ 65535 → Here d base (state_nodes l scope base ss) → AllFit d base (state_nodes l scope base ss)
    unfolding state_nodes state_expressions
    state-nodes base [] t n k h = tt
    state-nodes base (s ∷ ss) t n k h =
        let from = base + value_size l s.value in
        let z : base + expressions_of_state l s ≡ from + expressions_in s.actions = omega arith in
        two base (value_size l s.value) (value_nodes l s.value) _ (value-size l s.value) h (value-nodes base s.label s.value t.0.0 n.0.1.0)
        (λ g. two from (expressions_in s.actions) (nodes_in scope from s.actions) _ (in_size scope from s.actions) g (in-fits d scope few text from s.actions t.0.1 n.0.1.1 (omega arith))
        (rw (← z) (state-nodes (base + expressions_of_state l s) ss t.1 n.1 (omega arith))))

-- ---- Actions.

-- Where no state is known.
none-fit : (fs os : List Name) → StatesFit (record { facilities = fs; operations = os; state_named = no_state })
none-fit fs os n k l e = absurd (let z : ◌≡◌ {A = ℕ} 0 1 = cc in omega arith)

pub operation-acts : (text : List ℕ) (facilities before : List Name) (base : ℕ) (os : List Operation) → OperationsNear text os → length before + length os ≤ 65535 → base + operation_expressions os ≤ 65535 → operation_records os ≤ 65535
    → ActsFit (operation_actions facilities before base os)
unfolding operation_actions operation_expressions operation_records
operation-acts text facilities before base [] n k l m = tt
operation-acts text facilities before base (o ∷ os) n k l m =
    let s = operation_scope facilities before in
    acts-append (actions_of s base o.body) _ (acts-fit text s (omega arith) (none-fit facilities before) base o.body n.0.1 (omega arith) (omega arith))
    (operation-acts text facilities (before ++ o.name ∷ []) (base + expressions_in o.body) os n.1 (omega (arith, last-length before o.name)) (omega arith) (omega arith))

pub state-acts : (text : List ℕ) (l : Option ℕ) (scope : Scope) → length scope.operations ≤ 65535 → StatesFit scope → (base : ℕ) (ss : List State) → StatesNear text ss → base + state_expressions l ss ≤ 65535 → state_records ss ≤ 65535
    → ActsFit (state_actions l scope base ss)
unfolding state_actions state_expressions state_records
state-acts text l scope o q base [] n k m = tt
state-acts text l scope o q base (s ∷ ss) n k m =
    let from = base + value_size l s.value in
    acts-append (actions_of scope from s.actions) _ (acts-fit text scope o q from s.actions n.0.1.1 (omega arith) (omega arith))
    (state-acts text l scope o q (base + expressions_of_state l s) ss n.1 (omega arith) (omega arith))
