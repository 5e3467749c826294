-- The expressions of a legal text stand in order: trees one after the other, to the last record. Assumes nothing.
use Rattle.std.specs.Prelude.{Bool, ◌≡◌, ℕ, suc, ◌+◌, ◌^◌, ◌≤◌, ◌<◌, eqb, length}
use Rattle.std.proofs.Math.Bool.{true, false, cond}
use mathlib.Core.List.{List, [], ◌∷◌, ◌++◌}
use Rattle.std.proofs.Math.Option.{Option, none, some}
use Rattle.std.proofs.Math.Path.{refl, ap}
use Rattle.std.proofs.Common.{◌∙◌}
use native.Mathlib.Omega.{arith}
use borrow.Author.Tests.{ltb-true}
use Rattle.std.proofs.Math.Dec.{ltb}
use Rattle.language.specs.ActionRules as J
use Rattle.language.specs.ActionRules.{operation_below, operation_judged, run_judged}
use Rattle.language.specs.Describe.{actions_in, actions_of, constant_size, expression_size, expressions_in, last_of, nodes_in, nodes_of}
use Rattle.language.specs.DescribeText as X
use Rattle.language.specs.DescribeText.{expressions_of_state, facilities_of, facility_declared, facility_nodes, function_nodes, function_size, function_sizes, operation_actions, operation_expressions, operation_nodes, operation_scope, operations_of, state_actions, state_constant, state_nodes, states_of, value_nodes, value_number, value_size}
use Rattle.language.specs.Description as D
use Rattle.language.specs.Description.{Description, Facility, Operation, State, facility_at, node_place, no_places, operation_at, state_at}
use Rattle.language.specs.Expressions.{judge_at, terminal_below, terminal_judged}
use Rattle.language.specs.Image.{ConstantRight}
use Rattle.language.specs.Judging.{Worth, fine, refuse}
use Rattle.language.specs.Naming.{Scope, no_state}
use Rattle.language.specs.Order.{facility_roots, function_root, operation_roots, run_roots, start_at, state_roots, trees_end, value_root}
use Rattle.language.specs.declared.refusals.Refusal.TheVariants.{NoContinuation}
use Rattle.language.specs.Rules.{faults}
use Rattle.language.specs.Tree as T
use Rattle.language.specs.Tree.{Declaration, Function, Kind, Name, StateValue}
use Rattle.language.specs.Value.{value}
use Rattle.language.specs.Words.{Constant}
use Rattle.about_rules.specs.ListRoots.{follows}
use Rattle.about_rules.specs.Roots.{StandActions, actions-left, actions-right, tree-then, trees-join}
use Rattle.about_rules.specs.Sizes.{actions-size, function-size, in_size, value-size}
use Rattle.about_rules.specs.Starts.{Stand, constant-starts, some-records, stand-left, stand-right}
use Rattle.about_rules.specs.Tidy.{DeclarationsTidy, ExpressionTidy, FunctionTidy, LabelTidy, OperationsTidy, StatesTidy, Suits}
use Rattle.about_rules.specs.Trees.{expression-starts}
use Rattle.about_running.specs.Judged.{faulty-fine, proper-fine}
use Rattle.about_running.specs.LegalForm.{operations-fine, states-fine, terminals-fine}

-- Declarations whose functions suit them.
abbrev pub Suited : List Declaration → Type 0
Suited [] = Unit {0}
Suited (d ∷ ds) = (Suits d.kind d.extent d.function × FunctionTidy d.function) × Suited ds

pub suited : (r : ℕ) (ds es : List Declaration) → DeclarationsTidy r ds → Suited es → Suited (ds ++ es)
suited r [] es h k = k
suited r (d ∷ ds) es h k = ((h.0.suits, h.0.function-tidy), suited r ds es h.1 k)

pub last-suited : (r : ℕ) (ds : List Declaration) → DeclarationsTidy r ds → Suited ds
last-suited r [] h = tt
last-suited r (d ∷ ds) h = ((h.0.suits, h.0.function-tidy), last-suited r ds h.1)

-- The expression records of states.
unfoldable pub state_expressions : Option ℕ → List T.State → ℕ
state_expressions l [] = 0
state_expressions l (s ∷ ss) = expressions_of_state l s + state_expressions l ss

module _ (d : Description) (faultless : faults d no_places ≡ []) where
  -- ---- What stands at the numbers of a section.

  abbrev pub Facilities : ℕ → List Facility → Type 0
  Facilities n [] = Unit {0}
  Facilities n (f ∷ fs) = ((facility_at d n ≡ f) × (n < length d.facilities)) × Facilities (suc n) fs

  abbrev pub Operations : ℕ → List Operation → Type 0
  Operations n [] = Unit {0}
  Operations n (o ∷ os) = ((operation_at d n ≡ o) × (n < length d.operations)) × Operations (suc n) os

  abbrev pub States : ℕ → List State → Type 0
  States n [] = Unit {0}
  States n (s ∷ ss) = ((state_at d n ≡ s) × (n < length d.states)) × States (suc n) ss

  abbrev pub Ends : ℕ → ℕ → List ℕ → Type 0
  Ends at m rs = trees_end d at rs ≡ some m

  -- ---- Computed terminals.

  terminal-starts : (n base : ℕ) (before : List Name) (f : Facility) (e : T.Expression) → ExpressionTidy e → facility_at d n ≡ f → n < length d.facilities
      → D.is_computed f.kind ≡ true → f.expression ≡ last_of base (expression_size e)
      → Stand d base (nodes_of (record { facilities = before; operations = []; state_named = no_state }) base e) → start_at d (last_of base (expression_size e)) ≡ some base
  unfolding terminal_judged
  terminal-starts n base before f e h q l c x k =
      let y = terminals-fine d faultless n l (rw q c) in
      let z : (facility_at d n).expression ≡ last_of base (expression_size e) = rw q x in
      let j = rw z at y.1 in
      expression-starts d no_places (terminal_below d no_places n) n (record { facilities = before; operations = []; state_named = no_state }) base e h k _
      (proper-fine (node_place no_places (last_of base (expression_size e))).at (judge_at d no_places (terminal_below d no_places n) n (last_of base (expression_size e))) j).same

  one-root : (base n : ℕ) (rs : List ℕ) → 0 < n → base + n ≤ length d.expressions → start_at d (last_of base n) ≡ some base → trees_end d base (last_of base n ∷ rs) ≡ trees_end d (base + n) rs
  one-root base n rs pos l e =
      let z : last_of base n + 1 ≡ base + n = omega arith in
      tree-then d base (last_of base n) rs e (omega arith) ∙ ap (λ (m : ℕ). trees_end d m rs) z

  function-roots : (n base : ℕ) (before : List Name) (x : Declaration) (rs : List ℕ) → Suits x.kind x.extent x.function → FunctionTidy x.function
      → facility_at d n ≡ facility_declared base x → n < length d.facilities → base + function_size x.function ≤ length d.expressions
      → Stand d base (function_nodes (record { facilities = before; operations = []; state_named = no_state }) base x.function)
      → trees_end d base (function_root d (facility_declared base x) x.kind ++ rs) ≡ trees_end d (base + function_size x.function) rs
  function-roots n base before x rs h t q l b k = go x.kind x.function h t refl refl b k
    where
      none_more : trees_end d base rs ≡ trees_end d (base + 0) rs
      none_more = let z : base ≡ base + 0 = omega arith in ap (λ (m : ℕ). trees_end d m rs) z

      go : (c : Kind) (f : Function) → Suits c x.extent f → FunctionTidy f → x.kind ≡ c → x.function ≡ f → base + function_size f ≤ length d.expressions
          → Stand d base (function_nodes (record { facilities = before; operations = []; state_named = no_state }) base f)
          → trees_end d base (function_root d (facility_declared base x) c ++ rs) ≡ trees_end d (base + function_size f) rs
      go T.register T.unspecified s u i j b k = none_more
      go T.register T.from_input s u i j b k = absurd s
      go T.register (T.given p e) s u i j b k = absurd s
      go T.sequencing T.unspecified s u i j b k = none_more
      go T.sequencing T.from_input s u i j b k = absurd s
      go T.sequencing (T.given p e) s u i j b k = absurd s
      go T.memory T.unspecified s u i j b k = none_more
      go T.memory T.from_input s u i j b k = absurd s
      go T.memory (T.given p e) s u i j b k = absurd s
      go T.plain T.unspecified s u i j b k = none_more
      go T.plain T.from_input s u i j b k = absurd s
      go T.plain (T.given p e) s u i j b k = absurd s
      go T.input T.unspecified s u i j b k = absurd s
      go T.input T.from_input s u i j b k = none_more
      go T.input (T.given p e) s u i j b k = absurd s
      go T.computed T.unspecified s u i j b k = absurd s
      go T.computed T.from_input s u i j b k = absurd s
      go T.computed (T.given p e) s u i j b k =
          let z : (facility_declared base x).expression ≡ last_of base (expression_size e) = ap (X.function_number base) j in
          rw z (one-root base (expression_size e) rs (some-records e) b (terminal-starts n base before (facility_declared base x) e u q l (rw i refl) z k))

  pub facilities-end : (n base : ℕ) (before : List Name) (ds : List Declaration) → Suited ds → Facilities n (facilities_of base ds) → base + function_sizes ds ≤ length d.expressions
      → Stand d base (facility_nodes before base ds) → Ends base (base + function_sizes ds) (facility_roots d (facilities_of base ds))
  unfolding facilities_of facility_nodes function_sizes facility_roots trees_end
  facilities-end n base before [] h f l k = let z : base ≡ base + 0 = omega arith in ap some z
  facilities-end n base before (x ∷ ds) h f l k =
      let s : Scope = record { facilities = before; operations = []; state_named = no_state } in
      let next = base + function_size x.function in
      let z : next + function_sizes ds ≡ base + (function_size x.function + function_sizes ds) = omega arith in
      function-roots n base before x (facility_roots d (facilities_of next ds)) h.0.0 h.0.1 f.0.0 f.0.1 (omega arith) (stand-left d base (function_nodes s base x.function) _ k)
      ∙ facilities-end (suc n) next (before ++ x.name ∷ []) ds h.1 f.1 (omega arith)
      (stand-right d base (function_nodes s base x.function) _ k next (let y = function-size s base x.function in omega (arith, y))) ∙ ap some z

  -- ---- Operations.

  body-fine : (o a n : ℕ) (name : Name) {w : Worth} → operation_at d o ≡ record { name = name; body = X.run_of a n } → operation_judged d no_places o ≡ fine w
      → J.run_step d no_places false (operation_below d no_places o) (J.run_below d no_places false (operation_below d no_places o) n) n a J.actions ≡ fine w
  unfolding operation_judged run_judged
  body-fine o a n name {w} q j = go (eqb n 0) (rw q at j)
    where
      go : (b : Bool) → cond b (refuse D.nowhere NoContinuation) (J.run_step d no_places false (operation_below d no_places o) (J.run_below d no_places false (operation_below d no_places o) n) n a J.actions) ≡ fine w
          → J.run_step d no_places false (operation_below d no_places o) (J.run_below d no_places false (operation_below d no_places o) n) n a J.actions ≡ fine w
      go true k = faulty-fine k
      go false k = k

  pub operations-end : (n base a : ℕ) (facilities before : List Name) (os : List T.Operation) → OperationsTidy os → Operations n (operations_of a os) → base + operation_expressions os ≤ length d.expressions
      → Stand d base (operation_nodes facilities before base os) → StandActions d a (operation_actions facilities before base os) → Ends base (base + operation_expressions os) (operation_roots d (operations_of a os))
  unfolding operations_of operation_nodes operation_actions operation_expressions operation_roots trees_end
  operations-end n base a facilities before [] h f l k x = let z : base ≡ base + 0 = omega arith in ap some z
  operations-end n base a facilities before (o ∷ os) h f l k x =
      let s = operation_scope facilities before in
      let next = base + expressions_in o.body in
      let z : next + operation_expressions os ≡ base + (expressions_in o.body + operation_expressions os) = omega arith in
      let y = operations-fine d faultless n f.0.1 in
      trees-join d base next (run_roots d (actions_in o.body) a) _
      (follows d no_places s false (operation_below d no_places n) o.body base a J.actions _ h.0.1 (stand-left d base (nodes_in s base o.body) _ k) (actions-left d a (actions_of s base o.body) _ x) (omega arith)
      (body-fine n a (actions_in o.body) o.name f.0.0 y.1))
      ∙ operations-end (suc n) next (a + actions_in o.body) facilities (before ++ o.name ∷ []) os h.1 f.1 (omega arith)
      (stand-right d base (nodes_in s base o.body) _ k next (let i = in_size s base o.body in omega (arith, i)))
      (actions-right d a (actions_of s base o.body) _ x (a + actions_in o.body) (let i = actions-size s base o.body in omega (arith, i))) ∙ ap some z

  -- ---- States.

  constant-fits : (l : Option ℕ) (c : Constant) → ConstantRight c → (state_constant l c).number < 2 ^ (state_constant l c).length
  unfolding state_constant
  constant-fits none c h = h.fits
  constant-fits (some l) c h = go c.bare (ltb c.value.number (2 ^ l)) refl
    where
      go : (a b : Bool) → ltb c.value.number (2 ^ l) ≡ b
          → (cond a (cond b (value l c.value.number) c.value) c.value).number < 2 ^ (cond a (cond b (value l c.value.number) c.value) c.value).length
      go true true q = ltb-true _ _ q
      go true false q = h.fits
      go false b q = h.fits

  value-roots : (l : Option ℕ) (base : ℕ) (x : Option T.Label) (v : Option StateValue) (rs : List ℕ) → LabelTidy x v → Stand d base (value_nodes l v) → base + value_size l v ≤ length d.expressions
      → trees_end d base (value_root d (value_number base l v) ++ rs) ≡ trees_end d (base + value_size l v) rs
  unfolding constant_size
  value-roots l base none none rs h k b = let z : base ≡ base + 0 = omega arith in ap (λ (m : ℕ). trees_end d m rs) z
  value-roots l base none (some v) rs h k b = absurd h
  value-roots l base (some x) none rs h k b = let z : base ≡ base + 0 = omega arith in ap (λ (m : ℕ). trees_end d m rs) z
  value-roots l base (some x) (some v) rs h k b =
      one-root base (constant_size (state_constant l v.constant)) rs (omega arith) b (constant-starts d base (state_constant l v.constant) v.at (constant-fits l v.constant h.1) k)

  run-fine : (n : ℕ) (s : State) → state_at d n ≡ s → n < length d.states
      → (w : Worth) × (J.run_step d no_places true (operation_below d no_places (length d.operations)) (J.run_below d no_places true (operation_below d no_places (length d.operations)) s.actions.count) s.actions.count s.actions.first J.actions ≡ fine w)
  unfolding run_judged
  run-fine n s q l = let y = (states-fine d faultless n l).1.1 in (y.run-worth, rw q at y.run-fine)

  pub states-end : (l : Option ℕ) (scope : Scope) (n base a : ℕ) (ss : List T.State) → StatesTidy ss → States n (states_of l base a ss) → base + state_expressions l ss ≤ length d.expressions
      → Stand d base (state_nodes l scope base ss) → StandActions d a (state_actions l scope base ss) → Ends base (base + state_expressions l ss) (state_roots d (states_of l base a ss))
  unfolding states_of state_nodes state_actions state_roots trees_end state_expressions
  states-end l scope n base a [] h f b k x = let z : base ≡ base + 0 = omega arith in ap some z
  states-end l scope n base a (s ∷ ss) h f b k x =
      let from = base + value_size l s.value in
      let next = base + expressions_of_state l s in
      let z : next + state_expressions l ss ≡ base + (expressions_of_state l s + state_expressions l ss) = omega arith in
      let nodes = stand-right d base (value_nodes l s.value) _ k from (let y = value-size l s.value in omega (arith, y)) in
      let e : from + expressions_in s.actions ≡ next = omega arith in
      let y = run-fine n _ f.0.0 f.0.1 in
      let own : Ends from next (run_roots d (actions_in s.actions) a) =
      follows d no_places scope true (operation_below d no_places (length d.operations)) s.actions from a J.actions _ h.0.1 (stand-left d from (nodes_in scope from s.actions) _ nodes) (actions-left d a (actions_of scope from s.actions) _ x) (omega arith) y.1 ∙ ap some e in
      value-roots l base s.label s.value _ h.0.0 (stand-left d base (value_nodes l s.value) _ k) (omega arith)
      ∙ trees-join d from next (run_roots d (actions_in s.actions) a) _ own
      ∙ states-end l scope (suc n) next (a + actions_in s.actions) ss h.1 f.1 (omega arith)
      (stand-right d from (nodes_in scope from s.actions) _ nodes next (let i = in_size scope from s.actions in omega (arith, i)))
      (actions-right d a (actions_of scope from s.actions) _ x (a + actions_in s.actions) (let i = actions-size scope from s.actions in omega (arith, i))) ∙ ap some z
