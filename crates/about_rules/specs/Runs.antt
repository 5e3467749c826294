-- The runs of operations and states of a text follow each other without gaps, to the last action. Assumes nothing.
use Rattle.std.specs.Prelude.{true, List, [], ◌∷◌, ◌++◌, map, ◌≡◌, refl, ℕ, ◌+◌, length}
use Rattle.std.proofs.Math.Option.{Option, some}
use Rattle.std.proofs.Common.{ap, ◌∙◌, arith, eq-eqb, length-append}
use Rattle.std.proofs.lemmas.List.{length-map}
use Rattle.language.specs.Describe.{NotedAction, actions_in, actions_of, expressions_in}
use Rattle.language.specs.DescribeText as X
use Rattle.language.specs.DescribeText.{describe, expressions_of_state, operation_actions, operation_records, operations_of, state_actions, states_of, value_size}
use Rattle.language.specs.Description.{Description}
use Rattle.language.specs.Naming.{Scope}
use Rattle.language.specs.Order.{ending, ends_at, operations_end, runs_right, states_end}
use Rattle.language.specs.Tree.{Name, Operation, State, Text}
use Rattle.about_rules.specs.Sizes.{actions-size}

unfoldable pub state_records : List State → ℕ
state_records [] = 0
state_records (s ∷ ss) = actions_in s.actions + state_records ss

pub operations-end : (d : Description) (at : ℕ) (os : List Operation) → operations_end d at (operations_of at os) ≡ some (at + operation_records os)
unfolding operations_end operations_of operation_records
operations-end d at [] = ap some (let z : at ≡ at + 0 = omega arith in z)
operations-end d at (o ∷ os) =
    let n = actions_in o.body in
    let z : at + n + operation_records os ≡ at + (n + operation_records os) = omega arith in
    rw (eq-eqb at at refl) (operations-end d (at + n) os ∙ ap some z)

pub states-end : (d : Description) (l : Option ℕ) (base at : ℕ) (ss : List State) → states_end d at (states_of l base at ss) ≡ some (at + state_records ss)
unfolding states_end states_of state_records
states-end d l base at [] = ap some (let z : at ≡ at + 0 = omega arith in z)
states-end d l base at (s ∷ ss) =
    let n = actions_in s.actions in
    let z : at + n + state_records ss ≡ at + (n + state_records ss) = omega arith in
    rw (eq-eqb at at refl) (states-end d l (base + expressions_of_state l s) (at + n) ss ∙ ap some z)

pub operations-size : (facilities before : List Name) (base : ℕ) (os : List Operation) → length (operation_actions facilities before base os) ≡ operation_records os
unfolding operation_actions operation_records
operations-size facilities before base [] = refl
operations-size facilities before base (o ∷ os) =
    let s = X.operation_scope facilities before in
    let a = length-append (actions_of s base o.body) (operation_actions facilities (before ++ o.name ∷ []) (base + expressions_in o.body) os) in
    omega (arith, a, actions-size s base o.body, operations-size facilities (before ++ o.name ∷ []) (base + expressions_in o.body) os)

pub states-size : (l : Option ℕ) (scope : Scope) (base : ℕ) (ss : List State) → length (state_actions l scope base ss) ≡ state_records ss
unfolding state_actions state_records
states-size l scope base [] = refl
states-size l scope base (s ∷ ss) =
    let a = length-append (actions_of scope (base + value_size l s.value) s.actions) (state_actions l scope (base + expressions_of_state l s) ss) in
    omega (arith, a, actions-size scope (base + value_size l s.value) s.actions, states-size l scope (base + expressions_of_state l s) ss)

-- The ends meet.
ends_so : (d : Description) {m n : ℕ} → m ≡ n → ends_at d n (some m) ≡ true
ends_so d {m} {n} e = eq-eqb m n e

module _ (facilities : List Name) (l : Option ℕ) (scope : Scope) (first second : ℕ) (os : List Operation) (ss : List State) (d : Description) where
  abbrev acts : List NotedAction
  acts = operation_actions facilities [] first os ++ state_actions l scope second ss

  pub runs-meet : ends_at d (length (map (λ a. a.action) acts)) (ending (operations_end d 0 (operations_of 0 os)) (λ at. states_end d at (states_of l second (operation_records os) ss))) ≡ true
  runs-meet =
      let z : 0 + operation_records os ≡ operation_records os = omega arith in
      rw (operations-end d 0 os ∙ ap some z)
      (rw (states-end d l second (operation_records os) ss) (ends_so d whole))
    where
      whole : operation_records os + state_records ss ≡ length (map (λ (a : NotedAction). a.action) acts)
      whole =
          let a = length-map acts (λ (a : NotedAction). a.action) in
          let b = length-append (operation_actions facilities [] first os) (state_actions l scope second ss) in
          omega (arith, a, b, operations-size facilities [] first os, states-size l scope second ss)

pub runs-right : (t : Text) → runs_right (describe t).description ≡ true
unfolding runs_right describe
runs-right t = runs-meet _ _ _ _ _ t.operations t.states _
