-- How many records trees give, and how the runs of operations and states follow each other. Assumes nothing.
use Rattle.std.specs.Prelude.{List, [], ◌∷◌, ◌++◌, ◌≡◌, length}
use Rattle.std.proofs.Math.Option.{Option, none, some}
use Rattle.std.proofs.Math.Path.{refl, ap}
use Rattle.std.proofs.Common.{◌∙◌, arith}
use Prim.Native.Nat.{ℕ, zero, suc, ◌+◌}
use Rattle.std.proofs.Math.ListN.{length-append}
use Rattle.language.specs.Describe as B
use Rattle.language.specs.Describe.{Noted, actions_in, actions_of, constant_nodes, constant_size, digits_above, expression_size, expressions_in, left_nodes, left_size, nodes_in, nodes_of}
use Rattle.language.specs.DescribeText as X
use Rattle.language.specs.DescribeText.{expressions_of_state, facilities_of, function_nodes, function_size, operations_of, states_of, value_nodes, value_size}
use Rattle.language.specs.Description as D
use Rattle.language.specs.Description.{further_digits}
use Rattle.language.specs.Naming.{Scope}
use Rattle.language.specs.Tree as T
use Rattle.language.specs.Tree.{Actions, Declaration, Expression, Function, Left, Operation, State, StateValue}
use Rattle.language.specs.Value.{Value}
use Rattle.language.specs.Words.{Position}

-- ---- Expressions.

digits-size : (k n : ℕ) (p : Position) (rest : List Noted) → length (digits_above k n p rest) ≡ k + length rest
unfolding digits_above
digits-size zero n p rest = omega arith
digits-size (suc k) n p rest = let h = digits-size k n p rest in omega (arith, h)

pub constant-size : (v : Value) (p : Position) → length (constant_nodes v p) ≡ constant_size v
unfolding constant_nodes constant_size
constant-size v p = let h = digits-size (further_digits v.length) v.number p (B.noted (D.constant v) p ∷ []) in omega (arith, h)

two-sizes : {A : Type 0} (xs ys : List A) (z : A) {m n : ℕ} → length xs ≡ m → length ys ≡ n → length (xs ++ (ys ++ z ∷ [])) ≡ m + n + 1
two-sizes xs ys z h k =
    let a = length-append xs (ys ++ z ∷ []) in
    let b = length-append ys (z ∷ []) in
    omega (arith, a, b, h, k)

two-lists : {A : Type 0} (xs ys : List A) {m n : ℕ} → length xs ≡ m → length ys ≡ n → length (xs ++ ys) ≡ m + n
two-lists xs ys h k = let a = length-append xs ys in omega (arith, a, h, k)

three : {A : Type 0} (xs ys zs : List A) {m n o : ℕ} → length xs ≡ m → length ys ≡ n → length zs ≡ o → length (xs ++ (ys ++ zs)) ≡ m + n + o
three xs ys zs h k l = let a = length-append xs (ys ++ zs) in let b = length-append ys zs in omega (arith, a, b, h, k, l)

module _ (s : Scope) where
  pub nodes-size : (base : ℕ) (e : Expression) → length (nodes_of s base e) ≡ expression_size e
  unfolding nodes_of expression_size
  nodes-size base (T.constant c p) = constant-size c.value p
  nodes-size base (T.whole n p) = refl
  nodes-size base (T.one n p e) = length-append (nodes_of s base e) _ ∙ ap (λ (n : ℕ). n + 1) (nodes-size base e)
  nodes-size base (T.part n p x) = refl
  nodes-size base (T.two n p e g) = two-sizes (nodes_of s base e) (nodes_of s _ g) _ (nodes-size base e) (nodes-size (base + expression_size e) g)
  nodes-size base (T.word_part n p e x) = length-append (nodes_of s base e) _ ∙ ap (λ (n : ℕ). n + 1) (nodes-size base e)
  nodes-size base (T.binary k p e g) = two-sizes (nodes_of s base e) (nodes_of s _ g) _ (nodes-size base e) (nodes-size (base + expression_size e) g)
  nodes-size base (T.prefix k p e) = length-append (nodes_of s base e) _ ∙ ap (λ (n : ℕ). n + 1) (nodes-size base e)
  nodes-size base (T.cut k p e c) = length-append (nodes_of s base e) _ ∙ ap (λ (n : ℕ). n + 1) (nodes-size base e)
  nodes-size base (T.choice p e g) = two-sizes (nodes_of s base e) (nodes_of s _ g) _ (nodes-size base e) (nodes-size (base + expression_size e) g)
  nodes-size base (T.first_arm e) = length-append (nodes_of s base e) _ ∙ ap (λ (n : ℕ). n + 1) (nodes-size base e)
  nodes-size base (T.next_arm e g) = two-sizes (nodes_of s base e) (nodes_of s _ g) _ (nodes-size base e) (nodes-size (base + expression_size e) g)

  pub left-size : (base : ℕ) (l : Left) → length (left_nodes s base l) ≡ left_size l
  left-size base (T.single e) = nodes-size base e
  left-size base (T.pair e f) =
      let a = length-append (nodes_of s base e) (nodes_of s (base + expression_size e) f) in
      omega (arith, a, nodes-size base e, nodes-size (base + expression_size e) f)

  pub in_size : (base : ℕ) (a : Actions) → length (nodes_in s base a) ≡ expressions_in a
  unfolding nodes_in expressions_in
  in_size base T.done = refl
  in_size base (T.store k p l e a) =
      let right = base + left_size l in
      three (left_nodes s base l) (nodes_of s right e) (nodes_in s (right + expression_size e) a) (left-size base l) (nodes-size right e) (in_size (right + expression_size e) a)
  in_size base (T.set p e a) = two-lists (nodes_of s base e) (nodes_in s _ a) (nodes-size base e) (in_size _ a)
  in_size base (T.perform n p a) = in_size base a
  in_size base (T.goto n p a) = in_size base a
  in_size base (T.call n p a) = in_size base a
  in_size base (T.return p a) = in_size base a
  in_size base (T.when p e l a) =
      let inner = base + expression_size e in
      three (nodes_of s base e) (nodes_in s inner l) (nodes_in s (inner + expressions_in l) a) (nodes-size base e) (in_size inner l) (in_size (inner + expressions_in l) a)
  in_size base (T.choose p e l a) =
      let inner = base + expression_size e in
      three (nodes_of s base e) (nodes_in s inner l) (nodes_in s (inner + expressions_in l) a) (nodes-size base e) (in_size inner l) (in_size (inner + expressions_in l) a)
  in_size base (T.arm l a) = two-lists (nodes_in s base l) (nodes_in s _ a) (in_size base l) (in_size _ a)

  -- ---- Actions.

  pub actions-size : (base : ℕ) (a : Actions) → length (actions_of s base a) ≡ actions_in a
  unfolding actions_of actions_in
  actions-size base T.done = refl
  actions-size base (T.store k p l e a) = ap suc (actions-size _ a)
  actions-size base (T.set p e a) = ap suc (actions-size _ a)
  actions-size base (T.perform n p a) = ap suc (actions-size base a)
  actions-size base (T.goto n p a) = ap suc (actions-size base a)
  actions-size base (T.call n p a) = ap suc (actions-size base a)
  actions-size base (T.return p a) = ap suc (actions-size base a)
  actions-size base (T.when p e l a) =
      let inner = base + expression_size e in
      let h = two-lists (actions_of s inner l) (actions_of s (inner + expressions_in l) a) (actions-size inner l) (actions-size (inner + expressions_in l) a) in
      omega (arith, h)
  actions-size base (T.choose p e l a) =
      let inner = base + expression_size e in
      ap suc (two-lists (actions_of s inner l) (actions_of s (inner + expressions_in l) a) (actions-size inner l) (actions-size (inner + expressions_in l) a))
  actions-size base (T.arm l a) = ap suc (two-lists (actions_of s base l) (actions_of s _ a) (actions-size base l) (actions-size _ a))

-- ---- Sections.

pub facilities-count : (base : ℕ) (ds : List Declaration) → length (facilities_of base ds) ≡ length ds
unfolding facilities_of
facilities-count base [] = refl
facilities-count base (d ∷ ds) = ap suc (facilities-count (base + function_size d.function) ds)

pub operations-count : (a : ℕ) (os : List Operation) → length (operations_of a os) ≡ length os
unfolding operations_of
operations-count a [] = refl
operations-count a (o ∷ os) = ap suc (operations-count (a + actions_in o.body) os)

pub states-count : (l : Option ℕ) (base a : ℕ) (ss : List State) → length (states_of l base a ss) ≡ length ss
unfolding states_of
states-count l base a [] = refl
states-count l base a (s ∷ ss) = ap suc (states-count l (base + expressions_of_state l s) (a + actions_in s.actions) ss)

pub function-size : (s : Scope) (base : ℕ) (f : Function) → length (function_nodes s base f) ≡ function_size f
function-size s base T.unspecified = refl
function-size s base T.from_input = refl
function-size s base (T.given p e) = nodes-size s base e

pub value-size : (l : Option ℕ) (v : Option StateValue) → length (value_nodes l v) ≡ value_size l v
value-size l none = refl
value-size l (some v) = constant-size (X.state_constant l v.constant) v.at
