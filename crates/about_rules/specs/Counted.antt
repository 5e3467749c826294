-- The records of a text count no more than its words do, left sides and states' values apart. Assumes nothing.
use Rattle.std.specs.Prelude.{List, [], ◌∷◌, ◌++◌, map, ◌≡◌, ℕ, zero, suc, ◌+◌, ◌≤◌}
use Rattle.std.proofs.Math.Path.{refl}
use native.Mathlib.Omega.{arith}
use Rattle.language.specs.Canonical.{action_count, left_count, node_count, total}
use Rattle.language.specs.CountedWords.{counted_actions, counted_expression, counted_left, counted_reference}
use Rattle.language.specs.Describe as B
use Rattle.language.specs.Describe.{Noted, NotedAction, actions_of, constant_nodes, digits_above, expression_size, expressions_in, left_nodes, left_size, nodes_in, nodes_of, store_of}
use Rattle.language.specs.Description as D
use Rattle.language.specs.Description.{Action, Node, further_digits}
use Rattle.language.specs.Naming.{Meaning, Scope, facility, meaning, of_facility, of_operation, of_state, operation, state, unknown}
use Rattle.language.specs.Tree as T
use Rattle.language.specs.Tree.{Actions, Expression, Left}
use Rattle.language.specs.Value.{Value}
use Rattle.language.specs.Words.{Position}
use Rattle.about_rules.specs.Tidy.{ActionsTidy, LeftTidy, ReferenceTidy}

-- What noted records and actions count.
abbrev pub nodes : List Noted → ℕ
nodes ns = total node_count (map (λ n. n.node) ns)

abbrev pub acts : List NotedAction → ℕ
acts xs = total action_count (map (λ a. a.action) xs)

abbrev pub lefts : List NotedAction → ℕ
lefts xs = total left_count (map (λ a. a.action) xs)

pub nodes-append : (xs ys : List Noted) → nodes (xs ++ ys) ≡ nodes xs + nodes ys
unfolding total
nodes-append [] ys = omega arith
nodes-append (x ∷ xs) ys = let h = nodes-append xs ys in omega (arith, h)

pub acts-append : (xs ys : List NotedAction) → acts (xs ++ ys) ≡ acts xs + acts ys
unfolding total
acts-append [] ys = omega arith
acts-append (x ∷ xs) ys = let h = acts-append xs ys in omega (arith, h)

pub lefts-append : (xs ys : List NotedAction) → lefts (xs ++ ys) ≡ lefts xs + lefts ys
unfolding total
lefts-append [] ys = omega arith
lefts-append (x ∷ xs) ys = let h = lefts-append xs ys in omega (arith, h)

-- ---- Expressions.

digits-count : (k n : ℕ) (p : Position) (rest : List Noted) → nodes (digits_above k n p rest) ≡ nodes rest
unfolding digits_above total
digits-count zero n p rest = refl
digits-count (suc k) n p rest = let h = digits-count k n p rest in omega (arith, h)

pub constant-count : (v : Value) (p : Position) → nodes (constant_nodes v p) ≡ 1
unfolding constant_nodes total
constant-count v p = digits-count (further_digits v.length) v.number p (B.noted (D.constant v) p ∷ [])

-- A reference counts one, or none where its name means nothing.
facility-count : (m : Meaning) (f : ℕ → Node) → ((k : ℕ) → node_count (f k) ≡ 1) → node_count (of_facility m f) ≤ 1
facility-count (facility k) f h = let z = h k in omega (arith, z)
facility-count (operation k) f h = omega arith
facility-count (state k) f h = omega arith
facility-count unknown f h = omega arith

one-after : (xs : List Noted) (z : Noted) {m : ℕ} → nodes xs ≤ m → node_count z.node ≤ 1 → nodes (xs ++ z ∷ []) ≤ suc m
unfolding total
one-after xs z h k = let a : nodes (xs ++ z ∷ []) ≡ nodes xs + (node_count z.node + 0) = nodes-append xs (z ∷ []) in omega (arith, a)

two-after : (xs ys : List Noted) (z : Noted) {m n : ℕ} → nodes xs ≤ m → nodes ys ≤ n → node_count z.node ≤ 1 → nodes (xs ++ (ys ++ z ∷ [])) ≤ suc (m + n)
two-after xs ys z h k l =
    let a = nodes-append xs (ys ++ z ∷ []) in
    let b = one-after ys z k l in
    omega (arith, a, b)

two-arms : (xs ys : List Noted) (z : Noted) {m n : ℕ} → nodes xs ≤ m → nodes ys ≤ n → node_count z.node ≡ 0 → nodes (xs ++ (ys ++ z ∷ [])) ≤ m + n
unfolding total
two-arms xs ys z h k l =
    let a = nodes-append xs (ys ++ z ∷ []) in
    let b : nodes (ys ++ z ∷ []) ≡ nodes ys + (node_count z.node + 0) = nodes-append ys (z ∷ []) in
    omega (arith, a, b, l)

module _ (s : Scope) where
  pub counted : (base : ℕ) (e : Expression) → nodes (nodes_of s base e) ≤ counted_expression e
  unfolding nodes_of counted_expression total
  counted base (T.constant c p) = let z = constant-count c.value p in omega (arith, z)
  counted base (T.whole n p) = let z = facility-count (meaning s n) D.whole (λ k. refl) in omega (arith, z)
  counted base (T.one n p e) = one-after (nodes_of s base e) _ (counted base e) (facility-count (meaning s n) _ (λ k. refl))
  counted base (T.part n p x) = let z = facility-count (meaning s n) (λ f. D.part f (B.bounds_of x)) (λ k. refl) in omega (arith, z)
  counted base (T.two n p e g) = two-after (nodes_of s base e) (nodes_of s _ g) _ (counted base e) (counted (base + expression_size e) g) (facility-count (meaning s n) _ (λ k. refl))
  counted base (T.word_part n p e x) = one-after (nodes_of s base e) _ (counted base e) (facility-count (meaning s n) _ (λ k. refl))
  counted base (T.binary k p e g) = two-after (nodes_of s base e) (nodes_of s _ g) _ (counted base e) (counted (base + expression_size e) g) (omega arith)
  counted base (T.prefix k p e) = one-after (nodes_of s base e) _ (counted base e) (omega arith)
  counted base (T.cut k p e c) = one-after (nodes_of s base e) _ (counted base e) (omega arith)
  counted base (T.choice p e g) = two-after (nodes_of s base e) (nodes_of s _ g) _ (counted base e) (counted (base + expression_size e) g) (omega arith)
  counted base (T.first_arm e) = arm-after (counted base e)
    where
      arm-after : nodes (nodes_of s base e) ≤ counted_expression e → nodes (nodes_of s base e ++ B.noted (D.first_arm (B.last_of base (expression_size e))) D.nowhere ∷ []) ≤ counted_expression e
      arm-after h = let a : nodes (nodes_of s base e ++ B.noted (D.first_arm (B.last_of base (expression_size e))) D.nowhere ∷ []) ≡ nodes (nodes_of s base e) + (0 + 0) = nodes-append (nodes_of s base e) _ in omega (arith, a)
  counted base (T.next_arm e g) = two-arms (nodes_of s base e) (nodes_of s _ g) _ (counted base e) (counted (base + expression_size e) g) refl

  -- A left side counts what its subscripts do, and itself.
  reference-count : (e : Expression) → ReferenceTidy e → counted_expression e ≡ suc (counted_reference e)
  unfolding counted_expression
  reference-count (T.constant c p) h = absurd h
  reference-count (T.whole n p) h = refl
  reference-count (T.one n p e) h = refl
  reference-count (T.part n p x) h = refl
  reference-count (T.two n p e g) h = refl
  reference-count (T.word_part n p e x) h = refl
  reference-count (T.binary k p e g) h = absurd h
  reference-count (T.prefix k p e) h = absurd h
  reference-count (T.cut k p e c) h = absurd h
  reference-count (T.choice p e g) h = absurd h
  reference-count (T.first_arm e) h = absurd h
  reference-count (T.next_arm e g) h = absurd h

  left-count : (base k : ℕ) (l : Left) (e : Expression) → LeftTidy l → nodes (left_nodes s base l) ≤ counted_left l + left_count (store_of k base l e)
  left-count base k (T.single x) e h = let a = counted base x in let b = reference-count x h in omega (arith, a, b)
  left-count base k (T.pair x y) e h =
      let a = counted base x in
      let b = reference-count x h.0 in
      let c = counted (base + expression_size x) y in
      let f = reference-count y h.1 in
      let n = nodes-append (nodes_of s base x) (nodes_of s (base + expression_size x) y) in
      omega (arith, a, b, c, f, n)

  -- ---- Actions.

  store-counts : (k base : ℕ) (l : Left) (e : Expression) → action_count (store_of k base l e) ≡ 1
  store-counts k base (T.single x) e = refl
  store-counts k base (T.pair x y) e = refl

  operation-count : (m : Meaning) → action_count (of_operation m D.perform) ≤ 1
  operation-count (facility k) = omega arith
  operation-count (operation k) = omega arith
  operation-count (state k) = omega arith
  operation-count unknown = omega arith

  state-count : (m : Meaning) (f : ℕ → Action) → ((k : ℕ) → action_count (f k) ≡ 1) → action_count (of_state m f) ≤ 1
  state-count (facility k) f h = omega arith
  state-count (operation k) f h = omega arith
  state-count (state k) f h = let z = h k in omega (arith, z)
  state-count unknown f h = omega arith

  unfoldable pub Within : ℕ → Actions → Type 0
  Within base a = nodes (nodes_in s base a) + acts (actions_of s base a) ≤ counted_actions a + lefts (actions_of s base a)

  pub actions-counted : (base : ℕ) (a : Actions) → ActionsTidy a → Within base a
  unfolding nodes_in actions_of counted_actions total Within
  actions-counted base T.done h = omega arith
  actions-counted base (T.store k p l e a) h =
      let right = base + left_size l in
      let x = left-count base k l e h.0 in
      let y = counted right e in
      let z = actions-counted (right + expression_size e) a h.1.1 in
      let c = store-counts k base l e in
      let m = nodes-append (left_nodes s base l) (nodes_of s right e ++ nodes_in s (right + expression_size e) a) in
      let n = nodes-append (nodes_of s right e) (nodes_in s (right + expression_size e) a) in
      omega (arith, x, y, z, c, m, n)
  actions-counted base (T.set p e a) h =
      let x = counted base e in
      let y = reference-count e h.0 in
      let z = actions-counted (base + expression_size e) a h.1 in
      let n = nodes-append (nodes_of s base e) (nodes_in s (base + expression_size e) a) in
      omega (arith, x, y, z, n)
  actions-counted base (T.perform n p a) h =
      let z = actions-counted base a h in
      let c = operation-count (meaning s n) in
      omega (arith, z, c)
  actions-counted base (T.goto n p a) h =
      let z = actions-counted base a h in
      let c = state-count (meaning s n) D.goto (λ k. refl) in
      omega (arith, z, c)
  actions-counted base (T.call n p a) h =
      let z = actions-counted base a h in
      let c = state-count (meaning s n) D.call (λ k. refl) in
      omega (arith, z, c)
  actions-counted base (T.return p a) h = let z = actions-counted base a h in omega (arith, z)
  actions-counted base (T.when p e l a) h =
      let inner = base + expression_size e in
      let x = counted base e in
      let y = actions-counted inner l h.1.0 in
      let z = actions-counted (inner + expressions_in l) a h.1.1 in
      let m = nodes-append (nodes_of s base e) (nodes_in s inner l ++ nodes_in s (inner + expressions_in l) a) in
      let n = nodes-append (nodes_in s inner l) (nodes_in s (inner + expressions_in l) a) in
      let i = acts-append (actions_of s inner l) (actions_of s (inner + expressions_in l) a) in
      let j = lefts-append (actions_of s inner l) (actions_of s (inner + expressions_in l) a) in
      omega (arith, x, y, z, m, n, i, j)
  actions-counted base (T.choose p e l a) h =
      let inner = base + expression_size e in
      let x = counted base e in
      let y = actions-counted inner l h.1.0 in
      let z = actions-counted (inner + expressions_in l) a h.1.1 in
      let m = nodes-append (nodes_of s base e) (nodes_in s inner l ++ nodes_in s (inner + expressions_in l) a) in
      let n = nodes-append (nodes_in s inner l) (nodes_in s (inner + expressions_in l) a) in
      let i = acts-append (actions_of s inner l) (actions_of s (inner + expressions_in l) a) in
      let j = lefts-append (actions_of s inner l) (actions_of s (inner + expressions_in l) a) in
      omega (arith, x, y, z, m, n, i, j)
  actions-counted base (T.arm l a) h =
      let y = actions-counted base l h.0 in
      let z = actions-counted (base + expressions_in l) a h.1 in
      let n = nodes-append (nodes_in s base l) (nodes_in s (base + expressions_in l) a) in
      let i = acts-append (actions_of s base l) (actions_of s (base + expressions_in l) a) in
      let j = lefts-append (actions_of s base l) (actions_of s (base + expressions_in l) a) in
      omega (arith, y, z, n, i, j)
