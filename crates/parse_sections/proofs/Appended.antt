-- One operation more, at the end: what it adds to each section.
use mathlib.Core.List.{List, [], ◌∷◌, ◌++◌, append_assoc, append-nil, map}
use mathlib.Core.Path.{◌≡◌, refl, sym, ap, ◌∙◌}
use Prim.Native.Nat.{ℕ, ◌+◌}
use native.Mathlib.Nat.{add_assoc}
use native.Mathlib.Omega.{arith}
use Rattle.language.specs.Describe.{Noted, NotedAction, actions_in, actions_of, expressions_in, nodes_in}
use Rattle.language.specs.DescribeText.{operation_actions, operation_expressions, operation_nodes, operation_records, operation_scope, operations_of, run_of}
use Rattle.language.specs.Description as D
use Rattle.language.specs.Encode.{concat}
use Rattle.language.specs.Tree.{Name, Operation}

pub bytes-last : {A : Type 0} (f : A → List ℕ) (xs : List A) (x : A) → concat f (xs ++ x ∷ []) ≡ concat f xs ++ f x
unfolding concat
bytes-last f [] x = append-nil (f x)
bytes-last f (y ∷ xs) x = ap (λ (l : List ℕ). f y ++ l) (bytes-last f xs x) ∙ sym (append_assoc (f y) (concat f xs) (f x))

abbrev pub names_of : List Operation → List Name
names_of os = map (λ o. o.name) os

pub names-last : (os : List Operation) (o : Operation) → names_of (os ++ o ∷ []) ≡ names_of os ++ o.name ∷ []
names-last [] o = refl
names-last (p ∷ os) o = ap (λ (l : List Name). p.name ∷ l) (names-last os o)

pub records-last : (os : List Operation) (o : Operation) → operation_records (os ++ o ∷ []) ≡ operation_records os + actions_in o.body
unfolding operation_records
records-last [] o = omega arith
records-last (p ∷ os) o = omega (arith, records-last os o)

pub expressions-last : (os : List Operation) (o : Operation) → operation_expressions (os ++ o ∷ []) ≡ operation_expressions os + expressions_in o.body
unfolding operation_expressions
expressions-last [] o = omega arith
expressions-last (p ∷ os) o = omega (arith, expressions-last os o)

abbrev pub operation_at : ℕ → Operation → D.Operation
operation_at a o = record { name = o.name; body = run_of a (actions_in o.body) }

pub operations-last : (a : ℕ) (os : List Operation) (o : Operation) → operations_of a (os ++ o ∷ []) ≡ operations_of a os ++ operation_at (a + operation_records os) o ∷ []
unfolding operations_of operation_records
operations-last a [] o = let e : a + 0 ≡ a = omega arith in rw e
operations-last a (p ∷ os) o =
    ap (λ (l : List D.Operation). operation_at a p ∷ l)
    (operations-last (a + actions_in p.body) os o ∙ ap (λ (n : ℕ). operations_of (a + actions_in p.body) os ++ operation_at n o ∷ []) (add_assoc a (actions_in p.body) (operation_records os)))

-- It knows the operations before it.
module _ (names : List Name) where
  pub nodes-last : (before : List Name) (base : ℕ) (os : List Operation) (o : Operation)
      → operation_nodes names before base (os ++ o ∷ []) ≡ operation_nodes names before base os ++ nodes_in (operation_scope names (before ++ names_of os)) (base + operation_expressions os) o.body
  unfolding operation_nodes operation_expressions
  nodes-last before base [] o = let e : base + 0 ≡ base = omega arith in rw (append-nil before, e) (append-nil (nodes_in (operation_scope names before) base o.body))
  nodes-last before base (p ∷ os) o =
      let m = base + expressions_in p.body in
      let here = nodes_in (operation_scope names before) base p.body in
      ap (λ (l : List Noted). here ++ l)
      (nodes-last (before ++ p.name ∷ []) m os o ∙ rw (append_assoc before (p.name ∷ []) (names_of os), add_assoc base (expressions_in p.body) (operation_expressions os)))
      ∙ sym (append_assoc here (operation_nodes names (before ++ p.name ∷ []) m os) (nodes_in (operation_scope names (before ++ names_of (p ∷ os))) (base + operation_expressions (p ∷ os)) o.body))

  pub actions-last : (before : List Name) (base : ℕ) (os : List Operation) (o : Operation)
      → operation_actions names before base (os ++ o ∷ []) ≡ operation_actions names before base os ++ actions_of (operation_scope names (before ++ names_of os)) (base + operation_expressions os) o.body
  unfolding operation_actions operation_expressions
  actions-last before base [] o = let e : base + 0 ≡ base = omega arith in rw (append-nil before, e) (append-nil (actions_of (operation_scope names before) base o.body))
  actions-last before base (p ∷ os) o =
      let m = base + expressions_in p.body in
      let here = actions_of (operation_scope names before) base p.body in
      ap (λ (l : List NotedAction). here ++ l)
      (actions-last (before ++ p.name ∷ []) m os o ∙ rw (append_assoc before (p.name ∷ []) (names_of os), add_assoc base (expressions_in p.body) (operation_expressions os)))
      ∙ sym (append_assoc here (operation_actions names (before ++ p.name ∷ []) m os) (actions_of (operation_scope names (before ++ names_of (p ∷ os))) (base + operation_expressions (p ∷ os)) o.body))
