-- Lists of actions joined: their records, and what reading one after the other leaves.
use mathlib.Core.List.{List, [], ◌∷◌, ◌++◌, append_assoc}
use mathlib.Core.Path.{◌≡◌, refl, sym, ap, ◌∙◌}
use Prim.Native.Nat.{ℕ, ◌+◌}
use native.Mathlib.Nat.{add_assoc}
use native.Mathlib.Omega.{arith}
use Rattle.parse_step.specs.declared.State.{State}
use Rattle.about_grammar.specs.Conditionals.{joined-assoc}
use Rattle.language.specs.Building.{Built, joined, list_no}
use Rattle.language.specs.Describe.{NotedAction, actions_in, actions_of, expression_size, expressions_in, left_nodes, left_size, nodes_in, nodes_of}
use Rattle.language.specs.Encode.{concat}
use Rattle.language.specs.Naming.{Scope}
use Rattle.language.specs.Tree as T
use Rattle.language.specs.Tree.{Actions}
use Rattle.parse_tables.specs.declared.Table.TheVariants as Tb
use Rattle.parse_tables.specs.Rows.{rows}
use Rattle.parse_array.proofs.NodesAdded.{nodes-append}
use Rattle.parse_array.specs.Held.{with_nodes}
use Rattle.parse_stores.specs.Actions.{Paid, Written, action_besides, action_records, front_of, grown}

-- ---- How many records there are.

pub expressions-joined : (a b : Actions) → expressions_in (joined a b) ≡ expressions_in a + expressions_in b
unfolding joined expressions_in
expressions-joined T.done b = omega arith
expressions-joined (T.store k p l e a) b = omega (arith, expressions-joined a b)
expressions-joined (T.set p e a) b = omega (arith, expressions-joined a b)
expressions-joined (T.perform n p a) b = expressions-joined a b
expressions-joined (T.goto n p a) b = expressions-joined a b
expressions-joined (T.call n p a) b = expressions-joined a b
expressions-joined (T.return p a) b = expressions-joined a b
expressions-joined (T.when p e l a) b = omega (arith, expressions-joined a b)
expressions-joined (T.choose p e l a) b = omega (arith, expressions-joined a b)
expressions-joined (T.arm l a) b = omega (arith, expressions-joined a b)

pub actions-joined : (a b : Actions) → actions_in (joined a b) ≡ actions_in a + actions_in b
unfolding joined actions_in
actions-joined T.done b = omega arith
actions-joined (T.store k p l e a) b = omega (arith, actions-joined a b)
actions-joined (T.set p e a) b = omega (arith, actions-joined a b)
actions-joined (T.perform n p a) b = omega (arith, actions-joined a b)
actions-joined (T.goto n p a) b = omega (arith, actions-joined a b)
actions-joined (T.call n p a) b = omega (arith, actions-joined a b)
actions-joined (T.return p a) b = omega (arith, actions-joined a b)
actions-joined (T.when p e l a) b = omega (arith, actions-joined a b)
actions-joined (T.choose p e l a) b = omega (arith, actions-joined a b)
actions-joined (T.arm l a) b = omega (arith, actions-joined a b)

-- ---- The records.

module _ (sc : Scope) where
  pub nodes-joined : (base : ℕ) (a b : Actions) → nodes_in sc base (joined a b) ≡ nodes_in sc base a ++ nodes_in sc (base + expressions_in a) b
  unfolding joined nodes_in expressions_in
  nodes-joined base T.done b = let e : base + 0 ≡ base = omega arith in rw e
  nodes-joined base (T.store k p l e a) b =
      let m = base + left_size l + expression_size e in
      let g : m + expressions_in a ≡ base + (left_size l + expression_size e + expressions_in a) = omega arith in
      rw (nodes-joined m a b, append_assoc (left_nodes sc base l), append_assoc (nodes_of sc (base + left_size l) e), g)
  nodes-joined base (T.set p e a) b = rw (nodes-joined (base + expression_size e) a b, append_assoc (nodes_of sc base e), add_assoc base (expression_size e) (expressions_in a))
  nodes-joined base (T.perform n p a) b = nodes-joined base a b
  nodes-joined base (T.goto n p a) b = nodes-joined base a b
  nodes-joined base (T.call n p a) b = nodes-joined base a b
  nodes-joined base (T.return p a) b = nodes-joined base a b
  nodes-joined base (T.when p e l a) b =
      let m = base + expression_size e + expressions_in l in
      let g : m + expressions_in a ≡ base + (expression_size e + expressions_in l + expressions_in a) = omega arith in
      rw (nodes-joined m a b, append_assoc (nodes_of sc base e), append_assoc (nodes_in sc (base + expression_size e) l), g)
  nodes-joined base (T.choose p e l a) b =
      let m = base + expression_size e + expressions_in l in
      let g : m + expressions_in a ≡ base + (expression_size e + expressions_in l + expressions_in a) = omega arith in
      rw (nodes-joined m a b, append_assoc (nodes_of sc base e), append_assoc (nodes_in sc (base + expression_size e) l), g)
  nodes-joined base (T.arm l a) b = rw (nodes-joined (base + expressions_in l) a b, append_assoc (nodes_in sc base l), add_assoc base (expressions_in l) (expressions_in a))

  pub records-joined : (base : ℕ) (a b : Actions) → actions_of sc base (joined a b) ≡ actions_of sc base a ++ actions_of sc (base + expressions_in a) b
  unfolding joined actions_of expressions_in
  records-joined base T.done b = let e : base + 0 ≡ base = omega arith in rw e
  records-joined base (T.store k p l e a) b =
      let m = base + left_size l + expression_size e in
      let g : m + expressions_in a ≡ base + (left_size l + expression_size e + expressions_in a) = omega arith in
      rw (records-joined m a b, g)
  records-joined base (T.set p e a) b = rw (records-joined (base + expression_size e) a b, add_assoc base (expression_size e) (expressions_in a))
  records-joined base (T.perform n p a) b = rw (records-joined base a b)
  records-joined base (T.goto n p a) b = rw (records-joined base a b)
  records-joined base (T.call n p a) b = rw (records-joined base a b)
  records-joined base (T.return p a) b = rw (records-joined base a b)
  records-joined base (T.when p e l a) b =
      let m = base + expression_size e + expressions_in l in
      let g : m + expressions_in a ≡ base + (expression_size e + expressions_in l + expressions_in a) = omega arith in
      rw (records-joined m a b, append_assoc (actions_of sc (base + expression_size e) l), g)
  records-joined base (T.choose p e l a) b =
      let m = base + expression_size e + expressions_in l in
      let g : m + expressions_in a ≡ base + (expression_size e + expressions_in l + expressions_in a) = omega arith in
      rw (records-joined m a b, append_assoc (actions_of sc (base + expression_size e) l), g)
  records-joined base (T.arm l a) b =
      rw (records-joined (base + expressions_in l) a b, append_assoc (actions_of sc base l), add_assoc base (expressions_in l) (expressions_in a))

-- Bytes of one list behind those of another.
pub bytes-append : (f : NotedAction → List ℕ) (xs ys : List NotedAction) → concat f (xs ++ ys) ≡ concat f xs ++ concat f ys
unfolding concat
bytes-append f [] ys = refl
bytes-append f (x ∷ xs) ys = ap (λ (l : List ℕ). f x ++ l) (bytes-append f xs ys) ∙ sym (append_assoc (f x) (concat f xs) (concat f ys))

-- ---- One list after another.

pub grown-two : (a c : Actions) (b : Built) → grown c (grown a b) ≡ grown (joined a c) b
unfolding list_no
grown-two a c b = rw (joined-assoc (list_no 0 b) a c)

module _ {sc : Scope} {a b : Actions} {s s₁ s₂ : State} {work work₁ work₂ : List ℕ} where
  pub written_then : Written sc a s work s₁ work₁ → Written sc b s₁ work₁ s₂ work₂ → Written sc (joined a b) s work s₂ work₂
  written_then x y = record {
    nodes = omega (arith, x.nodes, y.nodes, expressions-joined a b);
    expressions =
        y.expressions ∙ rw (x.expressions, x.nodes) (sym (nodes-append (front_of s.nodes work) (nodes_in sc s.nodes a) (nodes_in sc (s.nodes + expressions_in a) b)))
        ∙ ap (with_nodes (front_of s.nodes work)) (sym (nodes-joined sc s.nodes a b));
    count = omega (arith, x.count, y.count, actions-joined a b);
    records =
        y.records ∙ rw (x.records, x.nodes) (append_assoc (rows Tb.Actions s.actions work) (action_records (actions_of sc s.nodes a)) (action_records (actions_of sc (s.nodes + expressions_in a) b)))
        ∙ ap (λ (l : List ℕ). rows Tb.Actions s.actions work ++ l) (sym (ap action_records (records-joined sc s.nodes a b) ∙ bytes-append _ (actions_of sc s.nodes a) (actions_of sc (s.nodes + expressions_in a) b)));
    places =
        y.places ∙ rw (x.places, x.nodes) (append_assoc (rows Tb.ActionPlaces s.actions work) (action_besides (actions_of sc s.nodes a)) (action_besides (actions_of sc (s.nodes + expressions_in a) b)))
        ∙ ap (λ (l : List ℕ). rows Tb.ActionPlaces s.actions work ++ l) (sym (ap action_besides (records-joined sc s.nodes a b) ∙ bytes-append _ (actions_of sc s.nodes a) (actions_of sc (s.nodes + expressions_in a) b)));
    tables = λ u e m h. y.tables u e m h ∙ x.tables u e m h;
  }

pub paid-then : {s s₁ s₂ : State} {acts : ℕ} → Paid s acts s₁ → Paid s₁ s₁.actions s₂ → Paid s acts s₂
paid-then x y = record {
  facilities = y.facilities ∙ x.facilities;
  operations = y.operations ∙ x.operations;
  states = y.states ∙ x.states;
  known = y.known ∙ x.known;
  nesting = y.nesting ∙ x.nesting;
  counted = omega (arith, x.counted, y.counted);
  nodes = omega (arith, x.nodes, y.nodes);
  actions = omega (arith, x.actions, y.actions);
}
