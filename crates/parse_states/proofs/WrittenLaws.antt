-- The records of states one after the other.
use mathlib.Core.List.{List, [], ◌∷◌, ◌++◌, append_assoc, append-nil}
use mathlib.Core.Path.{◌≡◌, refl, sym, ap, ◌∙◌}
use Prim.Native.Nat.{ℕ, ◌+◌}
use native.Mathlib.Nat.{add_assoc}
use native.Mathlib.Omega.{arith}
use lib.ListN.{length-append}
use Rattle.parse_step.specs.declared.State.{State}
use Rattle.language.specs.Describe.{actions_in, actions_of, nodes_in}
use Rattle.language.specs.DescribeText.{expressions_of_state, label_of, state_actions, state_nodes, states_of, value_nodes, value_size}
use Rattle.language.specs.Encode.{concat, state_record}
use Rattle.language.specs.Naming.{Scope}
use Rattle.language.specs.Tree as T
use Rattle.language.specs.Tree.{Name}
use Rattle.parse_stores.proofs.ReachedLaws.{nodes-none}
use Rattle.parse_stores.specs.Actions.{action_besides, action_records, front_of}
use Rattle.parse_tables.specs.declared.Table.TheVariants as Tb
use Rattle.parse_tables.specs.Names.{names_of}
use Rattle.parse_tables.specs.Rows.{rows}
use Rattle.parse_array.proofs.NodesAdded.{nodes-append, concat-append}
use Rattle.parse_array.specs.Held.{with_nodes}
use Rattle.parse_states.specs.Begins.{length_of}
use Rattle.parse_states.specs.Written.{Written, labels_of, state_beside, states_actions, states_size}

-- ---- Lists of states, one behind the other.

labels_append : (xs ys : List T.State) → labels_of (xs ++ ys) ≡ labels_of xs ++ labels_of ys
labels_append [] ys = refl
labels_append (x ∷ xs) ys = ap (λ (l : List Name). label_of x.label ∷ l) (labels_append xs ys)

module _ (l : ℕ) where
  size-append : (xs ys : List T.State) → states_size l (xs ++ ys) ≡ states_size l xs + states_size l ys
  unfolding states_size
  size-append [] ys = omega arith
  size-append (x ∷ xs) ys = omega (arith, size-append xs ys)

  actions-append : (xs ys : List T.State) → states_actions (xs ++ ys) ≡ states_actions xs + states_actions ys
  unfolding states_actions
  actions-append [] ys = omega arith
  actions-append (x ∷ xs) ys = omega (arith, actions-append xs ys)

  states-append : (base a : ℕ) (xs ys : List T.State) → states_of (length_of l) base a (xs ++ ys) ≡ states_of (length_of l) base a xs ++ states_of (length_of l) (base + states_size l xs) (a + states_actions xs) ys
  unfolding states_of states_size states_actions
  states-append base a [] ys =
      let e : base + 0 ≡ base = omega arith in
      let f : a + 0 ≡ a = omega arith in
      rw (e, f)
  states-append base a (x ∷ xs) ys =
      rw (states-append (base + expressions_of_state (length_of l) x) (a + actions_in x.actions) xs ys, add_assoc base (expressions_of_state (length_of l) x) (states_size l xs), add_assoc a (actions_in x.actions) (states_actions xs))

  module _ (sc : Scope) where
    nodes-of-append : (base : ℕ) (xs ys : List T.State) → state_nodes (length_of l) sc base (xs ++ ys) ≡ state_nodes (length_of l) sc base xs ++ state_nodes (length_of l) sc (base + states_size l xs) ys
    unfolding state_nodes states_size
    nodes-of-append base [] ys = let e : base + 0 ≡ base = omega arith in rw e
    nodes-of-append base (x ∷ xs) ys =
        let v = value_nodes (length_of l) x.value in
        let a = nodes_in sc (base + value_size (length_of l) x.value) x.actions in
        rw (nodes-of-append (base + expressions_of_state (length_of l) x) xs ys, add_assoc base (expressions_of_state (length_of l) x) (states_size l xs), append_assoc v, append_assoc a)

    actions-of-append : (base : ℕ) (xs ys : List T.State) → state_actions (length_of l) sc base (xs ++ ys) ≡ state_actions (length_of l) sc base xs ++ state_actions (length_of l) sc (base + states_size l xs) ys
    unfolding state_actions states_size
    actions-of-append base [] ys = let e : base + 0 ≡ base = omega arith in rw e
    actions-of-append base (x ∷ xs) ys =
        let a = actions_of sc (base + value_size (length_of l) x.value) x.actions in
        rw (actions-of-append (base + expressions_of_state (length_of l) x) xs ys, add_assoc base (expressions_of_state (length_of l) x) (states_size l xs), append_assoc a)

-- ---- States read one after the other.

module _ {text : List ℕ} {sc : Scope} {l : ℕ} {xs ys : List T.State} {s s₁ s₂ : State} {work work₁ work₂ : List ℕ} where
  pub written_then : Written text sc l xs s work s₁ work₁ → Written text sc l ys s₁ work₁ s₂ work₂ → Written text sc l (xs ++ ys) s work s₂ work₂
  written_then x y = record {
    nodes = omega (arith, x.nodes, y.nodes, size-append l xs ys);
    expressions =
        y.expressions ∙ rw (x.expressions, x.nodes) (sym (nodes-append (front_of s.nodes work) (state_nodes (length_of l) sc s.nodes xs) (state_nodes (length_of l) sc (s.nodes + states_size l xs) ys)))
        ∙ ap (with_nodes (front_of s.nodes work)) (sym (nodes-of-append l sc s.nodes xs ys));
    count = omega (arith, x.count, y.count, actions-append l xs ys);
    actions =
        y.actions ∙ rw (x.actions, x.nodes) (append_assoc (rows Tb.Actions s.actions work) (action_records (state_actions (length_of l) sc s.nodes xs)) (action_records (state_actions (length_of l) sc (s.nodes + states_size l xs) ys)))
        ∙ ap (λ (v : List ℕ). rows Tb.Actions s.actions work ++ v) (sym (ap action_records (actions-of-append l sc s.nodes xs ys) ∙ concat-append _ (state_actions (length_of l) sc s.nodes xs) (state_actions (length_of l) sc (s.nodes + states_size l xs) ys)));
    action_places =
        y.action_places ∙ rw (x.action_places, x.nodes) (append_assoc (rows Tb.ActionPlaces s.actions work) (action_besides (state_actions (length_of l) sc s.nodes xs)) (action_besides (state_actions (length_of l) sc (s.nodes + states_size l xs) ys)))
        ∙ ap (λ (v : List ℕ). rows Tb.ActionPlaces s.actions work ++ v) (sym (ap action_besides (actions-of-append l sc s.nodes xs ys) ∙ concat-append _ (state_actions (length_of l) sc s.nodes xs) (state_actions (length_of l) sc (s.nodes + states_size l xs) ys)));
    number = omega (arith, x.number, y.number, length-append xs ys);
    records =
        y.records ∙ rw (x.records, x.nodes, x.count) (append_assoc (rows Tb.States s.states work) (concat state_record (states_of (length_of l) s.nodes s.actions xs)) (concat state_record (states_of (length_of l) (s.nodes + states_size l xs) (s.actions + states_actions xs) ys)))
        ∙ ap (λ (v : List ℕ). rows Tb.States s.states work ++ v) (sym (ap (concat state_record) (states-append l s.nodes s.actions xs ys) ∙ concat-append state_record (states_of (length_of l) s.nodes s.actions xs) (states_of (length_of l) (s.nodes + states_size l xs) (s.actions + states_actions xs) ys)));
    places =
        y.places ∙ rw x.places (append_assoc (rows Tb.StatePlaces s.states work) (concat state_beside xs) (concat state_beside ys))
        ∙ ap (λ (v : List ℕ). rows Tb.StatePlaces s.states work ++ v) (sym (concat-append state_beside xs ys));
    labels =
        y.labels ∙ rw x.labels (append_assoc (names_of text (rows Tb.Labels s.states work) s.states) (labels_of xs) (labels_of ys))
        ∙ ap (λ (v : List Name). names_of text (rows Tb.Labels s.states work) s.states ++ v) (sym (labels_append xs ys));
    tables = λ u e m h. y.tables u e m h ∙ x.tables u e m h;
  }

pub written_none : (text : List ℕ) (sc : Scope) (l : ℕ) (s : State) (work : List ℕ) → Written text sc l [] s work s work
unfolding states_size states_actions state_nodes state_actions states_of concat
written_none text sc l s work = record {
  nodes = omega arith;
  expressions = sym (nodes-none (front_of s.nodes work));
  count = omega arith;
  actions = sym (append-nil (rows Tb.Actions s.actions work));
  action_places = sym (append-nil (rows Tb.ActionPlaces s.actions work));
  number = omega arith;
  records = sym (append-nil (rows Tb.States s.states work));
  places = sym (append-nil (rows Tb.StatePlaces s.states work));
  labels = sym (append-nil (names_of text (rows Tb.Labels s.states work) s.states));
  tables = λ u e m h. refl;
}
