-- A state added to its tables, and what then stands of it.
use mathlib.Core.Bool.{Bool, true, false, cond, true≢false}
use mathlib.Core.List.{List, [], ◌∷◌, ◌++◌, append-nil}
use mathlib.Core.Path.{◌≡◌, refl, sym, ap, ◌∙◌}
use Prim.Native.Nat.{ℕ, ◌+◌, ◌-◌, ◌*◌, ◌<◌, ◌≤◌}
use native.Mathlib.Omega.{arith}
use lib.ListN.{drop, length, length-drop}
use lib.Seq.{length-take-le}
use Rattle.parse_step.proofs.Ceilings.{few-counted}
use Rattle.parse_step.specs.declared.State.{State}
use Rattle.parse_step.specs.Course.{Stack, counts_of}
use Rattle.image_sections.specs.declared.runs.Run.{Run}
use Rattle.image_sections.specs.Declarations.{run_meant, value_meant}
use Rattle.language.specs.Building.{Built}
use Rattle.language.specs.Describe.{Noted, NotedAction, actions_in, actions_of, nodes_in}
use Rattle.language.specs.DescribeText.{label_of, state_actions, state_nodes, states_of, value_nodes, value_size}
use Rattle.language.specs.Encode.{concat, state_record}
use Rattle.language.specs.Naming.{Scope}
use Rattle.language.specs.Tree as T
use Rattle.parse_tables.specs.declared.meaning.KnownNames.{KnownNames}
use Rattle.parse_stores.proofs.Keeping.{front_kept, known_by}
use Rattle.parse_stores.proofs.Standings.{few-states}
use Rattle.parse_stores.specs.Actions.{Standing, action_besides, action_records, front_of}
use Rattle.parse_tables.proofs.NamesGrown.{names-behind}
use Rattle.parse_tables.proofs.RowLaws.{kept_more, rows_other}
use Rattle.parse_tables.specs.declared.Table.{Table}
use Rattle.parse_tables.specs.declared.Table.TheVariants as Tb
use Rattle.parse_tables.specs.Names.{name_row, names_of}
use Rattle.parse_tables.specs.Rows.{Wrote, apart, apart_from, most, rows, size}
use Rattle.parse_tables.specs.States.{StateAdded}
use Rattle.text_words.specs.declared.Word.{Word}
use Rattle.text_words.specs.Meaning.{positioned}
use Rattle.parse_array.proofs.NodesAdded.{nodes-append}
use Rattle.parse_array.specs.Held.{Held, with_nodes}
use Rattle.parse_array.specs.Layout.{labels_from, most_actions, most_nodes}
use Rattle.parse_states.specs.Begins.{length_of, more_states}
use Rattle.parse_states.specs.Bodies.{BodyRead}
use Rattle.parse_states.specs.declared.Begun.{Begun}
use Rattle.parse_states.specs.declared.Head.{Head}
use Rattle.parse_states.specs.Heads.{HeadRead}
use Rattle.parse_states.specs.Written.{Closed, Written, state_beside, states_actions, states_size}
use Rattle.parse_step.specs.declared.Reached.{Reached}

-- ---- The tables.

pub closed : {n : ℕ} {x : Head} {actions : Run} {w w₁ w₂ : List ℕ} → (size Tb.Labels ≡ 4 → n < most Tb.Labels → Wrote Tb.Labels n (name_row x.at.place x.size) w w₁)
    → (n < 256 → StateAdded n (positioned x.at) x.size (value_meant x.value) (positioned x.spot) (run_meant actions) w₁ w₂) → n < 256 → Closed n x actions w w₂
closed {n} f g h =
    let a = f refl h in
    let b = g h in
    record {
      whole = b.still;
      records = λ name k. b.records name k ∙ rw (a.kept.tables Tb.States refl n (omega arith));
      places = b.places ∙ rw (a.kept.tables Tb.StatePlaces refl n (omega arith));
      labels = b.kept.tables Tb.Labels refl (n + 1) (omega arith) ∙ a.behind;
      kept = kept_more a.kept b.kept;
    }

both : (a b : Bool) → cond a b false ≡ true → (a ≡ true) × (b ≡ true)
both true b e = (refl, e)
both false b e = absurd (true≢false (sym e))

-- A table apart from all five is apart from those of actions, and from those of states.
module _ (u : Table) (e : apart_from u (Tb.Actions ∷ Tb.ActionPlaces ∷ Tb.States ∷ Tb.StatePlaces ∷ Tb.Labels ∷ []) ≡ true) where
  e₁ : (apart u Tb.Actions ≡ true) × (apart_from u (Tb.ActionPlaces ∷ Tb.States ∷ Tb.StatePlaces ∷ Tb.Labels ∷ []) ≡ true)
  e₁ = both (apart u Tb.Actions) (apart_from u (Tb.ActionPlaces ∷ Tb.States ∷ Tb.StatePlaces ∷ Tb.Labels ∷ [])) e

  e₂ : (apart u Tb.ActionPlaces ≡ true) × (apart_from u (Tb.States ∷ Tb.StatePlaces ∷ Tb.Labels ∷ []) ≡ true)
  e₂ = both (apart u Tb.ActionPlaces) (apart_from u (Tb.States ∷ Tb.StatePlaces ∷ Tb.Labels ∷ [])) e₁.1

  e₃ : (apart u Tb.States ≡ true) × (apart_from u (Tb.StatePlaces ∷ Tb.Labels ∷ []) ≡ true)
  e₃ = both (apart u Tb.States) (apart_from u (Tb.StatePlaces ∷ Tb.Labels ∷ [])) e₂.1

  e₄ : (apart u Tb.StatePlaces ≡ true) × (apart_from u (Tb.Labels ∷ []) ≡ true)
  e₄ = both (apart u Tb.StatePlaces) (apart_from u (Tb.Labels ∷ [])) e₃.1

  e₅ : apart u Tb.Labels ≡ true
  e₅ = (both (apart u Tb.Labels) true e₄.1).0

  two-of : apart_from u (Tb.Actions ∷ Tb.ActionPlaces ∷ []) ≡ true
  two-of = rw (e₁.0, e₂.0)

  three-of : apart_from u (Tb.Labels ∷ Tb.States ∷ Tb.StatePlaces ∷ []) ≡ true
  three-of = rw (e₅, e₃.0, e₄.0)

-- ---- One state.

module _ {text : List ℕ} {sc : Scope} {n : KnownNames} {l : ℕ} {name : Word} {P R : Stack} {pre mid : Built → Built} {w v : Word} {s : State} {work work₁ work₂ work₃ : List ℕ} {h : Begun} {r : Reached} {run : Run}
    (st : Standing text sc n w s s.actions work) (x : HeadRead text sc n l name P pre w s (more_states s) work work₁ h)
    (y : BodyRead text sc n R mid v h.reached.state work₁ work₂ r) (few : s.states < 256) (c : Closed s.states h.head run work₂ work₃)
    (e : run ≡ record { first = s.actions; count = r.state.actions - s.actions }) where
  abbrev pub tree : T.State
  tree = record { at = x.tree.at; label = x.tree.label; value = x.tree.value; actions = y.tree }

  abbrev s₂ : State
  s₂ = r.state

  abbrev vs : ℕ
  vs = value_size (length_of l) x.tree.value

  pub number : s₂.states ≡ s.states + 1
  number = omega (arith, y.stays.states, x.stays.states)

  nodes₁ : h.reached.state.nodes ≡ s.nodes + vs
  nodes₁ = x.nodes

  most-acts : s₂.actions ≤ most_actions
  most-acts = omega (arith, y.standing.actions, few-counted (counts_of s₂) y.standing.within)

  most-nodes : s₂.nodes ≤ most_nodes
  most-nodes = omega (arith, y.standing.nodes, few-counted (counts_of s₂) y.standing.within, few-states (counts_of s₂) y.standing.within)

  expressions : front_of s₂.nodes work₃ ≡ with_nodes (front_of s.nodes work) (state_nodes (length_of l) sc s.nodes (tree ∷ []))
  unfolding state_nodes
  expressions =
      let front = front_of s.nodes work in
      let value = value_nodes (length_of l) x.tree.value in
      front_kept work₂ work₃ y.standing.whole c.whole c.kept.front s₂.nodes most-nodes ∙ y.written.expressions
      ∙ ap (λ (z : Held). with_nodes z (nodes_in sc h.reached.state.nodes y.tree)) x.expressions
      ∙ ap (λ (j : ℕ). with_nodes (with_nodes front value) (nodes_in sc j y.tree)) nodes₁
      ∙ sym (nodes-append front value (nodes_in sc (s.nodes + vs) y.tree))
      ∙ ap (λ (ns : List Noted). with_nodes front (value ++ ns)) (sym (append-nil (nodes_in sc (s.nodes + vs) y.tree)))

  -- Rows of a table that neither head nor body wrote.
  before : (u : Table) → apart_from u (Tb.Actions ∷ Tb.ActionPlaces ∷ []) ≡ true → (m : ℕ) → m ≤ most u → rows u m work₂ ≡ rows u m work
  before u a m g = y.written.tables u a m g ∙ rows_other work work₁ x.other u m

  -- The head adds no action.
  as_before : (u : Table) → rows u h.reached.state.actions work₁ ≡ rows u s.actions work
  as_before u = rows_other work work₁ x.other u h.reached.state.actions ∙ ap (λ (m : ℕ). rows u m work) x.actions

  actions : rows Tb.Actions s₂.actions work₃ ≡ rows Tb.Actions s.actions work ++ action_records (state_actions (length_of l) sc s.nodes (tree ∷ []))
  unfolding state_actions
  actions =
      c.kept.tables Tb.Actions refl s₂.actions most-acts ∙ y.written.records
      ∙ ap (λ (z : List ℕ). z ++ action_records (actions_of sc h.reached.state.nodes y.tree)) (as_before Tb.Actions)
      ∙ ap (λ (j : ℕ). rows Tb.Actions s.actions work ++ action_records (actions_of sc j y.tree)) nodes₁
      ∙ ap (λ (xs : List NotedAction). rows Tb.Actions s.actions work ++ action_records xs) (sym (append-nil (actions_of sc (s.nodes + vs) y.tree)))

  action-places : rows Tb.ActionPlaces s₂.actions work₃ ≡ rows Tb.ActionPlaces s.actions work ++ action_besides (state_actions (length_of l) sc s.nodes (tree ∷ []))
  unfolding state_actions
  action-places =
      c.kept.tables Tb.ActionPlaces refl s₂.actions most-acts ∙ y.written.places
      ∙ ap (λ (z : List ℕ). z ++ action_besides (actions_of sc h.reached.state.nodes y.tree)) (as_before Tb.ActionPlaces)
      ∙ ap (λ (j : ℕ). rows Tb.ActionPlaces s.actions work ++ action_besides (actions_of sc j y.tree)) nodes₁
      ∙ ap (λ (xs : List NotedAction). rows Tb.ActionPlaces s.actions work ++ action_besides xs) (sym (append-nil (actions_of sc (s.nodes + vs) y.tree)))

  count-run : s₂.actions - s.actions ≡ actions_in y.tree
  count-run = omega (arith, y.written.count, x.actions)

  records : rows Tb.States s₂.states work₃ ≡ rows Tb.States s.states work ++ concat state_record (states_of (length_of l) s.nodes s.actions (tree ∷ []))
  unfolding states_of concat
  records =
      ap (λ (m : ℕ). rows Tb.States m work₃) number ∙ c.records (label_of x.tree.label) x.says.length
      ∙ rw (before Tb.States refl s.states (omega (arith, few)), ← x.says.value, e, count-run) (ap (λ (z : List ℕ). rows Tb.States s.states work ++ z) (sym (append-nil _)))

  places : rows Tb.StatePlaces s₂.states work₃ ≡ rows Tb.StatePlaces s.states work ++ concat state_beside (tree ∷ [])
  unfolding concat
  places =
      ap (λ (m : ℕ). rows Tb.StatePlaces m work₃) number ∙ c.places
      ∙ rw (before Tb.StatePlaces refl s.states (omega (arith, few)), ← x.says.at, ← x.says.spot) (ap (λ (z : List ℕ). rows Tb.StatePlaces s.states work ++ z) (sym (append-nil _)))

  row-length : length (rows Tb.Labels s.states work) ≡ 4 * s.states
  unfolding rows
  row-length = length-take-le (4 * s.states) (drop labels_from work) (omega (arith, length-drop labels_from work, st.whole, few))

  labels : names_of text (rows Tb.Labels s₂.states work₃) s₂.states ≡ names_of text (rows Tb.Labels s.states work) s.states ++ label_of x.tree.label ∷ []
  labels =
      ap (λ (m : ℕ). names_of text (rows Tb.Labels m work₃) m) number
      ∙ ap (λ (z : List ℕ). names_of text z (s.states + 1)) (c.labels ∙ ap (λ (z : List ℕ). z ++ name_row h.head.at.place h.head.size) (before Tb.Labels refl s.states (omega (arith, few))))
      ∙ names-behind text (rows Tb.Labels s.states work) s.states h.head.at.place h.head.size row-length x.says.near x.says.short
      ∙ rw (← x.says.label)

  pub one_written : Written text sc l (tree ∷ []) s work s₂ work₃
  unfolding states_size states_actions
  one_written = record {
    nodes = omega (arith, y.written.nodes, nodes₁);
    expressions = expressions;
    count = omega (arith, y.written.count, x.actions);
    actions = actions;
    action_places = action-places;
    number = number;
    records = records;
    places = places;
    labels = labels;
    tables = λ u a m g. c.kept.tables u (three-of u a) m g ∙ before u (two-of u a) m g;
  }

  pub one-standing : Standing text sc n r.next s₂ s₂.actions work₃
  one-standing = record {
    seen = y.standing.seen;
    short = st.short;
    whole = c.whole;
    within = y.standing.within;
    known = known_by work₃ (c.kept.tables Tb.FacilityNames refl) (c.kept.tables Tb.OperationNames refl) y.standing.known;
    facilities = y.standing.facilities;
    nodes = y.standing.nodes;
    actions = y.standing.actions;
  }
