-- Records laid one after the other, and one of them written again.
use mathlib.Core.Bool.{true}
use mathlib.Core.List.{List, [], ◌∷◌, ◌++◌, append_assoc, append-nil}
use mathlib.Core.Path.{◌≡◌, refl, sym, ap, ◌∙◌}
use Prim.Native.Nat.{ℕ, ◌+◌, ◌*◌, ◌<◌, ◌≤◌}
use native.Mathlib.Omega.{arith}
use lib.ListN.{drop, length, length-append, length-drop, take}
use lib.Seq.{drop_at, length-take-le, take_at}
use Rattle.parse_step.specs.declared.State.{State}
use Rattle.parse_step.specs.Says.{Pending}
use Rattle.language.specs.Describe.{Noted, NotedAction, act, actions_in, actions_of, expression_size, expressions_in, nodes_in, nodes_of}
use Rattle.language.specs.Description as D
use Rattle.language.specs.Encode.{action_bytes, action_size, concat}
use Rattle.language.specs.Naming.{Scope}
use Rattle.language.specs.Tree.{Actions, Expression}
use Rattle.language.specs.Words as L
use Rattle.judge_records.specs.Noted.{place_bytes}
use Rattle.image_records.proofs.ActionLaws.{action-length}
use Rattle.image_records.proofs.ByteLaws.{placed-whole}
use Rattle.image_records.specs.Placed.{placed}
use Rattle.parse_stores.proofs.Joining.{bytes-append}
use Rattle.parse_stores.proofs.Keeping.{front_kept, others-other}
use Rattle.parse_stores.proofs.ReachedLaws.{front-held, nodes-none, other-held}
use Rattle.parse_stores.specs.Actions.{OthersKept, Written, action_besides, action_records, front_of}
use Rattle.parse_tables.proofs.OtherRecords.{place-length}
use Rattle.parse_tables.proofs.RowLaws.{kept_more, rows_other}
use Rattle.parse_tables.specs.Actions.{ActionAdded}
use Rattle.parse_tables.specs.declared.Table.{Table}
use Rattle.parse_tables.specs.declared.Table.TheVariants as T
use Rattle.parse_tables.specs.Rows.{Kept, Wrote, most, rows, size}
use Rattle.text_words.specs.declared.Position.{Position}
use Rattle.text_words.specs.Meaning.{positioned}
use Rattle.parse_array.proofs.NodesAdded.{nodes-append}
use Rattle.parse_array.specs.Held.{Held, held, other_in, with_nodes}
use Rattle.parse_array.specs.Layout.{action_places_from, most_actions, most_nodes, other_from, work_size}
use Rattle.parse_actions.specs.Laid.{Laid, one_more}

-- ---- Lists of actions.

pub written-laid : {sc : Scope} {a : Actions} {s : State} {work : List ℕ} {s' : State} {work' : List ℕ} → Written sc a s work s' work'
    → Laid (expressions_in a) (nodes_in sc s.nodes a) (actions_in a) (actions_of sc s.nodes a) s work s' work'
written-laid x = record { nodes = x.nodes; expressions = x.expressions; count = x.count; records = x.records; places = x.places; tables = x.tables }

pub laid-written : {sc : Scope} (a : Actions) {k : ℕ} {ns : List Noted} {m : ℕ} {xs : List NotedAction} {s : State} {work : List ℕ} {s' : State} {work' : List ℕ}
    → Laid k ns m xs s work s' work' → k ≡ expressions_in a → ns ≡ nodes_in sc s.nodes a → m ≡ actions_in a → xs ≡ actions_of sc s.nodes a → Written sc a s work s' work'
laid-written {sc} a {s = s} {work} x e f g h = record {
  nodes = x.nodes ∙ ap (λ (n : ℕ). s.nodes + n) e;
  expressions = x.expressions ∙ ap (with_nodes (front_of s.nodes work)) f;
  count = x.count ∙ ap (λ (n : ℕ). s.actions + n) g;
  records = x.records ∙ ap (λ (l : List NotedAction). rows T.Actions s.actions work ++ action_records l) h;
  places = x.places ∙ ap (λ (l : List NotedAction). rows T.ActionPlaces s.actions work ++ action_besides l) h;
  tables = x.tables;
}

pub laid_then : {k : ℕ} {ns : List Noted} {m : ℕ} {xs : List NotedAction} {s : State} {work : List ℕ} {s₁ : State} {work₁ : List ℕ} {k₁ : ℕ} {ns₁ : List Noted} {m₁ : ℕ} {xs₁ : List NotedAction} {s₂ : State} {work₂ : List ℕ}
    → Laid k ns m xs s work s₁ work₁ → Laid k₁ ns₁ m₁ xs₁ s₁ work₁ s₂ work₂ → Laid (k + k₁) (ns ++ ns₁) (m + m₁) (xs ++ xs₁) s work s₂ work₂
laid_then {k} {ns} {m} {xs} {s} {work} {k₁ = k₁} {ns₁} {m₁} {xs₁} x y = record {
  nodes = omega (arith, x.nodes, y.nodes);
  expressions = y.expressions ∙ ap (λ (h : Held). with_nodes h ns₁) x.expressions ∙ sym (nodes-append (front_of s.nodes work) ns ns₁);
  count = omega (arith, x.count, y.count);
  records = y.records ∙ ap (λ (l : List ℕ). l ++ action_records xs₁) x.records ∙ append_assoc (rows T.Actions s.actions work) (action_records xs) (action_records xs₁)
      ∙ ap (λ (l : List ℕ). rows T.Actions s.actions work ++ l) (sym (bytes-append (λ v. action_bytes v.action) xs xs₁));
  places = y.places ∙ ap (λ (l : List ℕ). l ++ action_besides xs₁) x.places ∙ append_assoc (rows T.ActionPlaces s.actions work) (action_besides xs) (action_besides xs₁)
      ∙ ap (λ (l : List ℕ). rows T.ActionPlaces s.actions work ++ l) (sym (bytes-append (λ v. place_bytes 0 v.at) xs xs₁));
  tables = λ u e n h. y.tables u e n h ∙ x.tables u e n h;
}

pub laid_as : {k k' : ℕ} {ns ns' : List Noted} {m : ℕ} {xs : List NotedAction} {s : State} {work : List ℕ} {s' : State} {work' : List ℕ} → k ≡ k' → ns ≡ ns' → Laid k ns m xs s work s' work'
    → Laid k' ns' m xs s work s' work'
laid_as {s = s} {work = work} e f x = record {
  nodes = x.nodes ∙ ap (λ (n : ℕ). s.nodes + n) e;
  expressions = x.expressions ∙ ap (with_nodes (front_of s.nodes work)) f;
  count = x.count;
  records = x.records;
  places = x.places;
  tables = x.tables;
}

-- ---- An action's record.

bytes_one : (f : NotedAction → List ℕ) (x : NotedAction) → f x ≡ concat f (x ∷ [])
unfolding concat
bytes_one f x = sym (append-nil (f x))

pub laid-added : {a : D.Action} {at : Position} {work work' : List ℕ} (s : State) → ActionAdded s.actions a at work work' true → length work ≡ work_size → s.nodes ≤ most_nodes
    → Laid 0 [] 1 (act a (positioned at) ∷ []) s work (one_more s) work'
laid-added {a} {at} {work} {work'} s x l h = record {
  nodes = omega arith;
  expressions = front_kept work work' l (x.whole refl) (x.kept refl).front s.nodes h ∙ sym (nodes-none (front_of s.nodes work));
  count = refl;
  records = x.records refl ∙ ap (λ (v : List ℕ). rows T.Actions s.actions work ++ v) (bytes_one (λ v. action_bytes v.action) (act a (positioned at)));
  places = x.places refl ∙ ap (λ (v : List ℕ). rows T.ActionPlaces s.actions work ++ v) (bytes_one (λ v. place_bytes 0 v.at) (act a (positioned at)));
  tables = (x.kept refl).tables;
}

-- ---- An expression's records.

no_bytes : (f : NotedAction → List ℕ) (xs : List ℕ) → xs ≡ xs ++ concat f []
unfolding concat
no_bytes f xs = sym (append-nil xs)

pub laid-expression : {sc : Scope} {e : Expression} {s' : State} {work' : List ℕ} (s : State) (work : List ℕ) → s'.actions ≡ s.actions → Pending sc (held s.nodes work) s.nodes e s' work'
    → Laid (expression_size e) (nodes_of sc s.nodes e) 0 [] s work s' work'
laid-expression {sc} {e} {s'} {work'} s work k h =
    let o : other_in work' ≡ other_in work = other-held s.nodes s'.nodes work work' (nodes_of sc s.nodes e) h.records in
    record {
      nodes = h.nodes;
      expressions = front-held s.nodes s'.nodes work work' (nodes_of sc s.nodes e) h.records;
      count = omega (arith, k);
      records = rows_other work work' o T.Actions s'.actions ∙ ap (λ (n : ℕ). rows T.Actions n work) k ∙ no_bytes _ (rows T.Actions s.actions work);
      places = rows_other work work' o T.ActionPlaces s'.actions ∙ ap (λ (n : ℕ). rows T.ActionPlaces n work) k ∙ no_bytes _ (rows T.ActionPlaces s.actions work);
      tables = others-other work work' o;
    }

-- ---- A record written again.

middle : (front old rest bs : List ℕ) (at : ℕ) → at ≡ length front → length old ≡ length bs → placed (front ++ (old ++ rest)) at bs ≡ front ++ (bs ++ rest)
middle front old rest bs at e l =
    let s = front ++ (old ++ rest) in
    let h : at + length bs ≤ length s = omega (arith, length-append front (old ++ rest), length-append old rest) in
    let p : take at s ≡ front = take_at front (old ++ rest) at (sym e) in
    let d : drop (at + length bs) s ≡ rest =
    ap (drop (at + length bs)) (sym (append_assoc front old rest)) ∙ drop_at (front ++ old) rest (at + length bs) (omega (arith, length-append front old)) in
    placed-whole s bs at h ∙ rw (p, d) (append_assoc front bs rest)

row-again : (t : Table) (n m : ℕ) {bs w w' : List ℕ} (front old rest : List ℕ) → rows t m w ≡ front ++ (old ++ rest) → size t * n ≡ length front → length old ≡ length bs → n < m → m ≤ most t
    → Wrote t n bs w w' → rows t m w' ≡ front ++ (bs ++ rest)
row-again t n m {bs} front old rest e p l h k x = x.instead m h k ∙ ap (λ (v : List ℕ). placed v (size t * n) bs) e ∙ middle front old rest bs (size t * n) p l

action-rows : (n : ℕ) (w : List ℕ) → length w ≡ work_size → n ≤ most_actions → action_size * n ≡ length (rows T.Actions n w)
unfolding rows
action-rows n w l h = sym (length-take-le (action_size * n) (drop other_from w) (omega (arith, length-drop other_from w)))

place-rows : (n : ℕ) (w : List ℕ) → length w ≡ work_size → n ≤ most_actions → 2 * n ≡ length (rows T.ActionPlaces n w)
unfolding rows
place-rows n w l h = sym (length-take-le (2 * n) (drop action_places_from w) (omega (arith, length-drop action_places_from w)))

still : (ts : List Table) (w : List ℕ) → Kept ts w w
still ts w = record { tables = λ u e m h. refl; front = refl }

pub first-kept : {w w' : List ℕ} → Kept (T.Actions ∷ []) w w' → OthersKept w w'
first-kept {w' = w'} k = (kept_more k (still (T.ActionPlaces ∷ []) w')).tables

pub place_kept : {w w' : List ℕ} → Kept (T.ActionPlaces ∷ []) w w' → OthersKept w w'
place_kept {w} k = (kept_more (still (T.Actions ∷ []) w) k).tables

module _ {k : ℕ} {ns : List Noted} {m : ℕ} {s : State} {work : List ℕ} {s' : State} {work' work'' : List ℕ} (l : length work ≡ work_size) (few : s'.actions ≤ most_actions) (room : s'.nodes ≤ most_nodes) where
  -- The first record.
  pub first-again : (x : NotedAction) (ys : List NotedAction) (z : D.Action) → 0 < m → Laid k ns m (x ∷ ys) s work s' work' → Wrote T.Actions s.actions (action_bytes z) work' work''
      → Laid k ns m (act z x.at ∷ ys) s work s' work''
  unfolding concat
  first-again x ys z h a w =
      let more : s.actions < s'.actions = omega (arith, a.count) in
      record {
        nodes = a.nodes;
        expressions = front_kept work' work'' w.whole w.still w.kept.front s'.nodes room ∙ a.expressions;
        count = a.count;
        records = row-again T.Actions s.actions s'.actions (rows T.Actions s.actions work) (action_bytes x.action) (action_records ys) a.records (action-rows s.actions work l (omega arith)) (action-length x.action ∙ sym (action-length z)) more few w;
        places = w.kept.tables T.ActionPlaces refl s'.actions few ∙ a.places;
        tables = λ u e n q. first-kept w.kept u e n q ∙ a.tables u e n q;
      }

  -- The place of the second.
  pub place-again : (y x : NotedAction) (ys : List NotedAction) (p : L.Position) {i : ℕ} → i ≡ s.actions + 1 → 1 < m → Laid k ns m (y ∷ x ∷ ys) s work s' work' → Wrote T.ActionPlaces i (place_bytes 0 p) work' work''
      → Laid k ns m (y ∷ act x.action p ∷ ys) s work s' work''
  unfolding concat
  place-again y x ys p {i} e h a w =
      let more : i < s'.actions = omega (arith, a.count) in
      let front = rows T.ActionPlaces s.actions work ++ place_bytes 0 y.at in
      let size : 2 * i ≡ length front = omega (arith, place-rows s.actions work l (omega arith), length-append (rows T.ActionPlaces s.actions work) (place_bytes 0 y.at), place-length 0 y.at) in
      record {
        nodes = a.nodes;
        expressions = front_kept work' work'' w.whole w.still w.kept.front s'.nodes room ∙ a.expressions;
        count = a.count;
        records = w.kept.tables T.Actions refl s'.actions few ∙ a.records;
        places =
            row-again T.ActionPlaces i s'.actions front (place_bytes 0 x.at) (action_besides ys) (a.places ∙ sym (append_assoc (rows T.ActionPlaces s.actions work) (place_bytes 0 y.at) (place_bytes 0 x.at ++ action_besides ys))) size (place-length 0 x.at ∙ sym (place-length 0 p)) more few w
            ∙ append_assoc (rows T.ActionPlaces s.actions work) (place_bytes 0 y.at) (place_bytes 0 p ++ action_besides ys);
        tables = λ u e n q. place_kept w.kept u e n q ∙ a.tables u e n q;
      }

-- A record, then those of a list that belong to it, and the record written again.
pub headed : {sc : Scope} {k : ℕ} {ns : List Noted} {x : NotedAction} {s : State} {work : List ℕ} {s₁ : State} {work₁ : List ℕ} (t : Actions) {s₂ : State} {work₂ work₃ : List ℕ} (z : D.Action)
    → length work ≡ work_size → s₂.actions ≤ most_actions → s₂.nodes ≤ most_nodes → Laid k ns 1 (x ∷ []) s work s₁ work₁ → Written sc t s₁ work₁ s₂ work₂ → Wrote T.Actions s.actions (action_bytes z) work₂ work₃
    → Laid (k + expressions_in t) (ns ++ nodes_in sc s₁.nodes t) (1 + actions_in t) (act z x.at ∷ actions_of sc s₁.nodes t) s work s₂ work₃
headed {sc} {x = x} {s₁ = s₁} t z l few room a b w = first-again l few room x (actions_of sc s₁.nodes t) z (omega arith) (laid_then a (written-laid b)) w
