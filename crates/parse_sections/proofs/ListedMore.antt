-- An operation added to those listed: its record and name, and the records of its body.
use mathlib.Core.Bool.{Bool, true, false, cond, true≢false}
use mathlib.Core.List.{List, [], ◌∷◌, ◌++◌}
use mathlib.Core.Path.{◌≡◌, refl, sym, ap, ◌∙◌}
use Prim.Native.Nat.{ℕ, ◌+◌, ◌*◌, ◌<◌}
use native.Mathlib.Nat.{zero-add}
use native.Mathlib.Omega.{arith}
use lib.ListN.{drop, length, length-drop}
use lib.Seq.{length-take-le}
use Rattle.parse_step.specs.declared.State.{State}
use Rattle.parse_facilities.proofs.Appended.{length_last}
use Rattle.image_sections.specs.declared.runs.Run.{Run}
use Rattle.language.specs.Describe.{actions_in, actions_of, nodes_in}
use Rattle.language.specs.DescribeText.{operation_actions, operation_expressions, operation_nodes, operation_records, operation_scope, operations_of}
use Rattle.language.specs.Encode.{concat, operation_record}
use Rattle.language.specs.Naming.{Scope}
use Rattle.language.specs.Tree.{Name, Operation}
use Rattle.judge_records.specs.Noted.{place_bytes}
use Rattle.parse_stores.proofs.Joining.{bytes-append}
use Rattle.parse_stores.specs.Actions.{OthersKept, Written, action_besides, action_records, front_of}
use Rattle.parse_tables.proofs.NamesGrown.{names-behind}
use Rattle.parse_tables.specs.declared.Table.TheVariants as T
use Rattle.parse_tables.specs.Names as Tn
use Rattle.parse_tables.specs.Operations.{OperationAdded}
use Rattle.parse_tables.specs.Rows.{Kept, apart, apart_from, rows}
use Rattle.text_words.specs.declared.Position.{Position}
use Rattle.text_words.specs.Meaning.{positioned}
use Rattle.parse_array.proofs.NodesAdded.{nodes-append}
use Rattle.parse_array.specs.Held.{Held, with_nodes}
use Rattle.parse_array.specs.Layout.{operation_names_from}
use Rattle.parse_array.specs.Names.{letters}
use Rattle.parse_sections.proofs.Appended.{actions-last, bytes-last, expressions-last, names-last, names_of, nodes-last, operation_at, operations-last, records-last}
use Rattle.parse_sections.specs.Listed.{Bodies, Tabled, TablesKept}

-- ---- Tables that stay.

both-parts : (a b c : Bool) → cond a (cond b c false) false ≡ true → (cond a (cond b true false) false ≡ true) × (c ≡ true)
both-parts true true c e = (refl, e)
both-parts true false c e = absurd (true≢false (sym e))
both-parts false b c e = absurd (true≢false (sym e))

pub tables-kept : (w : List ℕ) {w₁ w₂ : List ℕ} → OthersKept w w₁ → Kept (T.Operations ∷ T.OperationPlaces ∷ T.OperationNames ∷ []) w₁ w₂ → TablesKept w w₂
tables-kept w o k u e m h =
    let p = both-parts (apart u T.Actions) (apart u T.ActionPlaces) (apart_from u (T.Operations ∷ T.OperationPlaces ∷ T.OperationNames ∷ [])) e in
    k.tables u p.1 m h ∙ o u p.0 m h

-- ---- The record and the name.

module _ {text : List ℕ} {os : List Operation} {m : ℕ} {w w₁ w₂ : List ℕ} (t : Tabled text os m w) (kept : OthersKept w w₁) (few : m < 128) (o : Operation) {at : Position} {size : ℕ} {run : Run} (f : OperationAdded m at size run w₁ w₂) where
  row-length : length (rows T.OperationNames m w₁) ≡ 4 * m
  unfolding rows
  row-length = length-take-le (4 * m) (drop operation_names_from w₁) (omega (arith, length-drop operation_names_from w₁, f.whole))

  pub tabled-more : o.name ≡ letters text at.place size → length o.name ≡ size → o.at ≡ positioned at → run.first ≡ operation_records os → run.count ≡ actions_in o.body → at.place < 65536 → size < 65536
      → Tabled text (os ++ o ∷ []) (m + 1) w₂
  tabled-more e l p a c near short = record {
    count = omega (arith, t.count, length_last os o);
    records =
        f.records o.name l ∙ rw (kept T.Operations refl m (omega arith), t.records, a, c, ← zero-add (operation_records os))
        (sym (ap (concat operation_record) (operations-last 0 os o) ∙ bytes-last operation_record (operations_of 0 os) (operation_at (0 + operation_records os) o)));
    places = f.places ∙ rw (kept T.OperationPlaces refl m (omega arith), t.places, ← p) (sym (bytes-last (λ x. place_bytes 0 x.at) os o));
    names =
        ap (λ (v : List ℕ). Tn.names_of text v (m + 1)) f.names ∙ names-behind text (rows T.OperationNames m w₁) m at.place size row-length near short
        ∙ rw (kept T.OperationNames refl m (omega arith), t.names, ← e) (sym (names-last os o));
  }

-- ---- The body.

module _ {names : List Name} {first : ℕ} {h : Held} {os : List Operation} {s s₁ : State} {w w₁ : List ℕ} (b : Bodies names first h os s.nodes s.actions w) (o : Operation)
    (x : Written (operation_scope names (names_of os)) o.body s w s₁ w₁) (w₂ : List ℕ) (front : front_of s₁.nodes w₂ ≡ front_of s₁.nodes w₁) (rec : rows T.Actions s₁.actions w₂ ≡ rows T.Actions s₁.actions w₁) (pl : rows T.ActionPlaces s₁.actions w₂ ≡ rows T.ActionPlaces s₁.actions w₁) where
  abbrev sc : Scope
  sc = operation_scope names (names_of os)

  base : s.nodes ≡ first + operation_expressions os
  base = b.nodes

  pub bodies-more : Bodies names first h (os ++ o ∷ []) s₁.nodes s₁.actions w₂
  bodies-more = record {
    count = omega (arith, b.count, x.count, records-last os o);
    records =
        rec ∙ x.records ∙ ap (λ (l : List ℕ). l ++ action_records (actions_of sc s.nodes o.body)) b.records
        ∙ sym (ap action_records (actions-last names [] first os o) ∙ bytes-append _ (operation_actions names [] first os) (actions_of sc (first + operation_expressions os) o.body) ∙ rw base);
    places =
        pl ∙ x.places ∙ ap (λ (l : List ℕ). l ++ action_besides (actions_of sc s.nodes o.body)) b.places
        ∙ sym (ap action_besides (actions-last names [] first os o) ∙ bytes-append _ (operation_actions names [] first os) (actions_of sc (first + operation_expressions os) o.body) ∙ rw base);
    nodes = omega (arith, b.nodes, x.nodes, expressions-last os o);
    expressions =
        front ∙ x.expressions ∙ ap (λ (v : Held). with_nodes v (nodes_in sc s.nodes o.body)) b.expressions
        ∙ sym (ap (with_nodes h) (nodes-last names [] first os o) ∙ nodes-append h (operation_nodes names [] first os) (nodes_in sc (first + operation_expressions os) o.body) ∙ rw base);
  }
