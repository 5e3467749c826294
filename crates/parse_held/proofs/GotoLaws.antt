-- Actions of the tables resolved, one after the other.
use mathlib.Core.List.{List, [], ◌∷◌, ◌++◌, append_assoc, append-nil, map, map-append}
use mathlib.Core.Path.{◌≡◌, refl, sym, ap, ◌∙◌, subst}
use Prim.Native.Nat.{ℕ, ◌+◌, ◌*◌, ◌/◌, ◌<◌, ◌≤◌}
use native.Mathlib.Omega.{arith}
use borrow.Author.Tests.{lt-ltb}
use denote.Enum.Declared.{tag_of}
use lib.ListN.{get_or, length, length-append}
use lib.Seq.{get_or-append-add}
use types.Run.{OneOf, miss}
use Rattle.image_records.proofs.ActionBack.{action-back}
use Rattle.image_records.proofs.ActionLaws.{action-length}
use Rattle.image_records.specs.contracts.actions.Action.{the_type}
use Rattle.image_records.specs.Actions.{meant}
use Rattle.image_records.specs.declared.actions.Action as C
use Rattle.image_records.specs.declared.actions.Action.TheVariants as A
use Rattle.judge_records.specs.Noted.{place_bytes}
use Rattle.judge_records.specs.Read.{place_of}
use Rattle.language.specs.Decode.{action_of}
use Rattle.language.specs.Describe.{NotedAction}
use Rattle.language.specs.Description as D
use Rattle.language.specs.Encode.{action_bytes, concat}
use Rattle.language.specs.Tree.{Name}
use Rattle.language.specs.Words.{Position}
use Rattle.parse_array.proofs.NodesAdded.{concat-append}
use Rattle.parse_array.specs.Layout.{most_actions, work_size}
use Rattle.parse_held.proofs.BodyLaws.{row-length}
use Rattle.parse_held.proofs.PlacesBack.{last-place}
use Rattle.parse_held.proofs.RowByRow.{next_row, row-stands, rows_left, rows-still}
use Rattle.parse_held.specs.Gotos.{IsAt, Resolved, Resolves, Waiting, labels_in, or_broken, resolved, resolved_at, state_at}
use Rattle.parse_held.specs.Standing.{ActsFit}
use Rattle.parse_tables.proofs.NamesGrown.{names-kept}
use Rattle.parse_tables.proofs.OtherRecords.{place-length}
use Rattle.parse_tables.specs.declared.Table.TheVariants as T
use Rattle.parse_tables.specs.Names.{found}
use Rattle.std.specs.Prelude as R
use Rattle.parse_tables.specs.Rows.{Kept, Wrote, rows}

-- ---- Action k, read from its record and its place.

module _ {k : ℕ} {x : NotedAction} {w : List ℕ} (h : k < most_actions) (i : IsAt k x w) where
  action-read : action_of (rows T.Actions (k + 1) w) k ≡ x.action
  action-read =
      let before = rows T.Actions k w in
      let bytes = action_bytes x.action in
      let l : length before ≡ 7 * k = row-length T.Actions k w i.whole (omega arith) in
      ap (λ (t : List ℕ). action_of t k) i.bytes
      ∙ action-back (before ++ bytes) k (omega (arith, l, length-append before bytes, action-length x.action)) x.action i.fits
      (λ j g. ap (λ (m : ℕ). get_or (before ++ bytes) (m + j) 0) (sym l) ∙ get_or-append-add before bytes j 0)

  place_read : place_of 1 (rows T.ActionPlaces (k + 1) w) k 0 ≡ x.at
  unfolding place_of
  place_read =
      let before = rows T.ActionPlaces k w in
      let s = before ++ place_bytes 0 x.at in
      let l : length before ≡ 2 * k = row-length T.ActionPlaces k w i.whole (omega arith) in
      let z : 1 * k + 0 ≡ k = omega arith in
      let some : k < length s / 2 = omega (arith, length-append before (place_bytes 0 x.at), place-length 0 x.at) in
      ap (λ (t : List ℕ). place_of 1 t k 0) i.place ∙ rw (lt-ltb k (length s / 2) some, z) (last-place before k x.at l i.near)

-- ---- What is neither a goto nor a call stays.

abbrev others : List ℕ
others = 0 ∷ 1 ∷ 2 ∷ 3 ∷ 6 ∷ 7 ∷ 8 ∷ 9 ∷ 10 ∷ []

module _ (text : List ℕ) (labels : List Name) (p : Position) where
  not-waiting : (a : C.Action) → OneOf others (tag_of the_type a) → resolved_at text labels p (meant a) ≡ meant a
  unfolding resolved_at
  not-waiting (A.Store k l r) o = refl
  not-waiting (A.StorePair k l m r) o = refl
  not-waiting (A.Set l) o = refl
  not-waiting (A.Perform n) o = refl
  not-waiting (A.Goto s) o = absurd (miss others 4 tt o)
  not-waiting (A.Call s) o = absurd (miss others 5 tt o)
  not-waiting A.Return o = refl
  not-waiting (A.When e x) o = refl
  not-waiting (A.Choose e n x) o = refl
  not-waiting (A.Arm x) o = refl
  not-waiting A.Broken o = refl

-- ---- One action.

module _ (text : List ℕ) (k n : ℕ) {w : List ℕ} (h : k < most_actions) (a : C.Action) (e : meant a ≡ action_of (rows T.Actions (k + 1) w) k) where
  pub one-stays : OneOf others (tag_of the_type a) → Resolves text k n w w
  one-stays o x i =
      let is : x.action ≡ meant a = sym (e ∙ action-read h i) in
      let same : resolved_at text (labels_in text w n) x.at x.action ≡ x.action = rw is (not-waiting text (labels_in text w n) x.at a o) in
      row-stands T.Actions k w (action_bytes (resolved_at text (labels_in text w n) x.at x.action)) i.whole (action-length _) h (i.bytes ∙ rw same)

  -- A goto or a call of m letters.
  pub one-led : (F : ℕ → D.Action) → ((p : Position) (j : ℕ) → resolved_at text (labels_in text w n) p (F j) ≡ or_broken (state_at text (labels_in text w n) p j) F) → (m : ℕ) → meant a ≡ F m → (f : R.Option ℕ)
      → found f ≡ state_at text (labels_in text w n) (place_of 1 (rows T.ActionPlaces (k + 1) w) k 0) m → (y : C.Action) → meant y ≡ or_broken (found f) F
      → {w' : List ℕ} → (k < most_actions → Wrote T.Actions k (action_bytes (meant y)) w w') → Resolves text k n w w'
  one-led F s m d f g y q {w'} z x i = subst (λ (v : D.Action). Wrote T.Actions k (action_bytes v) w w') eq (z h)
    where
      eq : meant y ≡ resolved_at text (labels_in text w n) x.at x.action
      eq = q ∙ rw (g, place_read h i, ← s x.at m, ← d, e, action-read h i)

pub goto-resolved : (text : List ℕ) (labels : List Name) (p : Position) (j : ℕ) → resolved_at text labels p (D.goto j) ≡ or_broken (state_at text labels p j) D.goto
unfolding resolved_at
goto-resolved text labels p j = refl

pub call-resolved : (text : List ℕ) (labels : List Name) (p : Position) (j : ℕ) → resolved_at text labels p (D.call j) ≡ or_broken (state_at text labels p j) D.call
unfolding resolved_at
call-resolved text labels p j = refl

-- ---- All of them.

-- The actions before k are resolved, and those from k on wait.
pub record Partway (text : List ℕ) (labels : List Name) (from to k : ℕ) (xs : List NotedAction) (w w' : List ℕ) : Type 0 where
  done : List NotedAction
  left : List NotedAction
  split : xs ≡ done ++ left
  count : k + length left ≡ to
  whole : length w' ≡ work_size
  fits : ActsFit left
  before : rows T.Actions k w' ≡ rows T.Actions from w ++ concat (λ x. action_bytes x.action) (map (resolved text labels) done)
  records : rows T.Actions to w' ≡ rows T.Actions k w' ++ concat (λ x. action_bytes x.action) left
  places : rows T.ActionPlaces to w' ≡ rows T.ActionPlaces k w' ++ concat (λ x. place_bytes 0 x.at) left
  kept : Kept (T.Actions ∷ []) w w'

module _ {text : List ℕ} {labels : List Name} {from to : ℕ} {xs : List NotedAction} {w : List ℕ} where
  pub at_first : Waiting from to xs w → Partway text labels from to from xs w w
  unfolding concat
  at_first a = record {
    done = [];
    left = xs;
    split = refl;
    count = a.count;
    whole = a.whole;
    fits = a.fits;
    before = sym (append-nil (rows T.Actions from w));
    records = a.records;
    places = a.places;
    kept = record { tables = λ u e m h. refl; front = refl };
  }

  pub at_last : {k : ℕ} {w' : List ℕ} → to ≤ k → Partway text labels from to k xs w w' → Resolved text labels from to xs w w'
  at_last {k} {w'} n p = go p.left p.split p.count
    where
      go : (left : List NotedAction) → xs ≡ p.done ++ left → k + length left ≡ to → Resolved text labels from to xs w w'
      go [] e c =
          let d : xs ≡ p.done = e ∙ append-nil p.done in
          let z : to ≡ k = omega arith in
          record { whole = p.whole; records = rw (z, d) p.before; kept = p.kept }
      go (x ∷ left) e c = absurd (omega arith)

  module _ (n : ℕ) (most : to ≤ most_actions) {k : ℕ} {w₁ : List ℕ} (h : k < to) (l : labels ≡ labels_in text w n) where
    pub one_more : {w₂ : List ℕ} → Resolves text k n w₁ w₂ → Partway text labels from to k xs w w₁ → Partway text labels from to (k + 1) xs w w₂
    unfolding concat
    one_more {w₂} f p = go p.left p.split p.count p.fits p.records p.places
      where
        same-labels : labels ≡ labels_in text w₁ n
        same-labels = l ∙ sym (names-kept text T.Labels w w₁ (λ m g. p.kept.tables T.Labels refl m g) n)

        go : (left : List NotedAction) → xs ≡ p.done ++ left → k + length left ≡ to → ActsFit left → rows T.Actions to w₁ ≡ rows T.Actions k w₁ ++ concat (λ x. action_bytes x.action) left
            → rows T.ActionPlaces to w₁ ≡ rows T.ActionPlaces k w₁ ++ concat (λ x. place_bytes 0 x.at) left → Partway text labels from to (k + 1) xs w w₂
        go [] e c a b d = absurd (omega arith)
        go (x ∷ left) e c a b d = record {
          done = p.done ++ x ∷ [];
          left = left;
          split = e ∙ sym (append_assoc p.done (x ∷ []) left);
          count = omega arith;
          whole = wrote.still;
          fits = a.1;
          before = wrote.behind ∙ rw p.before (append_assoc (rows T.Actions from w) (concat (λ z. action_bytes z.action) (map (resolved text labels) p.done)) (action_bytes y) ∙ ap (λ (bs : List ℕ). rows T.Actions from w ++ bs) joined);
          records = rows-still T.Actions k to w₁ (action_bytes x.action) (concat (λ y. action_bytes y.action) left) p.whole h most (action-length x.action) b (action_bytes y) (action-length y) wrote;
          places = kept-places to most ∙ rows_left T.ActionPlaces k to w₁ (place_bytes 0 x.at) (concat (λ y. place_bytes 0 y.at) left) p.whole h most (place-length 0 x.at) d ∙ ap (λ (s : List ℕ). s ++ concat (λ y. place_bytes 0 y.at) left) (sym (kept-places (k + 1) (omega arith)));
          kept = record { tables = λ u q m g. wrote.kept.tables u q m g ∙ p.kept.tables u q m g; front = wrote.kept.front ∙ p.kept.front };
        }
          where
            is : IsAt k x w₁
            is = record {
              whole = p.whole;
              fits = a.0.0;
              near = a.0.1;
              bytes = next_row T.Actions k to w₁ (action_bytes x.action) (concat (λ y. action_bytes y.action) left) p.whole h most (action-length x.action) b;
              place = next_row T.ActionPlaces k to w₁ (place_bytes 0 x.at) (concat (λ y. place_bytes 0 y.at) left) p.whole h most (place-length 0 x.at) d;
            }

            y : D.Action
            y = resolved_at text labels x.at x.action

            wrote : Wrote T.Actions k (action_bytes (resolved_at text labels x.at x.action)) w₁ w₂
            wrote = rw same-labels (f x is)

            kept-places : (m : ℕ) → m ≤ most_actions → rows T.ActionPlaces m w₂ ≡ rows T.ActionPlaces m w₁
            kept-places m g = wrote.kept.tables T.ActionPlaces refl m g

            joined : concat (λ z. action_bytes z.action) (map (resolved text labels) p.done) ++ action_bytes y ≡ concat (λ z. action_bytes z.action) (map (resolved text labels) (p.done ++ x ∷ []))
            joined =
                let f : NotedAction → List ℕ = λ z. action_bytes z.action in
                sym (ap (concat f) (map-append (resolved text labels) p.done (x ∷ [])) ∙ concat-append f (map (resolved text labels) p.done) (resolved text labels x ∷ [])
                ∙ ap (λ (bs : List ℕ). concat f (map (resolved text labels) p.done) ++ bs) (append-nil (action_bytes y)))
