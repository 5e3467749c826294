-- States read once, with their gotos waiting, and resolved by their labels.
use mathlib.Core.Bool.{true}
use mathlib.Core.List.{List, [], ◌∷◌, ◌++◌, map}
use mathlib.Core.Path.{◌≡◌, refl, sym, ap, ◌∙◌}
use Prim.Native.Nat.{ℕ, ◌≤◌}
use native.Mathlib.Omega.{arith}
use lib.ListN.{length, length-map}
use Rattle.about_rules.specs.InOrder.{state_expressions}
use Rattle.about_rules.specs.Runs.{state_records, states-size}
use Rattle.parse_step.proofs.Ceilings.{few-counted}
use Rattle.parse_step.specs.declared.State.{State}
use Rattle.parse_step.specs.Course.{counts_of}
use Rattle.parse_facilities.proofs.NameWords.{few-facilities}
use Rattle.language.specs.Describe.{NotedAction}
use Rattle.language.specs.DescribeText.{state_actions}
use Rattle.language.specs.Encode.{concat}
use Rattle.language.specs.Naming.{Scope}
use Rattle.language.specs.Tree as T
use Rattle.language.specs.Tree.{Declaration, Name, Operation}
use Rattle.judge_records.specs.Noted.{place_bytes}
use Rattle.parse_held.proofs.ActionsFit.{StatesFit}
use Rattle.parse_held.proofs.Resolving.{resolved-states, states-same, waiting_in}
use Rattle.parse_held.proofs.TextNodesFit.{state-acts}
use Rattle.parse_held.specs.Gotos.{Resolved, ResolvesAll, Waiting, labels_in, resolved}
use Rattle.parse_held.specs.NearTexts.{StatesNear}
use Rattle.parse_held.specs.Sections.{Few}
use Rattle.parse_tables.specs.declared.meaning.KnownNames.{KnownNames}
use Rattle.parse_sections.specs.Sections.{Ready}
use Rattle.parse_stores.proofs.Keeping.{front_kept}
use Rattle.parse_tables.proofs.NamesGrown.{names-few}
use Rattle.parse_tables.proofs.RowLaws.{apart-first}
use Rattle.parse_stores.proofs.Standings.{few-operations, few-states}
use Rattle.parse_stores.specs.Actions.{Standing, action_besides, action_records, front_of}
use Rattle.parse_states.specs.Begins.{length_of}
use Rattle.parse_states.specs.Bodies.{Stands}
use Rattle.parse_states.specs.States.{All, AllRead, start_stack}
use Rattle.parse_states.specs.Written.{Written, labels_of, states_actions, states_size}
use Rattle.parse_tables.specs.declared.Table.TheVariants as Tb
use Rattle.parse_tables.specs.Names.{names_of}
use Rattle.parse_tables.specs.Rows.{rows}
use Rattle.text_words.specs.declared.Word.{Word}
use Rattle.parse_array.specs.Held.{with_nodes}
use Rattle.parse_array.specs.Layout.{most_actions, work_size}
use Rattle.call_read.proofs.Fronts.{rows_before}
use Rattle.call_read.proofs.WholeLaws.{named, none-labelled, whole-at}
use Rattle.call_read.specs.Ready.{Behind, Closes, Finished, tallied}
use Rattle.parse_step.specs.Answers.{Answer}
use Rattle.parse_step.specs.declared.Reached.{Reached}
use Rattle.parse_step.proofs.Answers.{at_ok, not_ok, ok_err}
use Rattle.std.specs.Prelude.{IsErr, Ok}

-- The names known while states are read.
abbrev pub counts : State → KnownNames
counts s = record { facilities = s.known; operations = s.operations; waiting = true }

abbrev waits : List Declaration → List Operation → Scope
waits ds os = waiting_in (map (λ d. d.name) ds) (map (λ o. o.name) os)

-- ---- Sizes.

same_size : (l : ℕ) (ss : List T.State) → state_expressions (length_of l) ss ≡ states_size l ss
unfolding state_expressions states_size
same_size l [] = refl
same_size l (s ∷ ss) = rw (same_size l ss)

same-records : (ss : List T.State) → state_records ss ≡ states_actions ss
unfolding state_records states_actions
same-records [] = refl
same-records (s ∷ ss) = rw (same-records ss)

waiting-fit : (ds : List Declaration) (os : List Operation) → StatesFit (waits ds os)
waiting-fit ds os n k h e = let z : length n ≡ k = cc in omega arith

-- Resolving moves no action.
same-places : (text : List ℕ) (labels : List Name) (xs : List NotedAction) → action_besides xs ≡ action_besides (map (resolved text labels) xs)
unfolding concat
same-places text labels [] = refl
same-places text labels (x ∷ xs) = ap (λ (bs : List ℕ). place_bytes 0 x.at ++ bs) (same-places text labels xs)

-- ---- What was written waiting, resolved.

module _ {text : List ℕ} (ds : List Declaration) (os : List Operation) {l : ℕ} (ts : List T.State) {s s' : State} {w w₁ w₂ : List ℕ} (x : Written text (waits ds os) l ts s w s' w₁)
    (z : Resolved text (labels_of ts) s.actions s'.actions (state_actions (length_of l) (waits ds os) s.nodes ts) w₁ w₂) (near : StatesNear text ts)
    (whole : length w ≡ work_size) (whole₁ : length w₁ ≡ work_size) (few : Few (tallied s s')) where
  abbrev fs : List Name
  fs = map (λ d. d.name) ds

  abbrev ns : List Name
  ns = map (λ o. o.name) os

  abbrev acts : List NotedAction
  acts = state_actions (length_of l) (named ds os (labels_of ts)) s.nodes ts

  are-resolved : map (resolved text (labels_of ts)) (state_actions (length_of l) (waits ds os) s.nodes ts) ≡ acts
  are-resolved = resolved-states fs ns (labels_of ts) text (length_of l) s.nodes ts near

  before : rows Tb.Actions s.actions w₁ ≡ rows Tb.Actions s.actions w
  before = rows_before Tb.Actions s.actions s'.actions w w₁ _ whole (omega (arith, x.count)) (omega (arith, x.count, few.actions)) x.actions

  pub written-resolved : Written text (named ds os (labels_of ts)) l ts s w s' w₂
  written-resolved = record {
    nodes = x.nodes;
    expressions = front_kept w₁ w₂ whole₁ z.whole z.kept.front s'.nodes few.nodes ∙ x.expressions
        ∙ ap (with_nodes (front_of s.nodes w)) (states-same fs ns (labels_of ts) (length_of l) s.nodes ts);
    count = x.count;
    actions = z.records ∙ rw (before, are-resolved);
    action_places = z.kept.tables Tb.ActionPlaces refl s'.actions few.actions ∙ x.action_places
        ∙ ap (λ (bs : List ℕ). rows Tb.ActionPlaces s.actions w ++ bs) (same-places text (labels_of ts) _ ∙ ap action_besides are-resolved);
    number = x.number;
    records = z.kept.tables Tb.States refl s'.states few.states ∙ x.records;
    places = z.kept.tables Tb.StatePlaces refl s'.states few.states ∙ x.places;
    labels = ap (λ (v : List ℕ). names_of text v s'.states) (z.kept.tables Tb.Labels refl s'.states few.states) ∙ x.labels;
    tables = λ u e m h. z.kept.tables u (apart-first u Tb.Actions (Tb.ActionPlaces ∷ Tb.States ∷ Tb.StatePlaces ∷ Tb.Labels ∷ []) e) m h ∙ x.tables u e m h;
  }

-- ---- Reading.

module _ {text : List ℕ} {ds : List Declaration} {os : List Operation} {w : Word} {s : State} {w₁ : List ℕ} (a : Ready text ds os w s w₁) where
  pub stands : Standing text (waits ds os) (counts s) w s s.actions w₁
  stands = record {
    seen = a.standing.seen;
    short = a.standing.short;
    whole = a.standing.whole;
    within = a.standing.within;
    known = record {
      facilities = a.standing.known;
      operations = sym (names-few text Tb.OperationNames _ s.operations (few-operations (counts_of s) a.standing.within) ∙ a.standing.tabled.names);
      states = λ m. refl;
    };
    facilities = refl;
    nodes = omega (arith, a.standing.nodes);
    actions = a.standing.actions;
  }

  module _ {l : ℕ} {r : Answer} {w₂ : List ℕ} (q : All start_stack l text (counts s) w s w₁ w₂ r) where
    pub not-read : IsErr r → Closes text ds os l w s w₂ r
    not-read n = let z = q (waits ds os) stands in record { done = λ d. not_ok n d; refused = z.refused; full = z.full }

    module _ {r' : Reached} (d : r ≡ Ok r') where
      y : AllRead text (waits ds os) (counts s) l start_stack w s w₁ w₂ r'
      y = (q (waits ds os) stands).done d

      few : Few (tallied s r'.state)
      few = record {
        facilities = omega (arith, a.counted, few-facilities (counts_of s) a.standing.within);
        operations = few-operations (counts_of s) a.standing.within;
        nodes = omega (arith, y.standing.nodes, few-counted (counts_of r'.state) y.standing.within, few-states (counts_of r'.state) y.standing.within);
        actions = omega (arith, y.standing.actions, few-counted (counts_of r'.state) y.standing.within);
        states = few-states (counts_of r'.state) y.standing.within;
      }

      pub few-actions : r'.state.actions ≤ most_actions
      few-actions = few.actions

      abbrev acted : List NotedAction
      acted = state_actions (length_of l) (waits ds os) s.nodes y.trees

      labels : labels_in text w₂ r'.state.states ≡ labels_of y.trees
      labels =
          names-few text Tb.Labels w₂ r'.state.states few.states ∙ y.written.labels
          ∙ ap (λ (x : List Name). x ++ labels_of y.trees) (none-labelled text w₁ a.standing.states)

      waiting : StatesNear text y.trees → Waiting s.actions r'.state.actions acted w₂
      waiting near = record {
        whole = y.standing.whole;
        fits = state-acts text (length_of l) (waits ds os) (omega (arith, length-map os (λ (o : Operation). o.name), a.standing.tabled.count, few.operations)) (waiting-fit ds os) s.nodes y.trees near
            (omega (arith, y.written.nodes, same_size l y.trees, few.nodes)) (omega (arith, y.written.count, same-records y.trees, few.actions));
        count = omega (arith, y.written.count, same-records y.trees, states-size (length_of l) (waits ds os) s.nodes y.trees);
        records = y.written.actions ∙ ap (λ (bs : List ℕ). bs ++ action_records acted) (sym before-actions);
        places = y.written.action_places ∙ ap (λ (bs : List ℕ). bs ++ action_besides acted) (sym before-places);
      }
        where
          before-actions : rows Tb.Actions s.actions w₂ ≡ rows Tb.Actions s.actions w₁
          before-actions = rows_before Tb.Actions s.actions r'.state.actions w₁ w₂ _ a.standing.whole (omega (arith, y.written.count)) (omega (arith, y.written.count, few.actions)) y.written.actions

          before-places : rows Tb.ActionPlaces s.actions w₂ ≡ rows Tb.ActionPlaces s.actions w₁
          before-places = rows_before Tb.ActionPlaces s.actions r'.state.actions w₁ w₂ _ a.standing.whole (omega (arith, y.written.count)) (omega (arith, y.written.count, few.actions)) y.written.action_places

      pub all_read : {w₃ : List ℕ} → ResolvesAll text s.actions r'.state.actions r'.state.states w₂ w₃ → Closes text ds os l w s w₃ (Ok r')
      all_read {w₃} f = record { done = λ e. at_ok (Finished text ds os l w s w₃) e finished; refused = λ i e. ok_err e; full = λ e. ok_err e }
        where
          resolves : StatesNear text y.trees → Resolved text (labels_of y.trees) s.actions r'.state.actions acted w₂ w₃
          resolves near = rw labels at (f acted (waiting near))

          finished : Finished text ds os l w s w₃ r'
          finished = record {
            trees = y.trees;
            course = y.course;
            whole = λ t i j k g near.
                let n : StatesNear text y.trees = rw k at near.states in
                whole-at t i j k a g (written-resolved ds os y.trees y.written (resolves n) n a.standing.whole y.standing.whole few) few;
          }

-- ---- As the code takes it.

pub known : {text : List ℕ} {w : Word} {s : State} {work : List ℕ} → Behind text w s work → Stands text (counts s) w s work
known b = record { scope = waits b.declared b.operations; standing = stands b.ready }
