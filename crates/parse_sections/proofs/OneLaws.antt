-- One operation, as the code reads it.
use mathlib.Core.Bool.{false}
use mathlib.Core.List.{List, [], ◌∷◌, ◌++◌}
use mathlib.Core.Path.{◌≡◌, refl, sym, ap, ◌∙◌, subst}
use Prim.Native.Nat.{ℕ, ◌+◌, ◌-◌, ◌<◌, ◌≤◌}
use native.Mathlib.Omega.{arith}
use Rattle.parse_actions.specs.Lists.{Told, list_stack}
use Rattle.parse_step.proofs.Ceilings.{few-counted}
use Rattle.parse_step.proofs.Saying.{makes-it}
use Rattle.parse_step.specs.Answers.{Answer}
use Rattle.parse_step.specs.declared.Reached.{Reached}
use Rattle.parse_step.specs.declared.Unread.{Unread}
use Rattle.std.specs.Prelude.{Err, Ok}
use Rattle.parse_step.specs.declared.State.{State}
use Rattle.parse_step.specs.Course.{Stack, counts_of, runs}
use Rattle.parse_facilities.proofs.Unexpressed.{letters-length}
use Rattle.language.specs.Building.{Built, joined, list_no, with_text, word_no}
use Rattle.language.specs.Declaring.{make_operation}
use Rattle.language.specs.DescribeText.{operation_scope}
use Rattle.language.specs.Machine.{ask, make, operation_spec}
use Rattle.language.specs.Naming.{Scope}
use Rattle.language.specs.Tree.{Name, Operation}
use Rattle.parse_tables.specs.declared.meaning.KnownNames.{KnownNames}
use Rattle.parse_tables.specs.Known.{Known}
use Rattle.parse_stores.proofs.Keeping.{front_kept}
use Rattle.parse_tables.proofs.NamesGrown.{names-few, names-kept}
use Rattle.parse_stores.proofs.Standings.{few-operations}
use Rattle.parse_stores.specs.Actions as A
use Rattle.parse_stores.specs.Actions.{grown}
use Rattle.parse_tables.specs.declared.Table.TheVariants as T
use Rattle.parse_tables.specs.Operations.{OperationAdded}
use Rattle.parse_tables.specs.Names.{facility_names}
use Rattle.text_words.specs.declared.Word.{Word}
use Rattle.text_words.specs.Meaning.{positioned}
use Rattle.parse_array.specs.Held.{Held}
use Rattle.parse_array.specs.Names.{letters}
use Rattle.parse_sections.proofs.Appended.{names_of}
use Rattle.parse_sections.proofs.ListedMore.{bodies-more, tabled-more, tables-kept}
use Rattle.parse_sections.proofs.Telling.{told-ok, untold}
use Rattle.parse_sections.specs.Heads.{Body, BodyRead, HeadRead, Heads, begun, close_stack, open_state}
use Rattle.parse_sections.specs.Listed.{Bodies, Standing, Tabled, TablesKept}
use Rattle.parse_sections.specs.Lists.{One, OneRead, with_operations}

-- What is known in a body: the facilities, and the operations before it.
abbrev pub before : State → KnownNames
before s = record { facilities = s.known; operations = s.operations; waiting = false }

module _ {text : List ℕ} {names : List Name} {first : ℕ} {h : Held} {os : List Operation} {w : Word} {s : State} {work : List ℕ} (st : Standing text names first h os w s work) where
  abbrev sc : Scope
  sc = operation_scope names (names_of os)

  known : Known text sc (before s) work
  known = record { facilities = st.known; operations = sym (names-few text T.OperationNames work s.operations (few-operations (counts_of s) st.within) ∙ st.tabled.names); states = λ m. refl }

  module _ {a : Reached} (z : HeadRead text w s a) where
    -- Where its body begins.
    pub body-stands : A.Standing text sc (before s) a.next (open_state s) s.actions work
    body-stands = record {
      seen = z.seen;
      short = st.short;
      whole = st.whole;
      within = z.within;
      known = known;
      facilities = refl;
      nodes = omega (arith, st.nodes);
      actions = st.actions;
    }

    to-body : (K : Stack) (b : Built) → runs text (ask operation_spec ∷ K) w b s ≡ runs text (list_stack false ++ (close_stack ++ K)) a.next (begun text w b) (open_state s)
    to-body K b = z.course K b ∙ ap (λ (v : State). runs text (list_stack false ++ (close_stack ++ K)) a.next (begun text w b) v) z.state

    pub body-fails : {work₁ : List ℕ} {e : Unread} → Body text (before s) a.next (open_state s) work work₁ (Err e) → {Read : Reached → Type 0} → Told text (ask operation_spec ∷ []) w s (Err e) Read
    body-fails y = untold (y sc body-stands) (λ K. make make_operation ∷ K) (begun text w) to-body

    module _ {work₁ : List ℕ} {r : Reached} where
      module _ (y : BodyRead text sc (before s) a.next (open_state s) work work₁ r) {c : ℕ} (e : c ≡ r.state.actions - s.actions) {work₂ : List ℕ} (f : OperationAdded s.operations w.at w.size (record { first = s.actions; count = c }) work₁ work₂) where
        abbrev o : Operation
        o = record { name = letters text w.at.place w.size; at = positioned w.at; body = y.tree }

        course : (K : Stack) (b : Built) → runs text (ask operation_spec ∷ K) w b s ≡ runs text K r.next (with_text b (with_operations b.text (o ∷ []))) r.state
        unfolding list_no word_no joined
        course K b =
            to-body K b ∙ y.course (make make_operation ∷ K) (begun text w b)
            ∙ makes-it text make_operation K r.next (grown y.tree (begun text w b)) (with_text b (with_operations b.text (o ∷ []))) r.state (λ p. refl)

        few : r.state.counted ≤ 2048
        few = few-counted (counts_of r.state) y.standing.within

        none : r.state.states ≡ 0
        none = y.closed.states ∙ st.states

        tables : TablesKept work work₂
        tables = tables-kept work y.written.tables f.kept

        tabled : Tabled text (os ++ o ∷ []) r.state.operations work₂
        tabled =
            let q : s.operations + 1 ≡ r.state.operations = omega (arith, y.closed.operations) in
            subst (λ (m : ℕ). Tabled text (os ++ o ∷ []) m work₂) q
            (tabled-more st.tabled y.written.tables z.room o f refl (letters-length text w.at.place w.size st.seen.next.within) refl st.bodies.count (omega (arith, e, y.written.count))
            (omega (arith, st.seen.next.within, st.short)) (omega (arith, st.seen.next.within, st.short)))

        bodies : Bodies names first h (os ++ o ∷ []) r.state.nodes r.state.actions work₂
        bodies =
            bodies-more st.bodies o y.written work₂
            (front_kept work₁ work₂ f.whole f.still f.kept.front r.state.nodes (omega (arith, y.standing.nodes, none, few)))
            (f.kept.tables T.Actions refl r.state.actions (omega (arith, y.standing.actions, few))) (f.kept.tables T.ActionPlaces refl r.state.actions (omega (arith, y.standing.actions, few)))

        pub operation-read : OneRead text names first h os w s work work₂ r
        operation-read = record {
          tree = o;
          course = course;
          stays = record { facilities = y.closed.facilities; states = y.closed.states; nesting = omega (arith, y.closed.nesting); known = y.closed.known };
          tables = tables;
          standing = record {
            seen = y.standing.seen;
            short = st.short;
            whole = f.still;
            within = y.standing.within;
            known = st.known ∙ sym (names-kept text T.FacilityNames work work₂ (tables T.FacilityNames refl) s.known) ∙ ap (facility_names text work₂) (sym y.closed.known);
            states = none;
            nodes = omega (arith, y.standing.nodes, none);
            actions = y.standing.actions;
            tabled = tabled;
            bodies = bodies;
          };
        }

module _ {text : List ℕ} {w : Word} {s : State} {work : List ℕ} where
  pub one-unheaded : {e : Unread} → Heads text w s (Err e) → {work' : List ℕ} → One text w s work work' (Err e)
  one-unheaded x names first h os st = untold (x st.seen st.within) (λ K. K) (λ b. b) (λ K b. refl)

  module _ {a : Reached} (x : Heads text w s (Ok a)) {work₁ : List ℕ} where
    -- The body, from the state behind the bracket.
    body : {r : Answer} {names : List Name} {first : ℕ} {h : Held} {os : List Operation} → Standing text names first h os w s work → Body text (before s) a.next a.state work work₁ r → Body text (before s) a.next (open_state s) work work₁ r
    body {r} st y = subst (λ (v : State). Body text (before s) a.next v work work₁ r) ((x st.seen st.within).done refl).state y

    pub one-bodiless : {e : Unread} → Body text (before s) a.next a.state work work₁ (Err e) → One text w s work work₁ (Err e)
    one-bodiless y names first h os st = body-fails st ((x st.seen st.within).done refl) (body st y)

    pub one-read : {r : Reached} → Body text (before s) a.next a.state work work₁ (Ok r) → {c : ℕ} → c ≡ r.state.actions - s.actions
        → {work₂ : List ℕ} → (s.operations < 128 → OperationAdded s.operations w.at w.size (record { first = s.actions; count = c }) work₁ work₂) → One text w s work work₂ (Ok r)
    one-read y e f names first h os st =
        let head = (x st.seen st.within).done refl in
        let t = body st y (operation_scope names (names_of os)) (body-stands st head) in
        told-ok (operation-read st head (t.done refl) e (f head.room))
