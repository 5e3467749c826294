-- The operations of a text, as the code reads them.
use mathlib.Core.Bool.{true}
use mathlib.Core.List.{List, [], ◌∷◌, ◌++◌, append_assoc, append-nil}
use mathlib.Core.Path.{◌≡◌, refl, sym, ap, ◌∙◌, subst}
use Prim.Native.Nat.{ℕ, ◌*◌, ◌-◌, ◌<◌, ◌≤◌}
use native.Mathlib.Omega.{arith}
use lib.ListN.{length}
use Rattle.parse_actions.specs.Lists.{Told}
use Rattle.parse_step.proofs.TakenWords.{on_taken, took-done}
use Rattle.parse_step.specs.Answers.{Answer}
use Rattle.parse_step.specs.declared.Reached.{Reached}
use Rattle.parse_step.specs.declared.Unread.{Unread}
use Rattle.std.specs.Prelude.{Err, Ok}
use Rattle.parse_step.specs.declared.State.{State}
use Rattle.parse_step.specs.Course.{Seen, Stack, counts_of, kind_no, runs}
use Rattle.parse_step.specs.Taken.{Passed, Took}
use Rattle.parse_facilities.proofs.Appended.{length_last}
use Rattle.parse_step.proofs.States.{state-of}
use Rattle.language.specs.Building.{Built, with_text}
use Rattle.language.specs.Decode.{up_to}
use Rattle.language.specs.DescribeText.{operation_actions, operation_expressions, operation_nodes, operation_records, operations_of}
use Rattle.language.specs.Encode.{concat}
use Rattle.language.specs.Kinds.{comma}
use Rattle.language.specs.Machine.{ask, operation_spec, operations_more, within_ceilings}
use Rattle.language.specs.Tree.{Name, Operation}
use Rattle.parse_expressions.proofs.PartLaws.{with_nothing}
use Rattle.parse_stores.proofs.Standings.{few-operations}
use Rattle.parse_stores.specs.Actions.{front_of}
use Rattle.parse_tables.specs.Names.{facility_names, names_of}
use Rattle.parse_tables.specs.declared.Table.TheVariants as T
use Rattle.parse_tables.specs.Rows.{rows}
use Rattle.text_words.specs.declared.Word.{Word}
use Rattle.parse_array.specs.Held.{Held}
use Rattle.parse_array.specs.Layout.{work_size}
use Rattle.parse_sections.proofs.HeadWords.{comma-taken}
use Rattle.parse_sections.proofs.Telling.{through, told, untold}
use Rattle.parse_bounds.proofs.Telling as D
use Rattle.parse_sections.specs.Heads.{ControlRead, Ends, control_stack}
use Rattle.parse_sections.specs.Listed.{Standing, Stays}
use Rattle.parse_sections.specs.Lists.{Lists, Mores, One, OneRead, SomeRead, Stands, with_operations}

-- ---- Operations at the end of a text's.

none-with : (b : Built) → b ≡ with_text b (with_operations b.text [])
none-with b = rw (append-nil b.text.operations)

more-with : (b : Built) (os ps : List Operation) → with_text b (with_operations (with_operations b.text os) ps) ≡ with_text b (with_operations b.text (os ++ ps))
more-with b os ps = rw (append_assoc b.text.operations os ps)

-- ---- Where reading stands, and what stays.

stays_then : {s t u : State} → Stays s t → Stays t u → Stays s u
stays_then x y = record { facilities = y.facilities ∙ x.facilities; states = y.states ∙ x.states; nesting = y.nesting ∙ x.nesting; known = y.known ∙ x.known }

stays_same : {s t : State} → t ≡ s → Stays s t
stays_same e = rw e (record { facilities = refl; states = refl; nesting = refl; known = refl })

module _ {text : List ℕ} {names : List Name} {first : ℕ} {h : Held} {os : List Operation} where
  -- The same state, with another word ahead.
  standing_on : {w : Word} {s : State} {work : List ℕ} (w' : Word) (s' : State) → Standing text names first h os w s work → s' ≡ s → Seen text w' → Standing text names first h os w' s' work
  standing_on w' s' st e z = rw e (record {
    seen = z;
    short = st.short;
    whole = st.whole;
    within = st.within;
    known = st.known;
    states = st.states;
    nodes = st.nodes;
    actions = st.actions;
    tabled = st.tabled;
    bodies = st.bodies;
  })

-- ---- Behind an operation.

-- From w and s on, operations have been read up to here.
abbrev pub Here : List ℕ → List Name → ℕ → Held → List Operation → Word → State → List ℕ → Word → State → List ℕ → Type 0
Here text names first h os w s work next state work' = SomeRead text names first h os (ask operations_more ∷ []) (ask operations_more ∷ []) w s work next state work'

module _ {text : List ℕ} {names : List Name} {first : ℕ} {h : Held} {os : List Operation} {w : Word} {s : State} {work : List ℕ} where
  -- Nothing more yet.
  pub none_yet : Standing text names first h os w s work → Here text names first h os w s work w s work
  none_yet st = record {
    trees = [];
    course = λ K b. ap (λ (v : Built). runs text (ask operations_more ∷ K) w v s) (none-with b);
    stays = stays_same refl;
    tables = λ u e m l. refl;
    standing = subst (λ (v : List Operation). Standing text names first h v w s work) (sym (append-nil os)) st;
  }

  module _ {next : Word} {state : State} {work₁ : List ℕ} (x : Here text names first h os w s work next state work₁) where
    abbrev with_read : Built → Built
    with_read b = with_text b (with_operations b.text x.trees)

    pub list-ended : (kind_no next.kind ≡ comma → ⊥) → {a : Answer} → Ends text next state a
        → Told text (ask operations_more ∷ []) w s a (λ v. SomeRead text names first h os (ask operations_more ∷ []) control_stack w s work v.next v.state work₁)
    list-ended n {a} f = through (f x.standing.seen n) (λ K. K) with_read x.course read
      where
        read : (v : Reached) → ControlRead text (ask operations_more ∷ []) next state v → SomeRead text names first h os (ask operations_more ∷ []) control_stack w s work v.next v.state work₁
        read v y = record {
          trees = x.trees;
          course = λ K b. x.course K b ∙ y.course K (with_read b);
          stays = stays_then x.stays (stays_same y.state);
          tables = x.tables;
          standing = standing_on v.next v.state x.standing y.state y.seen;
        }

    module _ (k : kind_no next.kind ≡ comma) where
      to-comma : (K : Stack) (b : Built) → runs text (ask operations_more ∷ K) w b s ≡ on_taken text next (ask operation_spec ∷ ask operations_more ∷ K) (with_read b) (counts_of state)
      to-comma K b = x.course K b ∙ comma-taken text next K (with_read b) state k

      pub comma-not : {e : Unread} → Took text next (counts_of state) state (Err e) → {Read : Reached → Type 0} → Told text (ask operations_more ∷ []) w s (Err e) Read
      comma-not t = told (D.not-taken t (λ K. ask operation_spec ∷ ask operations_more ∷ K) with_read to-comma)

      module _ {a : Reached} (t : Took text next (counts_of state) state (Ok a)) where
        p : Passed text next (counts_of state) state a
        p = t.done refl

        same : a.state ≡ state
        same = state-of p.counts p.kept

        to-spec : (K : Stack) (b : Built) → runs text (ask operations_more ∷ K) w b s ≡ runs text (ask operation_spec ∷ ask operations_more ∷ K) a.next (with_read b) a.state
        to-spec K b = to-comma K b ∙ took-done p x.standing.seen (ask operation_spec ∷ ask operations_more ∷ K) (with_read b)

        pub another-not : {work₂ : List ℕ} {e : Unread} → One text a.next a.state work₁ work₂ (Err e) → {Read : Reached → Type 0} → Told text (ask operations_more ∷ []) w s (Err e) Read
        another-not f = untold (f names first h (os ++ x.trees) (standing_on a.next a.state x.standing same p.seen)) (λ K. ask operations_more ∷ K) with_read to-spec

        module _ {r : Reached} {work₂ : List ℕ} (f : One text a.next a.state work₁ work₂ (Ok r)) where
          y : OneRead text names first h (os ++ x.trees) a.next a.state work₁ work₂ r
          y = (f names first h (os ++ x.trees) (standing_on a.next a.state x.standing same p.seen)).done refl

          pub another : Here text names first h os w s work r.next r.state work₂
          another = record {
            trees = x.trees ++ y.tree ∷ [];
            course = λ K b. to-spec K b ∙ y.course (ask operations_more ∷ K) (with_read b)
                ∙ ap (λ (v : Built). runs text (ask operations_more ∷ K) r.next v r.state) (more-with b x.trees (y.tree ∷ []));
            stays = stays_then x.stays (stays_then (stays_same same) y.stays);
            tables = λ u e m l. y.tables u e m l ∙ x.tables u e m l;
            standing = subst (λ (v : List Operation). Standing text names first h v r.next r.state work₂) (append_assoc os x.trees (y.tree ∷ [])) y.standing;
          }

          -- There is one operation more, and they are not too many.
          pub one_fewer : 129 - r.state.operations < 129 - state.operations
          one_fewer = omega (arith, x.standing.tabled.count, y.standing.tabled.count, length_last (os ++ x.trees) y.tree, few-operations (counts_of r.state) y.standing.within)

-- ---- All of them.

module _ {text : List ℕ} {w : Word} {s : State} {work work₁ : List ℕ} where
  pub list-not : {e : Unread} → One text w s work work₁ (Err e) → Lists text w s work work₁ (Err e)
  list-not f names first h os st = untold (f names first h os st) (λ K. ask operations_more ∷ K) (λ b. b) (λ K b. refl)

  module _ {r : Reached} (f : One text w s work work₁ (Ok r)) where
    pub list-stands : Stands text w s work → Stands text r.next r.state work₁
    list-stands x =
        let y = (f x.names x.first x.before x.declared x.standing).done refl in
        record { names = x.names; first = x.first; before = x.before; declared = x.declared ++ y.tree ∷ []; standing = y.standing }

    pub list-more : {q : Answer} {work₂ : List ℕ} → Mores text r.next r.state work₁ work₂ q → Lists text w s work work₂ q
    list-more {q} {work₂} g names first h os st = through (g names first h (os ++ y.tree ∷ []) y.standing) (λ K. K) (λ b. with_text b (with_operations b.text (y.tree ∷ []))) (λ K b. y.course (ask operations_more ∷ K) b) read
      where
        y : OneRead text names first h os w s work work₁ r
        y = (f names first h os st).done refl

        read : (x : Reached) → SomeRead text names first h (os ++ y.tree ∷ []) (ask operations_more ∷ []) control_stack r.next r.state work₁ x.next x.state work₂
            → SomeRead text names first h os (ask operation_spec ∷ ask operations_more ∷ []) control_stack w s work x.next x.state work₂
        read x v = record {
          trees = y.tree ∷ v.trees;
          course = λ K b. y.course (ask operations_more ∷ K) b ∙ v.course K (with_text b (with_operations b.text (y.tree ∷ [])))
              ∙ ap (λ (z : Built). runs text (control_stack ++ K) x.next z x.state) (more-with b (y.tree ∷ []) v.trees);
          stays = stays_then y.stays v.stays;
          tables = λ u e m l. v.tables u e m l ∙ y.tables u e m l;
          standing = subst (λ (z : List Operation). Standing text names first h z x.next x.state work₂) (append_assoc os (y.tree ∷ []) v.trees) v.standing;
        }

-- ---- Before the first.

-- No operation yet: all that was written belongs to the facilities.
pub begins : {text : List ℕ} {w : Word} (s : State) (work : List ℕ) → Seen text w → length text < 65536 → length work ≡ work_size → within_ceilings (counts_of s) ≡ true → s.operations ≡ 0 → s.states ≡ 0 → s.actions ≡ 0 → s.nodes ≤ 7 * s.counted
    → Standing text (facility_names text work s.known) s.nodes (front_of s.nodes work) [] w s work
unfolding rows names_of up_to operations_of operation_records operation_actions operation_nodes operation_expressions concat
begins {text} s work z l k c o e i n = record {
  seen = z;
  short = l;
  whole = k;
  within = c;
  known = refl;
  states = e;
  nodes = n;
  actions = omega (arith, i);
  tabled = rw o (record { count = refl; records = refl; places = refl; names = refl });
  bodies = record { count = i; records = ap (λ (m : ℕ). rows T.Actions m work) i; places = ap (λ (m : ℕ). rows T.ActionPlaces m work) i; nodes = omega arith; expressions = with_nothing (front_of s.nodes work) };
}
