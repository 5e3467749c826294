-- The head of a state, as the code reads it.
use mathlib.Core.Bool.{true, false}
use mathlib.Core.List.{List, [], ◌∷◌}
use mathlib.Core.Option.{none, some}
use mathlib.Core.Path.{◌≡◌, refl, sym, ap, ◌∙◌, subst}
use Prim.Native.Nat.{ℕ, ◌+◌, ◌-◌, ◌<◌, ◌≤◌}
use native.Mathlib.Omega.{arith}
use borrow.Author.Tests.{le-leb}
use lib.ListN.{length}
use Rattle.parse_actions.proofs.ListLaws.{level-same}
use Rattle.parse_step.proofs.Ceilings.{by-nesting, few-counted, few-open}
use Rattle.parse_step.proofs.Narrow.{few-records, narrow}
use Rattle.parse_step.proofs.Saying.{makes-it}
use Rattle.parse_step.proofs.TakenWords.{took-done, took-refused}
use Rattle.parse_step.specs.declared.Bearing.TheVariants.{Level}
use Rattle.parse_step.specs.declared.State.{State}
use Rattle.parse_step.specs.Course.{Seen, Stack, counts_of, kind_no, runs}
use Rattle.parse_step.specs.Gained as G
use Rattle.parse_step.specs.Taken.{Passed, Took, after_word, constant_word}
use Rattle.parse_facilities.proofs.Unexpressed.{letters-length}
use Rattle.std.specs.Prelude as Sv
use Rattle.image_sections.specs.Declarations.{value_meant}
use Rattle.language.specs.Building.{Built, keep_word, word_no}
use Rattle.language.specs.Declaring.{tree_steps}
use Rattle.language.specs.Describe.{constant_nodes, constant_size}
use Rattle.language.specs.DescribeText.{state_constant, value_nodes, value_size}
use Rattle.language.specs.Kinds.{a_name, colon, open_paren}
use Rattle.language.specs.Machine.{ask, first_name, make, state_body, state_rest, state_start, within_ceilings}
use Rattle.language.specs.Naming.{Scope}
use Rattle.language.specs.Scan.{written}
use Rattle.language.specs.Tree as T
use Rattle.language.specs.Value as L
use Rattle.language.specs.Words.{Constant}
use Rattle.parse_tables.specs.declared.meaning.KnownNames.{KnownNames}
use Rattle.parse_operands.specs.References.{letters_of}
use Rattle.parse_expressions.specs.Phrases.{after_name, stayed}
use Rattle.parse_stores.proofs.Keeping.{known_kept, others-other, whole-other}
use Rattle.parse_stores.proofs.ReachedLaws.{front-held, nodes-none, other-held}
use Rattle.parse_stores.proofs.Standings.{few-states, first_three, standing-word}
use Rattle.parse_stores.specs.Actions.{Standing, front_of}
use Rattle.value_operators.specs.Meaning.{valued}
use Rattle.text_words.specs.declared.Position.{Position}
use Rattle.text_words.specs.declared.Word.{Word}
use Rattle.text_words.specs.Meaning.{positioned}
use Rattle.parse_array.specs.Held.{other_in, with_nodes}
use Rattle.parse_array.specs.Names.{letters}
use Rattle.parse_states.proofs.BodyLaws.{stays-refl}
use Rattle.parse_states.proofs.StateWords.{action-comes, body-starts, label-comes, name-starts}
use Rattle.parse_states.proofs.ValueLaws.{not-longer}
use Rattle.parse_states.proofs.BracketLaws.{tells-ok}
use Rattle.parse_states.specs.Begins.{Stays, Tells, length_of, more_states, opened, plain_at, same}
use Rattle.parse_states.specs.declared.Begun.{Begun}
use Rattle.parse_states.specs.declared.Head.{Head}
use Rattle.parse_states.specs.declared.heads.Bracketed.{Bracketed}
use Rattle.parse_states.specs.Heads.{AfterName, Brackets, BracketsRead, Counted, HeadRead, Heads, PlainHead, Says, Stated, Valued}
use Rattle.parse_step.specs.Answers.{Answer}
use Rattle.parse_step.specs.declared.Reached.{Reached}
use Rattle.parse_step.specs.declared.Unread.{Unread}
use Rattle.parse_step.proofs.Answers.{err_as, ok_err}
use Rattle.std.specs.Prelude.{Err, Ok, Result}

-- ---- What heads say.

-- A label by its word.
abbrev labelled : List ℕ → Word → T.State
labelled text name = record { at = positioned name.at; label = some (record { name = letters_of text name; at = positioned name.at }); value = none; actions = T.done }

near : {text : List ℕ} {name : Word} → Seen text name → length text < 65536 → name.at.place < 65536
near z h = omega (arith, z.next.within)

module _ {text : List ℕ} (l base : ℕ) {name : Word} (z : Seen text name) (short : length text < 65536) {x : Head} where
  pub says_plain : PlainHead name.at 0 x → Says text l base (plain_at (positioned name.at)) x
  unfolding letters
  says_plain h = record {
    at = ap positioned (sym h.at);
    label = rw h.size;
    length = sym h.size;
    value = ap value_meant (sym h.value);
    spot = sym h.spot;
    near = subst (λ (p : Position). p.place < 65536) (sym h.at) (near z short);
    short = omega (arith, h.size);
  }

  pub says-label : PlainHead name.at name.size x → Says text l base (labelled text name) x
  unfolding letters
  says-label h = record {
    at = ap positioned (sym h.at);
    label = rw (h.size, h.at);
    length = letters-length text name.at.place name.size z.next.within ∙ sym h.size;
    value = ap value_meant (sym h.value);
    spot = sym h.spot;
    near = subst (λ (p : Position). p.place < 65536) (sym h.at) (near z short);
    short = omega (arith, h.size, z.next.within);
  }

-- A head without a value wrote nothing.
front-none : (s : State) (work : List ℕ) → front_of s.nodes work ≡ with_nodes (front_of s.nodes work) []
front-none s work = sym (nodes-none (front_of s.nodes work))

-- ---- Behind a name.

module _ {l : ℕ} {text : List ℕ} (name : Word) {w : Word} {s : State} {work : List ℕ} where
  pub named-first : (kind_no w.kind ≡ colon → ⊥) → (kind_no w.kind ≡ open_paren → ⊥) → {x : Head} → PlainHead name.at 0 x
      → AfterName l name text w s work work (Ok (record { reached = stayed s w; head = x; named = true }))
  named-first m k {x} h sc n z st room = tells-ok (record {
    tree = plain_at (positioned name.at);
    course = λ K b. action-comes text w st.seen s (ask state_rest ∷ K) b m k name;
    says = says_plain l s.nodes z st.short h;
    stays = stays-refl s;
    nodes = omega arith;
    expressions = front-none s work;
    other = refl;
    actions = refl;
    standing = st;
  })

  pub label-not : kind_no w.kind ≡ colon → {u : Unread} → Took text w (after_word false Level s) s (Err u) → AfterName l name text w s work work (Err u)
  label-not k t sc n z st room = record {
    done = λ d. ok_err (sym d);
    refused = λ f d K b. label-comes text w st.seen s K (after_name name text b) k ∙ took-refused t f (err_as d) (make tree_steps.begin_labelled ∷ ask state_body ∷ K) (after_name name text b);
    full = λ d. absurd (t.full (err_as d));
  }

  pub label-read : kind_no w.kind ≡ colon → {a : Reached} → Took text w (after_word false Level s) s (Ok a) → {x : Head} → PlainHead name.at name.size x
      → AfterName l name text w s work work (Ok (record { reached = a; head = x; named = false }))
  unfolding word_no
  label-read k {a} t {x} h sc n z st room = tells-ok (read (t.done refl))
    where
      read : Passed text w (after_word false Level s) s a → HeadRead text sc n l name (ask first_name ∷ ask state_rest ∷ []) (after_name name text) w s s work work (record { reached = a; head = x; named = false })
      read p = record {
        tree = labelled text name;
        course = λ K b.
            label-comes text w st.seen s K (after_name name text b) k ∙ took-done p st.seen (make tree_steps.begin_labelled ∷ ask state_body ∷ K) (after_name name text b)
            ∙ makes-it text tree_steps.begin_labelled (ask state_body ∷ K) a.next (after_name name text b) (opened (labelled text name) b) a.state (λ q. refl);
        says = says-label l s.nodes z st.short h;
        stays = subst (Stays s) (sym (level-same p)) (stays-refl s);
        nodes = omega (arith, ap (λ (q : State). q.nodes) (level-same p));
        expressions = ap (λ (q : State). front_of q.nodes work) (level-same p) ∙ front-none s work;
        other = refl;
        actions = ap (λ (q : State). q.actions) (level-same p);
        standing = standing-word false Level st p;
      }

-- ---- A value.

module _ {l : ℕ} {text : List ℕ} (name : Word) {w : Word} {s : State} {work : List ℕ} where
  pub value_not : {u : Unread} → Brackets text w s (Err u) → Valued l name text w s work work (Err u)
  value_not x k sc n z st room =
      let t = x k st.seen in
      record { done = λ d. ok_err (sym d); refused = λ f d K b. t.refused f (err_as d) K (after_name name text b); full = λ d. t.full (err_as d) }

  module _ {q : Bracketed} (x : Brackets text w s (Ok q)) {v : Word} (g : Stated l q.constant v) {work' : List ℕ} {a : Answer}
      (e : G.Written (constant_nodes (valued v.value) (positioned v.at)) (constant_size (valued v.value)) q.reached.next q.reached.state work work' a) where
    abbrev c : Constant
    c = written q.constant.bare (valued q.constant.value)

    abbrev tree : T.State
    tree = record {
      at = positioned name.at;
      label = some (record { name = letters_of text name; at = positioned name.at });
      value = some (record { constant = c; at = positioned q.constant.at });
      actions = T.done;
    }

    abbrev size : ℕ
    size = value_size (length_of l) tree.value

    wrote : q.reached.state ≡ s → G.Written (value_nodes (length_of l) tree.value) size q.reached.next s work work' a
    wrote h =
        subst (λ (j : State). G.Written (value_nodes (length_of l) tree.value) size q.reached.next j work work' a) h
        (subst (λ (u : L.Value). G.Written (constant_nodes u (positioned q.constant.at)) (constant_size u) q.reached.next q.reached.state work work' a) g.value
        (subst (λ (p : Position). G.Written (constant_nodes (valued v.value) (positioned p)) (constant_size (valued v.value)) q.reached.next q.reached.state work work' a) g.place e))

    pub value-full : {u : Unread} → a ≡ Err u → Valued l name text w s work work' (Err u)
    value-full i k sc n z st room = record {
      done = λ d. ok_err (sym d);
      refused = λ f d. absurd (r.refused f (i ∙ err_as d));
      full = λ d. omega (arith, r.full (i ∙ err_as d), r.most (i ∙ err_as d), few, room, few-states (counts_of s) st.within, few-counted (counts_of s) st.within);
    }
      where
        y : BracketsRead text w s q
        y = (x k st.seen).done refl

        r : G.Written (value_nodes (length_of l) tree.value) size q.reached.next s work work' a
        r = wrote y.state

        few : size ≤ 6
        few = few-records (state_constant (length_of l) c) (not-longer l c (narrow text q.constant y.constant y.kind))

    pub value_read : {a' : Reached} → a ≡ Ok a' → {m : ℕ} → m ≡ a'.state.nodes - 1
        → Valued l name text w s work work' (Ok (record { reached = a'; head = record { at = name.at; size = name.size; value = Sv.Some m; spot = q.constant.at }; named = false }))
    unfolding word_no letters
    value_read {a' = a'} d {m} i k sc n z st room = tells-ok read
      where
        y : BracketsRead text w s q
        y = (x k st.seen).done refl

        r : G.Written (value_nodes (length_of l) tree.value) size q.reached.next s work work' a
        r = wrote y.state

        few : size ≤ 6
        few = few-records (state_constant (length_of l) c) (not-longer l c (narrow text q.constant y.constant y.kind))

        read : HeadRead text sc n l name (ask first_name ∷ ask state_rest ∷ []) (after_name name text) w s s work work' (record { reached = a'; head = record { at = name.at; size = name.size; value = Sv.Some m; spot = q.constant.at }; named = false })
        read = record {
          tree = tree;
          course = λ K b.
              y.course K (after_name name text b)
              ∙ makes-it text tree_steps.begin_valued (ask state_body ∷ K) q.reached.next (keep_word (constant_word q.constant) (after_name name text b)) (opened tree b) q.reached.state (λ p. refl)
              ∙ rw (r.word d, state, y.state);
          says = record {
            at = refl;
            label = refl;
            length = letters-length text name.at.place name.size z.next.within;
            value = ap some (sym (i ∙ ap (λ (j : ℕ). j - 1) nodes));
            spot = refl;
            near = omega (arith, z.next.within, st.short);
            short = omega (arith, z.next.within, st.short);
          };
          stays = subst (Stays s) (sym state) (record { facilities = refl; operations = refl; states = refl; known = refl; nesting = refl; counted = omega arith });
          nodes = nodes;
          expressions = ap (λ (j : ℕ). front_of j work') nodes ∙ front-held s.nodes (s.nodes + size) work work' (value_nodes (length_of l) tree.value) (r.held d);
          other = other;
          actions = ap (λ (j : State). j.actions) state;
          standing = record {
            seen = subst (Seen text) (sym (r.word d)) y.seen;
            short = st.short;
            whole = whole-other work work' other st.whole;
            within = ap (λ (j : State). within_ceilings (counts_of j)) state ∙ st.within;
            known = known_kept work' (others-other work work' other) st.known;
            facilities = st.facilities ∙ ap (λ (j : State). j.known) (sym state);
            nodes = omega (arith, nodes, few, room, ap (λ (j : State). j.counted) state, ap (λ (j : State). j.states) state);
            actions = omega (arith, st.actions, ap (λ (j : State). j.counted) state, ap (λ (j : State). j.actions) state);
          };
        }
          where
            state : a'.state ≡ G.with_node_count s (s.nodes + size)
            state = r.state d

            nodes : a'.state.nodes ≡ s.nodes + size
            nodes = ap (λ (j : State). j.nodes) state

            other : other_in work' ≡ other_in work
            other = other-held s.nodes (s.nodes + size) work work' (value_nodes (length_of l) tree.value) (r.held d)

-- ---- The head.

within-one : (s : State) → within_ceilings (counts_of s) ≡ true → s.states < 256 → within_ceilings (counts_of (more_states s)) ≡ true
within-one s e h =
    let t = first_three (counts_of s) e in
    sym (by-nesting (counts_of (more_states s)) t.0 t.1 (omega (arith, h)) (few-counted (counts_of s) e)) ∙ le-leb s.nesting 24 (few-open (counts_of s) e)

counted : {w : Word} {s : State} {a : Reached} → Counted w s (Ok a) → a.state ≡ more_states s
counted f = ap (λ (j : Reached). j.state) (f.done refl).0

standing : {text : List ℕ} {sc : Scope} {n : KnownNames} {w : Word} {s : State} {acts : ℕ} {work : List ℕ} → s.states < 256 → Standing text sc n w s acts work → Standing text sc n w (more_states s) acts work
standing {s = s} h st = record {
  seen = st.seen;
  short = st.short;
  whole = st.whole;
  within = within-one s st.within h;
  known = st.known;
  facilities = st.facilities;
  nodes = omega (arith, st.nodes);
  actions = st.actions;
}

taken : {text : List ℕ} {w : Word} {s : State} {a : Reached} {c : Answer} → Counted w s (Ok a) → Took text w (after_word false Level a.state) a.state c → Took text w (counts_of (more_states s)) (more_states s) c
taken {text} {w} {c = c} f t = subst (λ (j : State). Took text w (counts_of j) j c) (counted f) t

pub head-not : {l : ℕ} {text : List ℕ} {w : Word} {s : State} {work : List ℕ} {u : Unread} → Counted w s (Err u) → Heads l text w s work work (Err u)
head-not {text = text} f sc n st = record { done = λ d. ok_err (sym d); refused = λ i d K b. f.refused i (err_as d) text st.seen st.within K b; full = λ d. f.full (err_as d) }

module _ {l : ℕ} {text : List ℕ} {w : Word} {s : State} {work : List ℕ} {a : Reached} (f : Counted w s (Ok a)) where
  pub head_plain : (kind_no w.kind ≡ a_name → ⊥) → {x : Head} → PlainHead w.at 0 x → Heads l text w s work work (Ok (record { reached = a; head = x; named = false }))
  head_plain m {x} h = subst (λ (j : Reached). Heads l text w s work work (Ok (record { reached = j; head = x; named = false }))) (sym (f.done refl).0) λ sc n st. tells-ok (record {
    tree = plain_at (positioned w.at);
    course = λ K b. body-starts text w st.seen s K b m;
    says = says_plain l s.nodes st.seen st.short h;
    stays = stays-refl (more_states s);
    nodes = omega arith;
    expressions = front-none s work;
    other = refl;
    actions = refl;
    standing = standing (f.done refl).1 st;
  })

  module _ (k : kind_no w.kind ≡ a_name) where
    pub name-not : {u : Unread} → Took text w (after_word false Level a.state) a.state (Err u) → Heads l text w s work work (Err u)
    name-not t sc n st = record {
      done = λ d. ok_err (sym d);
      refused = λ i d K b. name-starts text w st.seen s K b k ∙ took-refused (taken f t) i (err_as d) (ask first_name ∷ ask state_rest ∷ K) (after_name w text b);
      full = λ d. absurd (t.full (err_as d));
    }

    pub head-named : {c : Reached} → Took text w (after_word false Level a.state) a.state (Ok c) → {r : Result Begun Unread} {work' : List ℕ} → AfterName l w text c.next c.state work work' r → Heads l text w s work work' r
    head-named {c} t {r} {work'} g sc n st = record {
      done = λ i. read _ (told.done i);
      refused = λ i h K b. to-name K b ∙ told.refused i h K b;
      full = told.full;
    }
      where
        p : Passed text w (counts_of (more_states s)) (more_states s) c
        p = (taken f t).done refl

        to-name : (K : Stack) (b : Built) → runs text (ask state_start ∷ K) w b s ≡ runs text (ask first_name ∷ ask state_rest ∷ K) c.next (after_name w text b) c.state
        to-name K b = name-starts text w st.seen s K b k ∙ took-done p st.seen (ask first_name ∷ ask state_rest ∷ K) (after_name w text b)

        same-state : c.state ≡ more_states s
        same-state = level-same p

        told : Tells text (ask first_name ∷ ask state_rest ∷ []) (after_name w text) c.next c.state r (HeadRead text sc n l w (ask first_name ∷ ask state_rest ∷ []) (after_name w text) c.next c.state c.state work work')
        told = g sc n st.seen (standing-word false Level (standing (f.done refl).1 st) p) (omega (arith, st.nodes, ap (λ (j : State). j.nodes) same-state, ap (λ (j : State). j.counted) same-state, ap (λ (j : State). j.states) same-state))

        read : (r : Begun) → HeadRead text sc n l w (ask first_name ∷ ask state_rest ∷ []) (after_name w text) c.next c.state c.state work work' r → HeadRead text sc n l w (ask state_start ∷ []) same w s (more_states s) work work' r
        read r y = record {
          tree = y.tree;
          course = λ K b. to-name K b ∙ y.course K b;
          says = subst (λ (j : State). Says text l j.nodes y.tree r.head) same-state y.says;
          stays = subst (λ (j : State). Stays j r.reached.state) same-state y.stays;
          nodes = y.nodes ∙ ap (λ (j : State). j.nodes + value_size (length_of l) y.tree.value) same-state;
          expressions = y.expressions ∙ ap (λ (j : State). with_nodes (front_of j.nodes work) (value_nodes (length_of l) y.tree.value)) same-state;
          other = y.other;
          actions = y.actions ∙ ap (λ (j : State). j.actions) same-state;
          standing = y.standing;
        }
