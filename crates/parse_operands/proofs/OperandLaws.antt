-- Constants and cuts: the machine's course and the records written.
use mathlib.Core.List.{List, [], ◌∷◌, ◌++◌}
use mathlib.Core.Path.{◌≡◌, refl, sym, ap, ◌∙◌, subst}
use Prim.Native.Nat.{ℕ, ◌+◌, ◌-◌, ◌≤◌}
use native.Mathlib.Omega.{arith}
use Rattle.language.specs.Building.{Built, expression_no, keep_word, word_no}
use Rattle.language.specs.Declaring.{tree_steps}
use Rattle.language.specs.Describe.{constant_nodes, constant_size, count, expression_size, last_of, nodes_of, noted}
use Rattle.language.specs.Description as D
use Rattle.language.specs.Description.{node_places}
use Rattle.language.specs.Encode.{node_bytes}
use Rattle.language.specs.Machine.{Counts, ask, keep, make, term}
use Rattle.language.specs.Naming.{Scope}
use Rattle.language.specs.Scan.{written}
use Rattle.language.specs.Tree as T
use Rattle.language.specs.Tree.{Expression}
use Rattle.language.specs.Words as L
use Rattle.value_limbs.specs.Limbs.{number}
use Rattle.judge_records.specs.Noted.{node_beside_bytes, plain_places}
use Rattle.language.specs.Kinds.{a_constant}
use Rattle.value_operators.specs.Meaning.{valued}
use Rattle.text_words.specs.declared.Word.{Word}
use Rattle.text_words.specs.Meaning.{positioned}
use Rattle.parse_tables.proofs.NamesGrown.{facilities-other}
use Rattle.parse_tables.specs.Names.{facility_names}
use Rattle.parse_array.proofs.NodesAdded.{nodes-other}
use Rattle.parse_array.specs.Held.{Held, held, other_in, with_nodes}
use Rattle.parse_step.specs.declared.State.{State}
use Rattle.parse_step.specs.Course.{Seen, Stack, counts_of, kind_no, runs}
use Rattle.parse_step.specs.Gained.{Gained, Written}
use Rattle.parse_step.specs.Says.{Here, Pending, Says, pushed}
use Rattle.parse_step.specs.Taken.{Keeps, Took, Went, constant_word}
use Rattle.parse_step.proofs.Saying.{here-passed, made, makes-it}
use Rattle.parse_step.proofs.TakenWords.{on_taken, took-done}
use Rattle.parse_step.proofs.States.{state-of}
use Rattle.parse_operands.specs.Ended.{Counting, one_more}
use Rattle.parse_operands.proofs.TermWords.{constant-term}
use Rattle.parse_step.specs.Answers.{Answer}
use Rattle.parse_step.specs.declared.Reached.{Reached}
use Rattle.parse_step.proofs.Answers.{not_ok}
use Rattle.std.specs.Prelude.{IsErr, Ok}

-- ---- A constant's records behind what h holds.

module _ {text : List ℕ} {sc : Scope} {P Q : Stack} {pre : Built → Built} {base depth : ℕ} {w : Word} {s : State} {r : Answer} {work work' : List ℕ} where
  pub literal : (v : Word) {w₁ : Word} {s₁ : State} → Written (constant_nodes (valued v.value) (positioned v.at)) (constant_size (valued v.value)) w₁ s₁ work work' r → Here text sc w₁ s₁ work
      → s₁.nodes ≡ base → s₁.nesting ≡ depth
      → ((K : Stack) (b : Built) → runs text (P ++ K) w (pre b) s ≡ runs text (Q ++ K) w₁ (pushed (T.constant (written v.bare (valued v.value)) (positioned v.at)) b) s₁)
      → Says text sc P Q pre (held base work) base depth w s r work'
  unfolding nodes_of expression_size held
  literal v {w₁} {s₁} x h e n c = record {
    done = λ d. let p = x.state d in
        record {
          tree = T.constant (written v.bare (valued v.value)) (positioned v.at);
          course = λ K b. c K b ∙ rw (x.word d, p);
          pending = record {
            records = ap (λ (q : State). held q.nodes work') p ∙ x.held d ∙ ap (λ (m : ℕ). with_nodes (held m work) (constant_nodes (valued v.value) (positioned v.at))) e;
            nodes = ap (λ (q : State). q.nodes) p ∙ ap (λ (m : ℕ). m + constant_size (valued v.value)) e;
          };
          nesting = ap (λ (q : State). q.nesting) p ∙ n;
          here = record {
            seen = subst (Seen text) (sym (x.word d)) h.seen;
            names = h.names ∙ sym (facilities-other text work work' (other d) s₁.known) ∙ ap (λ (q : State). facility_names text work' q.known) (sym p);
          };
        };
    refused = λ f d. absurd (x.refused f d);
    full = x.full;
  }
    where
      other : {r' : Reached} → r ≡ Ok r' → other_in work' ≡ other_in work
      other d = ap (λ (y : Held). y.other) (x.held d) ∙ nodes-other (held s₁.nodes work) (constant_nodes (valued v.value) (positioned v.at))

-- ---- A constant that counts after it was kept.

module _ {w next : Word} {s : State} {work work' : List ℕ} {r : Answer} where
  pub counting : {p : Answer} → Went w next (counts_of (one_more s)) s p → {p' : Reached} → p ≡ Ok p'
      → Written (constant_nodes (valued w.value) (positioned w.at)) (constant_size (valued w.value)) p'.next p'.state work work' r → Counting w next s work work' r
  counting {p} x {p' = p'} d y = record {
    done = λ e. let o = x.done d in (o.fits, go p'.next p'.state o.word (state-of o.counts o.kept) y);
    refused = λ f e. absurd (y.refused f e);
    full = y.full;
  }
    where
      go : (n : Word) (q : State) → n ≡ next → q ≡ one_more s
          → Written (constant_nodes (valued w.value) (positioned w.at)) (constant_size (valued w.value)) n q work work' r
          → Written (constant_nodes (valued w.value) (positioned w.at)) (constant_size (valued w.value)) next (one_more s) work work' r
      go n q e f z = rw (← e, ← f) z

pub counting-not : {w next : Word} {s : State} {work work' : List ℕ} {r : Answer} → Went w next (counts_of (one_more s)) s r → IsErr r → Counting w next s work work' r
counting-not x n = record { done = λ d. not_ok n d; refused = x.refused; full = λ d. absurd (x.full d) }

-- ---- A constant as a term.

module _ {text : List ℕ} {sc : Scope} {w : Word} {s : State} {work : List ℕ} (e : kind_no w.kind ≡ a_constant) (h : Here text sc w s work) where
  pub term-course : (K : Stack) (b : Built) → runs text (ask term ∷ K) w b s ≡ on_taken text w (make tree_steps.make_constant ∷ K) (keep_word (constant_word w) b) (counts_of (one_more s))
  term-course K b = constant-term text w h.seen b (counts_of s) e K

  pub constant-says : {t r : Answer} {work' : List ℕ} → Took text w (counts_of (one_more s)) s t → {t' : Reached} → t ≡ Ok t'
      → Written (constant_nodes (valued w.value) (positioned w.at)) (constant_size (valued w.value)) t'.next t'.state work work' r
      → Says text sc (ask term ∷ []) [] (λ b. b) (held s.nodes work) s.nodes s.nesting w s r work'
  unfolding word_no
  constant-says {t} k {t' = t'} d y =
      let p = k.done d in
      literal w y (here-passed h p) p.kept.nodes (ap (λ (c : Counts). c.nesting) p.counts)
      (λ K b. term-course K b ∙ took-done p h.seen (make tree_steps.make_constant ∷ K) (keep_word (constant_word w) b) ∙ makes-it text tree_steps.make_constant K t'.next (keep_word (constant_word w) b) (pushed (T.constant (written w.bare (valued w.value)) (positioned w.at)) b) t'.state (λ q. refl))

-- ---- A cut.

module _ (kind : ℕ) (at : L.Position) {text : List ℕ} {sc : Scope} {w : Word} {s : State} {work work' : List ℕ} (h : Here text sc w s work) {held₀ : Held} {base : ℕ} {t : Expression} (o : Pending sc held₀ base t s work) where
  pub cut-not : {r : Answer} → Keeps text w s r → IsErr r
      → Says text sc (keep a_constant ∷ make tree_steps.make_cut ∷ []) [] (λ b. keep_word (L.sign kind at) (pushed t b)) held₀ base s.nesting w s r work'
  cut-not k n = record {
    done = λ d. not_ok n d;
    refused = λ f d K b. k.refused f d h.seen (make tree_steps.make_cut ∷ K) (keep_word (L.sign kind at) (pushed t b));
    full = λ d. absurd (k.full d);
  }

  pub cut-says : {r a : Answer} {m n : ℕ} {ps : List ℕ} → Keeps text w s r → {r' : Reached} → r ≡ Ok r' → m ≡ r'.state.nodes - 1 → n ≡ count (number w.value.limbs) → ps ≡ plain_places (node_places at)
      → Gained r'.next r'.state (node_bytes (D.cut kind m n)) ps work work' a
      → Says text sc (keep a_constant ∷ make tree_steps.make_cut ∷ []) [] (λ b. keep_word (L.sign kind at) (pushed t b)) held₀ base s.nesting w s a work'
  unfolding nodes_of expression_size word_no expression_no node_beside_bytes
  cut-says {r} {m = m} k {r' = r'} d e f i g =
      let q = k.done d h.seen in
      let v = q.state in
      let c = T.cut kind at t (written w.bare (valued w.value)) in
      let l : m ≡ last_of base (expression_size t) = e ∙ ap (λ (x : State). x.nodes - 1) v ∙ ap (λ (x : ℕ). x - 1) o.nodes in
      made c (nodes_of sc base t) (noted (D.cut kind (last_of base (expression_size t)) (count (number w.value.limbs))) at) (expression_size t) g refl refl
      (ap (λ (x : State). held x.nodes work) v ∙ o.records) (ap (λ (x : State). x.nodes) v ∙ o.nodes) (rw (l, f)) i (ap (λ (x : State). x.nesting) v)
      (record { seen = q.seen; names = h.names ∙ ap (λ (x : State). facility_names text work x.known) (sym v) })
      (λ K b. q.course (make tree_steps.make_cut ∷ K) (keep_word (L.sign kind at) (pushed t b))
      ∙ makes-it text tree_steps.make_cut K r'.next (keep_word (constant_word w) (keep_word (L.sign kind at) (pushed t b))) (pushed c b) r'.state (λ x. refl))

pub kept-nodes : {text : List ℕ} {w : Word} {s : State} {r : Answer} → Keeps text w s r → {r' : Reached} → r ≡ Ok r' → Seen text w → s.nodes ≤ r'.state.nodes
kept-nodes k d z = let e = ap (λ (q : State). q.nodes) (k.done d z).state in omega (arith, e)
