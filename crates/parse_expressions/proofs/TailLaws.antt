-- The operators of a level, one after the other.
use mathlib.Core.Bool.{true, false}
use mathlib.Core.List.{List, [], ◌∷◌, ◌++◌, append_assoc}
use mathlib.Core.Path.{◌≡◌, refl, sym, ap, ◌∙◌, subst}
use Prim.Native.Nat.{ℕ, suc, ◌+◌, ◌-◌, ◌≤◌, ◌<◌}
use native.Mathlib.Omega.{arith}
use lib.Dec.{ltb}
use Rattle.about_grammar.specs.Following.{among}
use Rattle.language.specs.Building.{Built, expression_no, keep_word, word_no}
use Rattle.language.specs.Declaring.{tree_steps}
use Rattle.language.specs.Describe.{expression_size, last_of, nodes_of, noted}
use Rattle.language.specs.Description as D
use Rattle.language.specs.Machine.{Counts, ask, cut_tail, keep, make}
use Rattle.language.specs.Naming.{Scope}
use Rattle.language.specs.Tree as T
use Rattle.language.specs.Tree.{Expression}
use Rattle.language.specs.Words as L
use Rattle.judge_records.specs.Noted.{node_beside_bytes}
use Rattle.language.specs.Kinds.{a_constant}
use Rattle.text_words.specs.declared.Word.{Word}
use Rattle.text_words.specs.Meaning.{positioned}
use Rattle.parse_array.specs.Held.{Held, with_nodes}
use Rattle.parse_array.proofs.NodesAdded.{nodes-append}
use Rattle.parse_array.specs.Layout.{most_nodes}
use Rattle.parse_step.specs.declared.Bearing.TheVariants.{Level}
use Rattle.parse_step.specs.declared.State.{State}
use Rattle.parse_step.specs.Course.{Seen, Stack, counts_of, kind_no, runs}
use Rattle.parse_step.specs.Gained.{Grows}
use Rattle.parse_step.specs.Says.{Extends, Here, Parses, Pending, Read, Says, pushed}
use Rattle.parse_step.specs.Taken.{Took, after_word}
use Rattle.parse_step.proofs.NodeGained.{grown}
use Rattle.parse_step.proofs.Saying.{says-full, says-ok, here-passed, made, makes-it, not_taken, passed, pending-kept}
use Rattle.parse_step.proofs.TakenWords.{took-done}
use Rattle.parse_levels.specs.declared.Level as Lv
use Rattle.parse_levels.specs.declared.Rank.{Rank}
use Rattle.parse_levels.specs.declared.Rank.TheVariants as R
use Rattle.parse_levels.specs.Orders.{again, next_rank, operand_level, operators_of, rank_no, stack_of, tail_stack, tails_from, top_no}
use Rattle.parse_levels.proofs.TailWords.{cut-taken, tail-omitted, tail-taken, tails-more, tails-none, top-most}
use borrow.Author.Tests.{ltb-true}
use Rattle.parse_expressions.proofs.Falling.{next_up}
use Rattle.parse_operands.specs.Ended.{Cuts}
use Rattle.parse_expressions.specs.Phrases.{Operates, at_nesting, gains, rank_behind, same, stayed}
use Rattle.parse_expressions.proofs.PartLaws.{binary-as}
use Rattle.parse_expressions.proofs.StartLaws.{at_same}
use Rattle.parse_step.specs.declared.Unread.TheVariants.{Full}
use Rattle.parse_step.specs.Answers.{Answer}
use Rattle.parse_step.specs.declared.Reached.{Reached}
use Rattle.parse_step.proofs.Answers.{not_ok}
use Rattle.std.specs.Prelude.{Err, IsErr, Ok}

-- ---- The loop: the machine stands before the operators from a rank on, with a longer expression.

pub record Walks (rank : Rank) (l : Lv.Level) (text : List ℕ) (w : Word) (s : State) (work : List ℕ) (from : Rank) (next : Word) (state : State) (work' : List ℕ) (turn : ℕ) : Type 0 where
  pub reads : (sc : Scope) → Here text sc w s work → (h : Held) (base : ℕ) (t : Expression) → Pending sc h base t s work
      → Read text sc (tails_from rank l) (tails_from from l) (pushed t) h base s.nesting w s (stayed state next) work'
  pub room : (sc : Scope) → Here text sc w s work → (h : Held) (base : ℕ) (t : Expression) → Pending sc h base t s work → s.nodes + turn ≤ state.nodes + rank_no from
  pub nesting : state.nesting ≡ s.nesting

pub walks-begin : (rank : Rank) (l : Lv.Level) {text : List ℕ} {w : Word} {s : State} {work : List ℕ} → Walks rank l text w s work rank w s work 0
walks-begin rank l = record {
  reads = λ sc h q base t p. record { tree = t; course = λ K b. refl; pending = p; nesting = refl; here = h };
  room = λ sc h q base t p. omega arith;
  nesting = refl;
}

-- No rank is behind the seventh, and none is taken back.
seven : (r : Rank) → rank_no r ≤ 7
seven R.Sum = omega arith
seven R.Relation = omega arith
seven R.Cut = omega arith
seven R.Con = omega arith
seven R.And = omega arith
seven R.Exclusive = omega arith
seven R.Or = omega arith
seven R.Beyond = omega arith

not-back : (r : Rank) → rank_no r ≤ rank_no (rank_behind r)
not-back R.Sum = omega arith
not-back R.Relation = omega arith
not-back R.Cut = omega arith
not-back R.Con = omega arith
not-back R.And = omega arith
not-back R.Exclusive = omega arith
not-back R.Or = omega arith
not-back R.Beyond = omega arith

-- A relation comes once; the others again.
behind-tails : (r : Rank) (l : Lv.Level) → ltb (rank_no r) (top_no l) ≡ true → again r ++ tails_from (next_rank r) l ≡ tails_from (rank_behind r) l
behind-tails R.Sum l e = sym (tails-more R.Sum l e)
behind-tails R.Relation l e = refl
behind-tails R.Cut l e = sym (tails-more R.Cut l e)
behind-tails R.Con l e = sym (tails-more R.Con l e)
behind-tails R.And l e = sym (tails-more R.And l e)
behind-tails R.Exclusive l e = sym (tails-more R.Exclusive l e)
behind-tails R.Or l e = sym (tails-more R.Or l e)
behind-tails R.Beyond l e = refl

module _ (rank : Rank) (l : Lv.Level) {text : List ℕ} {w : Word} {s : State} {work : List ℕ} {from : Rank} {next : Word} {state : State} {work₁ : List ℕ} {turn : ℕ} (v : Walks rank l text w s work from next state work₁ turn) where
  pub walks-end : ltb (rank_no from) (top_no l) ≡ false → Extends (tails_from rank l) [] s.nesting text w s work work₁ (Ok (stayed state next))
  walks-end e sc h q base t p =
      let o = v.reads sc h q base t p in
      says-ok (record {
        tree = o.tree;
        course = λ K b. o.course K b ∙ ap (λ (M : Stack). runs text (M ++ K) next (pushed o.tree b) state) (tails-none from l e);
        pending = o.pending;
        nesting = o.nesting;
        here = o.here;
      })

  pub walks-full : most_nodes + 7 ≤ turn → Extends (tails_from rank l) [] s.nesting text w s work work₁ (Err (Full state))
  walks-full e sc h q base t p = says-full (omega (arith, v.room sc h q base t p, seven from, e))

  module _ (e : ltb (rank_no from) (top_no l) ≡ true) where
    at-rank : (sc : Scope) (h : Here text sc w s work) (q : Held) (base : ℕ) (t : Expression) (p : Pending sc q base t s work) (K : Stack) (b : Built)
        → runs text (tails_from rank l ++ K) w (pushed t b) s ≡ runs text (tail_stack from ++ (tails_from (next_rank from) l ++ K)) next (pushed (v.reads sc h q base t p).tree b) state
    at-rank sc h q base t p K b =
        let o = v.reads sc h q base t p in
        o.course K b ∙ ap (λ (M : Stack). runs text M next (pushed o.tree b) state) (ap (λ (M : Stack). M ++ K) (tails-more from l e) ∙ append_assoc (tail_stack from) (tails_from (next_rank from) l) K)

    pub walks_next : among (kind_no next.kind) (operators_of from) ≡ false → {i : Rank} → i ≡ next_rank from → Walks rank l text w s work i next state work₁ (turn + 1)
    walks_next f {i} g = record {
      reads = λ sc h q base t p. let o = v.reads sc h q base t p in
          record {
            tree = o.tree;
            course = λ K b. at-rank sc h q base t p K b ∙ tail-omitted text next o.here.seen (pushed o.tree b) (counts_of state) from f (tails_from (next_rank from) l ++ K)
                ∙ ap (λ (k : Rank). runs text (tails_from k l ++ K) next (pushed o.tree b) state) (sym g);
            pending = o.pending;
            nesting = o.nesting;
            here = o.here;
          };
      room = λ sc h q base t p.
          let below : rank_no from < 7 = omega (arith, ltb-true (rank_no from) (top_no l) e, top-most l) in
          let n : rank_no i ≡ suc (rank_no from) = ap rank_no g ∙ next_up from below in
          omega (arith, v.room sc h q base t p, n);
      nesting = v.nesting;
    }

    module _ (f : among (kind_no next.kind) (operators_of from) ≡ true) {work₂ : List ℕ} {m : Answer} (x : Operates from text next state work₁ work₂ m) where
      operated : (sc : Scope) (h : Here text sc w s work) (q : Held) (base : ℕ) (t : Expression) (p : Pending sc q base t s work)
          → Says text sc (tail_stack from) (again from) (pushed (v.reads sc h q base t p).tree) q base s.nesting next state m work₂ × Grows state m
      operated sc h q base t p =
          let o = v.reads sc h q base t p in
          let z = x sc o.here f q base o.tree o.pending in
          (subst (λ (n : ℕ). Says text sc (tail_stack from) (again from) (pushed o.tree) q base n next state m work₂) v.nesting z.0, z.1)

      pub walks-not : IsErr m → Extends (tails_from rank l) [] s.nesting text w s work work₂ m
      walks-not n sc h q base t p = passed (operated sc h q base t p).0 n (λ K. tails_from (next_rank from) l ++ K) (λ b. b) (at-rank sc h q base t p)

      pub walks_more : {m' : Reached} → m ≡ Ok m' → {i : Rank} → i ≡ rank_behind from → {a : State} → a ≡ at_nesting m'.state s.nesting → Walks rank l text w s work i m'.next a work₂ (turn + 1)
      walks_more {m' = m'} d {i} g {a} j = record {
        reads = go;
        room = λ sc h q base t p. let n : a.nodes ≡ m'.state.nodes = ap (λ (c : State). c.nodes) j in let b : rank_no i ≡ rank_no (rank_behind from) = ap rank_no g in omega (arith, v.room sc h q base t p, ((operated sc h q base t p).1 _ d).0, n, b, not-back from);
        nesting = ap (λ (c : State). c.nesting) j;
      }
        where
          go : (sc : Scope) → Here text sc w s work → (q : Held) (base : ℕ) (t : Expression) → Pending sc q base t s work
              → Read text sc (tails_from rank l) (tails_from i l) (pushed t) q base s.nesting w s (stayed a m'.next) work₂
          go sc h q base t p =
              let y = (operated sc h q base t p).0.done d in
              let c : a ≡ m'.state = j ∙ at_same m'.state s.nesting y.nesting in
              rw c (record {
                tree = y.tree;
                course = λ K b. at-rank sc h q base t p K b ∙ y.course (tails_from (next_rank from) l ++ K) b
                    ∙ ap (λ (M : Stack). runs text M m'.next (pushed y.tree b) m'.state) (sym (append_assoc (again from) (tails_from (next_rank from) l) K) ∙ ap (λ (M : Stack). M ++ K) (behind-tails from l e) ∙ ap (λ (r : Rank). tails_from r l ++ K) (sym g));
                pending = record { records = y.pending.records; nodes = y.pending.nodes };
                nesting = y.nesting;
                here = record { seen = y.here.seen; names = y.here.names };
              })

-- ---- One operator.

cut_again : (text : List ℕ) (sc : Scope) (w : Word) (s : State) (t : Reached) (r : Answer) (work' : List ℕ) (u : Expression) (q : Held) (base : ℕ)
    → Says text sc (keep a_constant ∷ make tree_steps.make_cut ∷ []) [] (λ b. keep_word (L.sign (kind_no w.kind) (positioned w.at)) (pushed u b)) q base s.nesting t.next t.state r work'
    → ((K : Stack) (b : Built) → runs text (ask cut_tail ∷ K) w (pushed u b) s ≡ runs text (keep a_constant ∷ make tree_steps.make_cut ∷ ask cut_tail ∷ K) t.next (keep_word (L.sign (kind_no w.kind) (positioned w.at)) (pushed u b)) t.state)
    → Says text sc (ask cut_tail ∷ []) (ask cut_tail ∷ []) (pushed u) q base s.nesting w s r work'
cut_again text sc w s t r work' u q base x g = record {
  done = λ d. let o = x.done d in
      record { tree = o.tree; course = λ K b. g K b ∙ o.course (ask cut_tail ∷ K) b; pending = o.pending; nesting = o.nesting; here = o.here };
  refused = λ f d K b. g K b ∙ x.refused f d (ask cut_tail ∷ K) b;
  full = x.full;
}

data Which : Rank → Type 0 where
  cutting : Which R.Cut
  other : {r : Rank} → (r ≡ R.Cut → ⊥) → Which r

which : (r : Rank) → Which r
which R.Sum = other (λ (e : R.Sum ≡ R.Cut). (let z : ◌≡◌ {A = ℕ} 0 2 = ap rank_no e in omega arith))
which R.Relation = other (λ (e : R.Relation ≡ R.Cut). (let z : ◌≡◌ {A = ℕ} 1 2 = ap rank_no e in omega arith))
which R.Cut = cutting
which R.Con = other (λ (e : R.Con ≡ R.Cut). (let z : ◌≡◌ {A = ℕ} 3 2 = ap rank_no e in omega arith))
which R.And = other (λ (e : R.And ≡ R.Cut). (let z : ◌≡◌ {A = ℕ} 4 2 = ap rank_no e in omega arith))
which R.Exclusive = other (λ (e : R.Exclusive ≡ R.Cut). (let z : ◌≡◌ {A = ℕ} 5 2 = ap rank_no e in omega arith))
which R.Or = other (λ (e : R.Or ≡ R.Cut). (let z : ◌≡◌ {A = ℕ} 6 2 = ap rank_no e in omega arith))
which R.Beyond = other (λ (e : R.Beyond ≡ R.Cut). (let z : ◌≡◌ {A = ℕ} 7 2 = ap rank_no e in omega arith))

abbrev keeping : Word → Expression → Built → Built
keeping w u b = keep_word (L.sign (kind_no w.kind) (positioned w.at)) (pushed u b)

-- What is still to come behind the operand.
abbrev under : Rank → Stack → Stack
under r K = make tree_steps.make_binary ∷ (again r ++ K)

module _ {text : List ℕ} {w : Word} {s : State} {work : List ℕ} {t : Answer} (x : Took text w (after_word true Level s) s t) where
  pub operation-not : (rank : Rank) {work' : List ℕ} → IsErr t → Operates rank text w s work work' t
  operation-not rank {work'} n sc h e q base u p = (go rank (which rank) e, λ _ d. not_ok n d)
    where
      go : (r : Rank) → Which r → among (kind_no w.kind) (operators_of r) ≡ true → Says text sc (tail_stack r) (again r) (pushed u) q base s.nesting w s t work'
      go r cutting f = not_taken x n (λ K. keep a_constant ∷ make tree_steps.make_cut ∷ ask cut_tail ∷ K) (keeping w u) (λ K b. cut-taken text w h.seen (pushed u b) (counts_of s) f K)
      go r (other m) f = not_taken x n (λ K. stack_of (operand_level r) ++ under r K) (keeping w u) (λ K b. tail-taken text w h.seen (pushed u b) (counts_of s) r m f K)

  module _ {t' : Reached} (d₁ : t ≡ Ok t') where
    pub cut-operation : {rank : Rank} → rank ≡ R.Cut → {k : ℕ} → k ≡ kind_no w.kind → {work' : List ℕ} {r : Answer}
        → Cuts k w text t'.next t'.state work work' r × (Seen text t'.next → Grows t'.state r) → Operates rank text w s work work' r
    cut-operation {rank} c {k} i {work'} {r} y = rw c (go (rw i at y))
      where
        go : Cuts (kind_no w.kind) w text t'.next t'.state work work' r × (Seen text t'.next → Grows t'.state r) → Operates R.Cut text w s work work' r
        go z sc h e q base u p =
            let a = x.done d₁ in
            let o = z.0 sc (here-passed h a) q base u (pending-kept p a.kept) in
            let m : t'.state.nesting ≡ s.nesting = ap (λ (v : Counts). v.nesting) a.counts in (
              cut_again text sc w s t' r work' u q base (subst (λ (v : ℕ). Says text sc (keep a_constant ∷ make tree_steps.make_cut ∷ []) [] (keeping w u) q base v t'.next t'.state r work') m o)
                  (λ K b. cut-taken text w h.seen (pushed u b) (counts_of s) e K ∙ took-done a h.seen (keep a_constant ∷ make tree_steps.make_cut ∷ ask cut_tail ∷ K) (keeping w u b)),
              λ r' d. let g = z.1 a.seen r' d in (subst (λ (v : ℕ). v < r'.state.nodes) a.kept.nodes g.0, g.1),
            )

    module _ (rank : Rank) (n : rank ≡ R.Cut → ⊥) {v : Lv.Level} (f : v ≡ operand_level rank) {work₁ : List ℕ} {r : Answer} (y : Parses (stack_of v) same t'.state.nesting text t'.next t'.state work work₁ r) where
      right-course : {sc : Scope} → Here text sc w s work → among (kind_no w.kind) (operators_of rank) ≡ true → (u : Expression) (K : Stack) (b : Built)
          → runs text (tail_stack rank ++ K) w (pushed u b) s ≡ runs text (stack_of v ++ under rank K) t'.next (keeping w u b) t'.state
      right-course h e u K b =
          tail-taken text w h.seen (pushed u b) (counts_of s) rank n e K ∙ took-done (x.done d₁) h.seen (stack_of (operand_level rank) ++ under rank K) (keeping w u b)
          ∙ ap (λ (i : Lv.Level). runs text (stack_of i ++ under rank K) t'.next (keeping w u b) t'.state) (sym f)

      pub right-not : IsErr r → Operates rank text w s work work₁ r
      right-not m sc h e q base u p = (passed (y sc (here-passed h (x.done d₁))) m (under rank) (keeping w u) (right-course h e u), λ _ d. not_ok m d)

      pub operation-says : {r' : Reached} → r ≡ Ok r' → {m : ℕ} → m ≡ s.nodes - 1 → {work₂ : List ℕ} {a : Answer} → gains (D.binary (kind_no w.kind) m (r'.state.nodes - 1)) (positioned w.at) r'.next r'.state work₁ work₂ a
          → Operates rank text w s work work₂ a
      unfolding nodes_of expression_size word_no expression_no node_beside_bytes
      operation-says {r' = r'} d {m} i g sc h e q base u p =
          let c = x.done d₁ in
          let o = (y sc (here-passed h c)).done d in
          let j : t'.state.nodes ≡ base + expression_size u = c.kept.nodes ∙ p.nodes in
          let l = T.binary (kind_no w.kind) (positioned w.at) u o.tree in
          let k : r'.state.nodes ≡ base + expression_size u + expression_size o.tree = o.pending.nodes ∙ ap (λ (z : ℕ). z + expression_size o.tree) j in (
            made l (nodes_of sc base u ++ nodes_of sc (base + expression_size u) o.tree) (noted (D.binary (kind_no w.kind) (last_of base (expression_size u)) (last_of (base + expression_size u) (expression_size o.tree))) (positioned w.at))
                (expression_size u + expression_size o.tree) g (sym (append_assoc (nodes_of sc base u) (nodes_of sc (base + expression_size u) o.tree) _)) refl
                (o.pending.records ∙ ap (λ (z : Held). with_nodes z (nodes_of sc t'.state.nodes o.tree)) (pending-kept p c.kept).records ∙ sym (nodes-append q (nodes_of sc base u) (nodes_of sc t'.state.nodes o.tree)) ∙ ap (λ (z : ℕ). with_nodes q (nodes_of sc base u ++ nodes_of sc z o.tree)) j)
                (k ∙ omega arith) (binary-as refl (i ∙ ap (λ (z : ℕ). z - 1) p.nodes) (ap (λ (z : ℕ). z - 1) k)) refl (o.nesting ∙ ap (λ (z : Counts). z.nesting) c.counts)
                (record { seen = o.here.seen; names = o.here.names })
                (λ K b. right-course h e u K b ∙ o.course (under rank K) (keeping w u b)
                ∙ makes-it text tree_steps.make_binary (again rank ++ K) r'.next (pushed o.tree (keeping w u b)) (pushed l b) r'.state (λ z. refl)),
            grown g s (omega (arith, k, p.nodes)),
          )
