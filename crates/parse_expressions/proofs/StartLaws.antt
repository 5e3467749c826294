-- A level from its first operand on, and that operand.
use mathlib.Core.Bool.{true}
use mathlib.Core.List.{List, [], ◌∷◌, ◌++◌}
use mathlib.Core.Path.{◌≡◌, refl, sym, ap, ◌∙◌, subst}
use Prim.Native.Nat.{ℕ, suc, ◌+◌, ◌-◌}
use native.Mathlib.Omega.{arith}
use Rattle.language.specs.Building.{Built, expression_no, keep_word, word_no}
use Rattle.language.specs.Declaring.{tree_steps}
use Rattle.language.specs.Describe.{expression_size, last_of, nodes_of, noted}
use Rattle.language.specs.Description as D
use Rattle.language.specs.Encode.{node_bytes}
use Rattle.language.specs.Machine.{Counts, ask, ease, make, term}
use Rattle.language.specs.Naming.{Scope}
use Rattle.language.specs.Tree as T
use Rattle.language.specs.Words as L
use Rattle.judge_records.specs.Noted.{node_beside_bytes}
use Rattle.text_words.specs.declared.Word.{Word}
use Rattle.text_words.specs.Meaning.{positioned}
use Rattle.parse_tables.specs.Names.{facility_names}
use Rattle.parse_array.specs.Held.{held, with_nodes}
use Rattle.parse_step.specs.declared.Bearing.TheVariants.{Opens}
use Rattle.parse_step.specs.declared.State.{State}
use Rattle.parse_step.specs.Course.{Stack, ahead, counts_of, kind_no, runs}
use Rattle.parse_step.specs.Gained.{eased_state}
use Rattle.parse_step.specs.Says.{Extends, Here, Parses, Says, pushed}
use Rattle.parse_step.specs.Taken.{Took, after_word}
use Rattle.parse_step.proofs.Saying.{eases, here-passed, made, makes-it, not_taken, passed, through}
use Rattle.parse_step.proofs.TakenWords.{took-done}
use Rattle.parse_levels.specs.declared.Lead.{Lead}
use Rattle.parse_levels.specs.declared.Lead.TheVariants as H
use Rattle.parse_levels.specs.declared.Level as Lv
use Rattle.parse_levels.specs.declared.Rank.{Rank}
use Rattle.parse_levels.specs.declared.Rank.TheVariants as R
use Rattle.parse_levels.specs.Orders.{head_of, prefix_level, prefix_stack, rank_after, stack_of, tails_from}
use Rattle.parse_levels.proofs.HeadWords.{head-taken, plain-begins}
use Rattle.parse_expressions.specs.Phrases.{Begins, Unprefixed, at_nesting, gains, same}
use Rattle.parse_step.specs.Answers.{Answer}
use Rattle.parse_step.specs.declared.Reached.{Reached}
use Rattle.parse_step.proofs.Answers.{not_ok}
use Rattle.std.specs.Prelude.{IsErr, Ok}

pub at_same : (s : State) (n : ℕ) → s.nesting ≡ n → at_nesting s n ≡ s
at_same s n e = ap (at_nesting s) (sym e)

-- ---- A level from its first operand.

module _ {text : List ℕ} {w : Word} {s : State} {work work₁ : List ℕ} (l : Lv.Level) {head : Lead} {k : ℕ} (e₁ : k ≡ kind_no w.kind) (e : head ≡ head_of l k) {first : Answer} (x : Begins head text w s work work₁ first) where
  says_first : (sc : Scope) → Here text sc w s work → Says text sc (stack_of l) (tails_from (rank_after head) l) (λ b. b) (held s.nodes work) s.nodes s.nesting w s first work₁
  says_first sc h = x sc h l (ap (head_of l) (sym e₁) ∙ sym e)

  pub start-not : IsErr first → Parses (stack_of l) same s.nesting text w s work work₁ first
  start-not n sc h = passed (says_first sc h) n (λ K. K) (λ b. b) (λ K b. refl)

  pub start-says : {first' : Reached} → first ≡ Ok first' → {rank : Rank} → rank ≡ rank_after head → {q : State} → q ≡ at_nesting first'.state s.nesting → {work₂ : List ℕ} {r : Answer} → Extends (tails_from rank l) [] q.nesting text first'.next q work₁ work₂ r
      → Parses (stack_of l) same s.nesting text w s work work₂ r
  start-says {first' = first'} d {rank} f {q} g {work₂} {r} z sc h =
      let o = (says_first sc h).done d in
      let i : q ≡ first'.state = g ∙ at_same first'.state s.nesting o.nesting in
      let y : Extends (tails_from rank l) [] first'.state.nesting text first'.next first'.state work₁ work₂ r = rw i at z in
      subst (λ (n : ℕ). Says text sc (stack_of l) [] (λ b. b) (held s.nodes work) s.nodes n w s r work₂) o.nesting
      (through (y sc o.here (held s.nodes work) s.nodes o.tree o.pending)
      (λ K b. o.course K b ∙ ap (λ (q : Rank). runs text (tails_from q l ++ K) first'.next (pushed o.tree b) first'.state) (sym f)))

-- ---- The first operand.

abbrev keeping : Word → Built → Built
keeping w b = keep_word (L.sign (kind_no w.kind) (positioned w.at)) b

-- What is still to come behind the operand of a prefix operator.
abbrev below : Lead → Lv.Level → Stack → Stack
below head l K = make tree_steps.make_prefix ∷ ease ∷ (tails_from (rank_after head) l ++ K)

module _ {text : List ℕ} {w : Word} {s : State} {work : List ℕ} where
  pub plain-opening : {head : Lead} → head ≡ H.Plain → {work' : List ℕ} {r : Answer} → Parses (ask term ∷ []) same s.nesting text w s work work' r → Begins head text w s work work' r
  plain-opening {head} e {work'} {r} x = rw e (go x)
    where
      go : Parses (ask term ∷ []) same s.nesting text w s work work' r → Begins H.Plain text w s work work' r
      go y sc h l f =
          let u = y sc h in record {
            done = λ d. let o = u.done d in
                record {
                  tree = o.tree;
                  course = λ K b. plain-begins text w h.seen b (counts_of s) l f K ∙ o.course (tails_from R.Sum l ++ K) b;
                  pending = o.pending;
                  nesting = o.nesting;
                  here = o.here;
                };
            refused = λ g d K b. plain-begins text w h.seen b (counts_of s) l f K ∙ u.refused g d (tails_from R.Sum l ++ K) b;
            full = u.full;
          }

  module _ (head : Lead) (n : head ≡ H.Plain → ⊥) {t : Answer} (x : Took text w (after_word true Opens s) s t) where
    pub opening-not : {work' : List ℕ} → IsErr t → Begins head text w s work work' t
    opening-not m sc h l e = not_taken x m (λ K. prefix_stack head ++ below head l K) (keeping w) (λ K b. head-taken text w h.seen b (counts_of s) head n l e K)

    module _ {t' : Reached} (d₁ : t ≡ Ok t') {u : Answer} (y : Unprefixed head text t'.next t'.state u) where
      taken-course : {sc : Scope} → Here text sc w s work → (l : Lv.Level) → head_of l (kind_no w.kind) ≡ head → (K : Stack) (b : Built)
          → runs text (stack_of l ++ K) w b s ≡ runs text (prefix_stack head ++ below head l K) t'.next (keeping w b) t'.state
      taken-course h l e K b = head-taken text w h.seen b (counts_of s) head n l e K ∙ took-done (x.done d₁) h.seen (prefix_stack head ++ below head l K) (keeping w b)

      pub red-not : {work' : List ℕ} → IsErr u → Begins head text w s work work' u
      red-not m sc h l e = record {
        done = λ d. not_ok m d;
        refused = λ f d K b. taken-course h l e K b ∙ y.refused f d (x.done d₁).seen (below head l K) (keeping w b);
        full = λ d. absurd (y.full d);
      }

      module _ {u' : Reached} (d₂ : u ≡ Ok u') {v : Lv.Level} (f : v ≡ prefix_level head) {i : State} (g₀ : i ≡ at_nesting u'.state t'.state.nesting) {work₁ : List ℕ} {r : Answer} (z₀ : Parses (stack_of v) same i.nesting text u'.next i work work₁ r) where
        z : Parses (stack_of v) same u'.state.nesting text u'.next u'.state work work₁ r
        z = let j : i ≡ u'.state = g₀ ∙ at_same u'.state t'.state.nesting (y.done d₂ (x.done d₁).seen).nesting in rw j at z₀

        operand-here : {sc : Scope} → Here text sc w s work → Here text sc u'.next u'.state work
        operand-here h =
            let p = x.done d₁ in
            let q = y.done d₂ p.seen in
            record { seen = q.seen; names = (here-passed h p).names ∙ ap (facility_names text work) (sym q.kept.known) }

        operand-course : {sc : Scope} → Here text sc w s work → (l : Lv.Level) → head_of l (kind_no w.kind) ≡ head → (K : Stack) (b : Built)
            → runs text (stack_of l ++ K) w b s ≡ runs text (stack_of v ++ below head l K) u'.next (keeping w b) u'.state
        operand-course h l e K b =
            taken-course h l e K b ∙ (y.done d₂ (x.done d₁).seen).course (below head l K) (keeping w b) ∙ ap (λ (q : Lv.Level). runs text (stack_of q ++ below head l K) u'.next (keeping w b) u'.state) (sym f)

        pub operand-not : IsErr r → Begins head text w s work work₁ r
        operand-not m sc h l e = passed (z sc (operand-here h)) m (below head l) (keeping w) (operand-course h l e)

        pub opening-says : {r' : Reached} → r ≡ Ok r' → {work₂ : List ℕ} {a : Answer} → gains (D.prefix (kind_no w.kind) (r'.state.nodes - 1)) (positioned w.at) r'.next (eased_state r'.state) work₁ work₂ a
            → Begins head text w s work work₂ a
        unfolding nodes_of expression_size word_no expression_no node_beside_bytes
        opening-says {r' = r'} d {work₂} {a} g sc h l e =
            let o = (z sc (operand-here h)).done d in
            let p = x.done d₁ in
            let q = y.done d₂ p.seen in
            let m : u'.state.nodes ≡ s.nodes = q.kept.nodes ∙ p.kept.nodes in
            let c = T.prefix (kind_no w.kind) (positioned w.at) o.tree in
            let i₁ : u'.state.nesting ≡ suc s.nesting = q.nesting ∙ ap (λ (k : Counts). k.nesting) p.counts in
            let j : r'.state.nesting - 1 ≡ s.nesting = ap (λ (k : ℕ). k - 1) (o.nesting ∙ i₁) ∙ omega arith in
            made c (nodes_of sc s.nodes o.tree) (noted (D.prefix (kind_no w.kind) (last_of s.nodes (expression_size o.tree))) (positioned w.at)) (expression_size o.tree) g refl refl
            (o.pending.records ∙ ap (λ (k : ℕ). with_nodes (held k work) (nodes_of sc k o.tree)) m) (o.pending.nodes ∙ ap (λ (k : ℕ). k + expression_size o.tree) m)
            (ap (λ (k : ℕ). node_bytes (D.prefix (kind_no w.kind) (k - 1))) (o.pending.nodes ∙ ap (λ (k : ℕ). k + expression_size o.tree) m)) refl j
            (record { seen = o.here.seen; names = o.here.names })
            (λ K b. operand-course h l e K b ∙ o.course (below head l K) (keeping w b)
            ∙ makes-it text tree_steps.make_prefix (ease ∷ (tails_from (rank_after head) l ++ K)) r'.next (pushed o.tree (keeping w b)) (pushed c b) r'.state (λ k. refl)
            ∙ eases text (tails_from (rank_after head) l ++ K) (ahead text r'.next) (pushed c b) (counts_of r'.state))
