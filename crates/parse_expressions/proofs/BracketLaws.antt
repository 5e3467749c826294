-- References in brackets: one subscript or two, each an expression.
use mathlib.Core.Bool.{Bool, true, false, true≢false, cond}
use mathlib.Core.List.{List, [], ◌∷◌, ◌++◌, append_assoc}
use mathlib.Core.Path.{◌≡◌, refl, sym, ap, ◌∙◌, subst}
use Prim.Native.Nat.{ℕ, ◌+◌, ◌-◌}
use native.Mathlib.Omega.{arith}
use borrow.Author.Tests.{eq-eqb}
use Rattle.about_grammar.specs.Following.{among}
use Rattle.language.specs.Building.{Built, expression_no, keep_word, word_no}
use Rattle.language.specs.Declaring.{tree_steps}
use Rattle.language.specs.Describe.{constant_nodes, constant_size, expression_size, last_of, nodes_of, noted}
use Rattle.language.specs.Description as D
use Rattle.language.specs.Kinds.{a_constant, close_bracket, colon, comma, open_bracket}
use Rattle.language.specs.Machine.{Counts, after_subscript, ask, closes, make, second, second_end, second_option, subscript, refused, within_ceilings, word}
use Rattle.language.specs.Naming.{Scope, meaning, of_facility}
use Rattle.language.specs.declared.refusals.Refusal.TheVariants.{CeilingPassed}
use Rattle.language.specs.Scan.{written}
use Rattle.language.specs.Tree as T
use Rattle.language.specs.Tree.{Expression}
use Rattle.language.specs.Words.{fault}
use Rattle.value_operators.specs.Meaning.{valued}
use Rattle.text_words.specs.declared.Word.{Word}
use Rattle.text_words.specs.Meaning.{positioned}
use Rattle.parse_tables.proofs.NamesGrown.{facilities-other}
use Rattle.parse_tables.specs.Names.{facility_names}
use Rattle.parse_array.specs.Held.{Held, held, other_in, with_nodes}
use Rattle.parse_array.proofs.NodesAdded.{nodes-append, nodes-other}
use Rattle.parse_step.specs.declared.Bearing.TheVariants.{Closes, Level, Opens}
use Rattle.parse_step.specs.declared.State.{State}
use Rattle.parse_step.specs.Course.{Seen, Stack, ahead, counts_of, kind_no, runs, runs_on}
use Rattle.parse_step.specs.Says.{Extends, Here, Parses, Read, Says, pushed}
use Rattle.parse_step.specs.Taken.{Expected, Follows, Took, after_word, constant_word, ends_ahead}
use Rattle.parse_step.proofs.Saying.{here-passed, made, makes-it, not-expected, not_taken, passed, pending-kept, through}
use Rattle.parse_step.proofs.TakenWords.{ends-come, on_taken, took-done}
use Rattle.parse_levels.specs.declared.Lead.{Lead}
use Rattle.parse_levels.specs.declared.Lead.TheVariants as H
use Rattle.parse_levels.specs.declared.Level as Lv
use Rattle.parse_levels.specs.declared.Level.TheVariants.{Expression as Whole}
use Rattle.parse_levels.specs.declared.Rank.{Rank}
use Rattle.parse_levels.specs.declared.Rank.TheVariants.{Sum}
use Rattle.parse_levels.specs.Orders.{head_of, rank_after, stack_of, tails_from}
use Rattle.parse_operands.specs.Brackets.{bracket_ask, bracket_end, bracket_rest, bracket_waits}
use Rattle.parse_operands.specs.Ended.{Counting, one_more}
use Rattle.parse_operands.specs.References.{Adds, letters_of}
use Rattle.parse_operands.proofs.BracketWords.{close_follows, comma-follows, constant-first, constant-operand, expression-first, rest-tails, second-closes}
use Rattle.parse_operands.proofs.TermWords.{no_second, second-opens}
use Rattle.parse_expressions.specs.Phrases as P
use Rattle.parse_expressions.specs.Phrases.{Begins, Inside, Keeps, Leads, Second, after_name, at_nesting, same}
use Rattle.parse_expressions.proofs.StartLaws.{at_same, start-not, start-says}
use Rattle.parse_step.specs.Answers.{Answer}
use Rattle.parse_step.specs.declared.Reached.{Reached}
use Rattle.std.specs.Prelude.{IsErr, Ok}

-- An answer behind a course, with a stack below that it leaves.
framed : {text : List ℕ} {sc : Scope} {P Q : Stack} {pre : Built → Built} {h : Held} {base depth : ℕ} {w : Word} {s : State} {r : Answer} {work : List ℕ} {P₁ : Stack} {pre₁ : Built → Built} {w₁ : Word} {s₁ : State}
    → Says text sc P₁ [] pre₁ h base depth w₁ s₁ r work → ((K : Stack) (b : Built) → runs text (P ++ K) w (pre b) s ≡ runs text (P₁ ++ (Q ++ K)) w₁ (pre₁ b) s₁) → Says text sc P Q pre h base depth w s r work
framed {Q = Q} x g = record {
  done = λ d. let y = x.done d in record { tree = y.tree; course = λ K b. g K b ∙ y.course (Q ++ K) b; pending = y.pending; nesting = y.nesting; here = y.here };
  refused = λ f d K b. g K b ∙ x.refused f d (Q ++ K) b;
  full = x.full;
}

-- ---- An expression in brackets.

module _ {text : List ℕ} {w : Word} {s : State} {work : List ℕ} (later : Bool) where
  pub inside-expression : (kind_no w.kind ≡ a_constant → ⊥) → {work' : List ℕ} {r : Answer} → Parses (stack_of Whole) same s.nesting text w s work work' r → Inside later text w s work work' r
  inside-expression n y sc h e = framed (y sc h) (λ K b. expression-first text w h.seen b (counts_of s) n later K)

  module _ (k : kind_no w.kind ≡ a_constant) {t : Answer} (x : Took text w (after_word false Level s) s t) where
    pub keep-not : {work' : List ℕ} → IsErr t → Keeps later text w s work work' t
    keep-not n sc h e = not_taken x n (λ K. ask (bracket_waits later) ∷ ask (bracket_rest later) ∷ K) (keep_word (constant_word w)) (λ K b. constant-first text w h.seen b (counts_of s) k later K)

    module _ {t' : Reached} (d₁ : t ≡ Ok t') {work₁ : List ℕ} {c : Answer} (y : Counting w t'.next t'.state work work₁ c) where
      abbrev counts : Counts
      counts = counts_of (one_more t'.state)

      no-colon : Seen text w → ends_ahead (ahead text w) ≡ false → kind_no t'.next.kind ≡ colon → ⊥
      no-colon z e q =
          let p = x.done d₁ in
          let f : Follows text w t'.next = record { words = p.words; seen = p.seen } in
          true≢false (sym (eq-eqb (kind_no t'.next.kind) colon q) ∙ ends-come text w t'.next k f z ∙ e)

      waiting : {sc : Scope} → Here text sc w s work → ends_ahead (ahead text w) ≡ false → (K : Stack) (b : Built)
          → runs text (ask (bracket_ask later) ∷ K) w b s
          ≡ cond (within_ceilings counts) (runs_on text (ask (bracket_rest later) ∷ K) (ahead text t'.next) (pushed (T.constant (written w.bare (valued w.value)) (positioned w.at)) b) counts) (refused (fault (positioned w.at) CeilingPassed))
      waiting h e K b =
          let p = x.done d₁ in
          constant-first text w h.seen b (counts_of s) k later K ∙ took-done p h.seen (ask (bracket_waits later) ∷ ask (bracket_rest later) ∷ K) (keep_word (constant_word w) b)
          ∙ constant-operand text t'.next p.seen (written w.bare (valued w.value)) (positioned w.at) b (counts_of t'.state) (no-colon h.seen e) later K

      -- No colon follows, so that the constant counts, and the operators of an expression may come.
      pub keep-says : Keeps later text w s work work₁ c
      unfolding nodes_of expression_size held
      keep-says sc h e = record {
        done = λ d. read d;
        refused = λ f d K b. let z = y.refused f d in waiting h e K b ∙ rw (z.0, z.1);
        full = y.full;
      }
        where
          read : {c' : Reached} → c ≡ Ok c' → Read text sc (ask (bracket_ask later) ∷ []) (tails_from Sum Whole ++ (ask (bracket_end later) ∷ [])) (λ b. b) (held s.nodes work) s.nodes s.nesting w s c' work₁
          read {c'} d =
              let p = x.done d₁ in
              let v = (y.done d).1 in
              let q = v.state d in
              let m : t'.state.nesting ≡ s.nesting = ap (λ (k : Counts). k.nesting) p.counts in
              let u = T.constant (written w.bare (valued w.value)) (positioned w.at) in
              let o : other_in work₁ ≡ other_in work = ap (λ (a : Held). a.other) (v.held d) ∙ nodes-other (held t'.state.nodes work) (constant_nodes (valued w.value) (positioned w.at)) in
              let g : (K : Stack) (b : Built) → runs text (ask (bracket_ask later) ∷ K) w b s ≡ runs text (tails_from Sum Whole ++ (ask (bracket_end later) ∷ K)) c'.next (pushed u b) c'.state =
              λ K b. waiting h e K b ∙ rw ((y.done d).0, v.word d, q) (rest-tails text t'.next p.seen (pushed u b) counts later K) in
              record {
                tree = u;
                course = λ K b. g K b ∙ ap (λ (M : Stack). runs text M c'.next (pushed u b) c'.state) (sym (append_assoc (tails_from Sum Whole) (ask (bracket_end later) ∷ []) K));
                pending = record {
                  records = ap (λ (l : State). held l.nodes work₁) q ∙ v.held d ∙ ap (λ (l : ℕ). with_nodes (held l work) (constant_nodes (valued w.value) (positioned w.at))) p.kept.nodes;
                  nodes = ap (λ (l : State). l.nodes) q ∙ ap (λ (l : ℕ). l + constant_size (valued w.value)) p.kept.nodes;
                };
                nesting = ap (λ (a : State). a.nesting) q ∙ m;
                here = record {
                  seen = subst (Seen text) (sym (v.word d)) p.seen;
                  names = (here-passed h p).names ∙ sym (facilities-other text work work₁ o t'.state.known) ∙ ap (λ (l : State). facility_names text work₁ l.known) (sym q);
                };
              }

-- ---- An expression of a level, or one in brackets behind its first constant.

module _ {head : Lead} {text : List ℕ} {w : Word} {s : State} {work work' : List ℕ} {r : Answer} {kept : Bool} where
  pub leads-plain : kept ≡ false → Begins head text w s work work' r → Leads kept head text w s work work' r
  leads-plain e x = record { plain = λ f. x; constant = λ f. absurd (true≢false (sym f ∙ e)) }

  pub leads-constant : kept ≡ true → (kind_no w.kind ≡ a_constant → (later : Bool) → Keeps later text w s work work' r) → Leads kept head text w s work work' r
  leads-constant e x = record { plain = λ f. absurd (true≢false (sym e ∙ f)); constant = λ f. x }

constant-plain : head_of Whole a_constant ≡ H.Plain
unfolding head_of among
constant-plain = refl

module _ {text : List ℕ} {w : Word} {s : State} {work work₁ : List ℕ} (l : Lv.Level) {head : Lead} {k : ℕ} (e₁ : k ≡ kind_no w.kind) (e : head ≡ head_of l k) {kept : Bool} {first : Answer} (x : Leads kept head text w s work work₁ first) where
  pub level-not : IsErr first → P.Whole kept l text w s work work₁ first
  level-not n = record {
    plain = λ p. start-not l e₁ e (x.plain p) n;
    constant = λ p i c later sc h z. passed (x.constant p c later sc h z) n (λ K. K) (λ b. b) (λ K b. refl);
  }

  pub level-says : {first' : Reached} → first ≡ Ok first' → {rank : Rank} → rank ≡ rank_after head → {q : State} → q ≡ at_nesting first'.state s.nesting
      → {work₂ : List ℕ} {r : Answer} → Extends (tails_from rank l) [] q.nesting text first'.next q work₁ work₂ r → P.Whole kept l text w s work work₂ r
  level-says {first' = first'} d {rank} f {q} g {work₂} {r} z = record { plain = λ p. start-says l e₁ e (x.plain p) d f g z; constant = behind }
    where
      behind : kept ≡ true → l ≡ Whole → kind_no w.kind ≡ a_constant → (later : Bool) → Inside later text w s work work₂ r
      behind p i c later sc h a =
          let o = (x.constant p c later sc h a).done d in
          let j : q ≡ first'.state = g ∙ at_same first'.state s.nesting o.nesting in
          let v : rank ≡ Sum = f ∙ ap rank_after (e ∙ ap (head_of l) (e₁ ∙ c) ∙ ap (λ (u : Lv.Level). head_of u a_constant) i ∙ constant-plain) in
          let y : Extends (tails_from Sum Whole) [] first'.state.nesting text first'.next first'.state work₁ work₂ r = rw (j, v, i) at z in
          subst (λ (n : ℕ). Says text sc (ask (bracket_ask later) ∷ []) (ask (bracket_end later) ∷ []) (λ b. b) (held s.nodes work) s.nodes n w s r work₂) o.nesting
          (framed (y sc o.here (held s.nodes work) s.nodes o.tree o.pending)
          (λ K b. o.course K b ∙ ap (λ (M : Stack). runs text M first'.next (pushed o.tree b) first'.state) (append_assoc (tails_from Sum Whole) (ask (bracket_end later) ∷ []) K)))

-- ---- Behind the first bracket.

pub ends_so : {text : List ℕ} {w : Word} {b : Bool} (c : Bool) → (Seen text w → b ≡ ends_ahead (ahead text w)) → b ≡ c → Seen text w → ends_ahead (ahead text w) ≡ c
ends_so c f e z = sym (f z) ∙ e

module _ {text : List ℕ} {w : Word} {s : State} {work work₁ : List ℕ} (name : Word) {q : Bool} (e : Seen text w → q ≡ ends_ahead (ahead text w)) (n : q ≡ false) {f : Answer} (x : Inside false text w s work work₁ f) where
  inside-first : (sc : Scope) (h : Here text sc w s work) → Says text sc (ask subscript ∷ []) (ask after_subscript ∷ []) (λ b. b) (held s.nodes work) s.nodes s.nesting w s f work₁
  inside-first sc h = x sc h (ends_so false e n h.seen)

  pub subscript-not : IsErr f → Parses (ask subscript ∷ []) (after_name name) (s.nesting - 1) text w s work work₁ f
  subscript-not m sc h = passed (inside-first sc h) m (λ K. K) (after_name name text) (λ K b. refl)

  module _ {f' : Reached} (d₁ : f ≡ Ok f') where
    module _ (k : kind_no f'.next.kind ≡ comma) {t : Answer} (y : Took text f'.next (after_word false Level f'.state) f'.state t) where
      comma-course : (sc : Scope) (h : Here text sc w s work) (K : Stack) (b : Built)
          → runs text (ask subscript ∷ K) w (after_name name text b) s ≡ on_taken text f'.next (ask second ∷ K) (pushed ((inside-first sc h).done d₁).tree (after_name name text b)) (counts_of f'.state)
      comma-course sc h K b =
          let o = (inside-first sc h).done d₁ in
          o.course K (after_name name text b) ∙ comma-follows text f'.next o.here.seen (pushed o.tree (after_name name text b)) (counts_of f'.state) k K

      pub comma-not : IsErr t → Parses (ask subscript ∷ []) (after_name name) (s.nesting - 1) text w s work work₁ t
      comma-not m sc h = not_taken y m (λ K. ask second ∷ K) (λ b. pushed ((inside-first sc h).done d₁).tree (after_name name text b)) (comma-course sc h)

      pub comma-says : {t' : Reached} → t ≡ Ok t' → {i : State} → i ≡ at_nesting t'.state s.nesting → {work₂ : List ℕ} {r : Answer} → Second second name (i.nesting - 1) text t'.next i work₁ work₂ r
          → Parses (ask subscript ∷ []) (after_name name) (s.nesting - 1) text w s work work₂ r
      comma-says {t' = t'} d {i} g {work₂} {r} z sc h =
          let o = (inside-first sc h).done d₁ in
          let p = y.done d in
          let m : t'.state.nesting ≡ s.nesting = ap (λ (c : Counts). c.nesting) p.counts ∙ o.nesting in
          let j : i ≡ t'.state = g ∙ at_same t'.state s.nesting m in
          let v : Second second name (t'.state.nesting - 1) text t'.next t'.state work₁ work₂ r = rw j at z in
          subst (λ (l : ℕ). Says text sc (ask subscript ∷ []) [] (after_name name text) (held s.nodes work) s.nodes l w s r work₂) (ap (λ (l : ℕ). l - 1) m)
          (through (v sc (here-passed o.here p) (held s.nodes work) s.nodes o.tree (pending-kept o.pending p.kept))
          (λ K b. comma-course sc h K b ∙ took-done p o.here.seen (ask second ∷ K) (pushed o.tree (after_name name text b))))

    module _ (k : kind_no f'.next.kind ≡ comma → ⊥) {t : Answer} (y : Expected text close_bracket Closes f'.next f'.state t) where
      close-course : (sc : Scope) (h : Here text sc w s work) (K : Stack) (b : Built)
          → runs text (ask subscript ∷ K) w (after_name name text b) s ≡ runs text (word close_bracket closes ∷ ask second_option ∷ K) f'.next (pushed ((inside-first sc h).done d₁).tree (after_name name text b)) f'.state
      close-course sc h K b =
          let o = (inside-first sc h).done d₁ in
          o.course K (after_name name text b) ∙ close_follows text f'.next o.here.seen (pushed o.tree (after_name name text b)) (counts_of f'.state) k K

      pub close-not : IsErr t → Parses (ask subscript ∷ []) (after_name name) (s.nesting - 1) text w s work work₁ t
      close-not m sc h = not-expected y m ((inside-first sc h).done d₁).here.seen (omega arith) (λ K. ask second_option ∷ K) (λ b. pushed ((inside-first sc h).done d₁).tree (after_name name text b)) (close-course sc h)

      pub close-says : {t' : Reached} → t ≡ Ok t' → {l : ℕ} → l ≡ s.nesting - 1 → {i : State} → i ≡ at_nesting t'.state l → {work₂ : List ℕ} {r : Answer} → Second second_option name i.nesting text t'.next i work₁ work₂ r
          → Parses (ask subscript ∷ []) (after_name name) (s.nesting - 1) text w s work work₂ r
      close-says {t' = t'} d {l} u {i} g {work₂} {r} z sc h =
          let o = (inside-first sc h).done d₁ in
          let a = y.done d o.here.seen (omega arith) in
          let p = a.0 in
          let m : t'.state.nesting ≡ s.nesting - 1 = ap (λ (c : Counts). c.nesting) p.counts ∙ ap (λ (c : ℕ). c - 1) o.nesting in
          let j : i ≡ t'.state = g ∙ at_same t'.state l (m ∙ sym u) in
          let v : Second second_option name t'.state.nesting text t'.next t'.state work₁ work₂ r = rw j at z in
          subst (λ (c : ℕ). Says text sc (ask subscript ∷ []) [] (after_name name text) (held s.nodes work) s.nodes c w s r work₂) m
          (through (v sc (here-passed o.here p) (held s.nodes work) s.nodes o.tree (pending-kept o.pending p.kept))
          (λ K b. close-course sc h K b ∙ a.1 (ask second_option ∷ K) (pushed o.tree (after_name name text b))))

-- ---- One subscript, or a second bracket.

module _ {text : List ℕ} {w : Word} {s : State} {work : List ℕ} (name : Word) where
  pub one-says : {k : ℕ} → k ≡ kind_no w.kind → (k ≡ open_bracket → ⊥) → {m : ℕ} → m ≡ s.nodes - 1 → {work' : List ℕ} {r : Answer}
      → Adds (λ sc. noted (of_facility (meaning sc (letters_of text name)) (λ k. D.one k m)) (positioned name.at)) text w s work work' r → Second second_option name s.nesting text w s work work' r
  unfolding nodes_of expression_size
  one-says e n {m} f y sc h q base u p =
      let l : m ≡ last_of base (expression_size u) = f ∙ ap (λ (c : ℕ). c - 1) p.nodes in
      made (T.one (letters_of text name) (positioned name.at) u) (nodes_of sc base u) (noted (of_facility (meaning sc (letters_of text name)) (λ k. D.one k m)) (positioned name.at)) (expression_size u) (y sc h.names)
      (ap (λ (c : ℕ). nodes_of sc base u ++ noted (of_facility (meaning sc (letters_of text name)) (λ k. D.one k c)) (positioned name.at) ∷ []) (sym l)) refl p.records p.nodes refl refl refl h
      (λ K b. no_second text w h.seen (counts_of s) (λ c. n (e ∙ c)) (letters_of text name) (positioned name.at) u b K)

  module _ (e : kind_no w.kind ≡ open_bracket) {t : Answer} (x : Took text w (after_word false Opens s) s t) where
    pub single-not : {work' : List ℕ} → IsErr t → Second second_option name s.nesting text w s work work' t
    single-not n sc h q base u p = not_taken x n (λ K. ask second ∷ K) (λ b. pushed u (after_name name text b)) (λ K b. second-opens text w h.seen (counts_of s) e (pushed u (after_name name text b)) K)

    pub single-says : {t' : Reached} → t ≡ Ok t' → {work₁ : List ℕ} {r : Answer} → Second second name (t'.state.nesting - 1) text t'.next t'.state work work₁ r → Second second_option name s.nesting text w s work work₁ r
    single-says d {work₁} {r} y sc h q base u p =
        let a = x.done d in
        subst (λ (c : ℕ). Says text sc (ask second_option ∷ []) [] (λ b. pushed u (after_name name text b)) q base c w s r work₁) (ap (λ (c : Counts). c.nesting - 1) a.counts ∙ omega arith)
        (through (y sc (here-passed h a) q base u (pending-kept p a.kept))
        (λ K b. second-opens text w h.seen (counts_of s) e (pushed u (after_name name text b)) K ∙ took-done a h.seen (ask second ∷ K) (pushed u (after_name name text b))))

-- ---- The second subscript.

module _ {text : List ℕ} {w : Word} {s : State} {work work₁ : List ℕ} (name : Word) {q : Bool} (e : Seen text w → q ≡ ends_ahead (ahead text w)) (n : q ≡ false) {f : Answer} (x : Inside true text w s work work₁ f) where
  inside-second : (sc : Scope) (h : Here text sc w s work) → Says text sc (ask second ∷ []) (ask second_end ∷ []) (λ b. b) (held s.nodes work) s.nodes s.nesting w s f work₁
  inside-second sc h = x sc h (ends_so false e n h.seen)

  pub second-not : IsErr f → Second second name (s.nesting - 1) text w s work work₁ f
  second-not m sc h v base u p = passed (inside-second sc h) m (λ K. K) (λ b. pushed u (after_name name text b)) (λ K b. refl)

  module _ {f' : Reached} (d₁ : f ≡ Ok f') {t : Answer} (y : Expected text close_bracket Closes f'.next f'.state t) where
    end-course : (sc : Scope) (h : Here text sc w s work) (u : Expression) (K : Stack) (b : Built)
        → runs text (ask second ∷ K) w (pushed u (after_name name text b)) s ≡ runs text (word close_bracket closes ∷ make tree_steps.make_two ∷ K) f'.next (pushed ((inside-second sc h).done d₁).tree (pushed u (after_name name text b))) f'.state
    end-course sc h u K b =
        let o = (inside-second sc h).done d₁ in
        o.course K (pushed u (after_name name text b)) ∙ second-closes text f'.next o.here.seen (pushed o.tree (pushed u (after_name name text b))) (counts_of f'.state) K

    pub end-not : IsErr t → Second second name (s.nesting - 1) text w s work work₁ t
    end-not m sc h v base u p = not-expected y m ((inside-second sc h).done d₁).here.seen (omega arith) (λ K. make tree_steps.make_two ∷ K) (λ b. pushed ((inside-second sc h).done d₁).tree (pushed u (after_name name text b))) (end-course sc h u)

    pub second-says : {t' : Reached} → t ≡ Ok t' → {i j : ℕ} → i ≡ s.nodes - 1 → j ≡ t'.state.nodes - 1 → {work₂ : List ℕ} {r : Answer}
        → Adds (λ sc. noted (of_facility (meaning sc (letters_of text name)) (λ k. D.two k i j)) (positioned name.at)) text t'.next t'.state work₁ work₂ r → Second second name (s.nesting - 1) text w s work work₂ r
    unfolding nodes_of expression_size word_no expression_no
    second-says {t' = t'} d {i} {j} g k z sc h v base u p =
        let o = (inside-second sc h).done d₁ in
        let a = y.done d o.here.seen (omega arith) in
        let c = here-passed o.here a.0 in
        let t₁ = T.two (letters_of text name) (positioned name.at) u o.tree in
        let m : t'.state.nodes ≡ base + expression_size u + expression_size o.tree = a.0.kept.nodes ∙ o.pending.nodes ∙ ap (λ (l : ℕ). l + expression_size o.tree) p.nodes in
        let i₁ : i ≡ last_of base (expression_size u) = g ∙ ap (λ (l : ℕ). l - 1) p.nodes in
        let j₁ : j ≡ last_of (base + expression_size u) (expression_size o.tree) = k ∙ ap (λ (l : ℕ). l - 1) m in
        made t₁ (nodes_of sc base u ++ nodes_of sc (base + expression_size u) o.tree) (noted (of_facility (meaning sc (letters_of text name)) (λ k. D.two k i j)) (positioned name.at))
        (expression_size u + expression_size o.tree) (z sc c.names)
        (ap (λ (l : ℕ). nodes_of sc base u ++ (nodes_of sc (base + expression_size u) o.tree ++ noted (of_facility (meaning sc (letters_of text name)) (λ k. D.two k l (last_of (base + expression_size u) (expression_size o.tree)))) (positioned name.at) ∷ [])) (sym i₁)
        ∙ ap (λ (l : ℕ). nodes_of sc base u ++ (nodes_of sc (base + expression_size u) o.tree ++ noted (of_facility (meaning sc (letters_of text name)) (λ k. D.two k i l)) (positioned name.at) ∷ [])) (sym j₁)
        ∙ sym (append_assoc (nodes_of sc base u) (nodes_of sc (base + expression_size u) o.tree) (noted (of_facility (meaning sc (letters_of text name)) (λ k. D.two k i j)) (positioned name.at) ∷ []))) refl
        (ap (λ (l : ℕ). held l work₁) a.0.kept.nodes ∙ o.pending.records ∙ ap (λ (l : Held). with_nodes l (nodes_of sc s.nodes o.tree)) p.records ∙ sym (nodes-append v (nodes_of sc base u) (nodes_of sc s.nodes o.tree)) ∙ ap (λ (l : ℕ). with_nodes v (nodes_of sc base u ++ nodes_of sc l o.tree)) p.nodes)
        (m ∙ omega arith) refl refl (ap (λ (l : Counts). l.nesting) a.0.counts ∙ ap (λ (l : ℕ). l - 1) o.nesting) c
        (λ K b. end-course sc h u K b ∙ a.1 (make tree_steps.make_two ∷ K) (pushed o.tree (pushed u (after_name name text b)))
        ∙ makes-it text tree_steps.make_two K t'.next (pushed o.tree (pushed u (after_name name text b))) (pushed t₁ b) t'.state (λ l. refl))
