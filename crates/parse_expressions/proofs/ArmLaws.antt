-- Conditionals in expressions, and their arms.
use mathlib.Core.Bool.{Bool, true, false, true≢false}
use mathlib.Core.List.{List, [], ◌∷◌, ◌++◌, append_assoc}
use mathlib.Core.Path.{◌≡◌, refl, sym, ap, ◌∙◌}
use Prim.Native.Nat.{ℕ, suc, ◌+◌, ◌-◌, ◌*◌, ◌%◌, ◌/◌, ◌≤◌}
use native.Mathlib.Nat.{add-mul-mod_self_right}
use native.Mathlib.Omega.{arith}
use borrow.Author.Tests.{eq-eqb, eqb-true}
use Rattle.language.specs.Building.{Built, expression_no, keep_word, word_no}
use Rattle.language.specs.Declaring.{tree_steps}
use Rattle.language.specs.Describe.{arms_of, expression_size, last_of, nodes_of, noted}
use Rattle.language.specs.Description as D
use Rattle.language.specs.Encode.{node_bytes}
use Rattle.language.specs.Machine.{Counts, ask, closes, expression, make, level, term, word}
use Rattle.language.specs.Naming.{Scope}
use Rattle.language.specs.Tree as T
use Rattle.language.specs.Tree.{Expression}
use Rattle.language.specs.Words as L
use Rattle.judge_records.specs.Noted.{node_beside_bytes}
use Rattle.language.specs.Kinds.{do_word}
use Rattle.text_words.specs.declared.Word.{Word}
use Rattle.text_words.specs.Meaning.{positioned}
use Rattle.parse_array.specs.Held.{Held, held, with_nodes}
use Rattle.parse_array.proofs.NodesAdded.{nodes-append}
use Rattle.parse_array.specs.Layout.{most_nodes}
use Rattle.parse_step.specs.declared.Bearing.TheVariants.{Closes, Level, Opens}
use Rattle.parse_step.specs.declared.State.{State}
use Rattle.parse_step.specs.Course.{Seen, Stack, ahead, counts_of, kind_no, runs, runs_on}
use Rattle.parse_step.specs.Gained.{Grows}
use Rattle.parse_step.specs.Says.{Here, Parses, Pending, Read, Says, pushed}
use Rattle.parse_step.specs.Taken.{Expected, Took, after_word}
use Rattle.parse_step.proofs.NodeGained.{grown}
use Rattle.parse_step.proofs.Saying.{here-passed, made, made_as, makes-it, not-expected, not_taken, passed}
use Rattle.parse_step.proofs.TakenWords.{on_taken, took-done}
use Rattle.parse_operands.proofs.ReferenceLaws.{two-low}
use Rattle.parse_operands.proofs.TermWords.{case-term, if-term, more-taken, no_more}
use Rattle.parse_expressions.specs.declared.pieces.Armed.{Armed}
use Rattle.parse_expressions.specs.Phrases.{Arms, Counted, FirstArm, MoreArms, NextArm, another, arm_stack, at_nesting, choice_word, first_word, gains, last_word, more_stack, other_word, same, stayed}
use Rattle.parse_expressions.proofs.StartLaws.{at_same}
use Rattle.parse_expressions.proofs.TermLaws.{from-kept}
use Rattle.parse_step.specs.declared.Unread.TheVariants.{Full}
use Rattle.parse_step.specs.Answers.{Answer}
use Rattle.parse_step.specs.declared.Reached.{Reached}
use Rattle.parse_step.specs.declared.Unread.{Unread}
use Rattle.parse_step.proofs.Answers.{at_full, at_ok, err_as, not_ok, ok_err, refused_full}
use Rattle.std.specs.Prelude.{Err, IsErr, Ok, Result}

pub separators : (case : Bool) → 3 ≤ first_word case
separators true = omega arith
separators false = omega arith

pub others : (case : Bool) → 3 ≤ other_word case
others true = omega arith
others false = omega arith

pub closers : (case : Bool) → 3 ≤ last_word case
closers true = omega arith
closers false = omega arith

arm-bytes : {a a' b b' : ℕ} → a ≡ a' → b ≡ b' → node_bytes (D.next_arm a b) ≡ node_bytes (D.next_arm a' b')
arm-bytes e f = rw (e, f)

-- ---- One arm: its word, its expression, its record.

module _ {text : List ℕ} {w : Word} {s : State} {work : List ℕ} {sep : ℕ} {x : Answer} (e : Expected text sep Level w s x) where
  pub first-not : {work' : List ℕ} → IsErr x → FirstArm sep text w s work work' x
  first-not n sc h l = (not-expected e n h.seen l (λ K. ask expression ∷ make tree_steps.make_first_arm ∷ K) (λ b. b) (λ K b. refl), λ _ d. not_ok n d)

  pub next-not : {work' : List ℕ} → IsErr x → NextArm sep text w s work work' x
  next-not n sc h l q base t p = (not-expected e n h.seen l (λ K. ask expression ∷ make tree_steps.make_next_arm ∷ K) (pushed t) (λ K b. refl), (λ _ d. not_ok n d), λ _ d. not_ok n d)

  module _ {x' : Reached} (d₁ : x ≡ Ok x') {i : State} (g : i ≡ at_nesting x'.state s.nesting) {work₁ : List ℕ} {r : Answer} (y₀ : Parses (ask expression ∷ []) same i.nesting text x'.next i work work₁ r) where
    arm_read : {sc : Scope} → Here text sc w s work → 3 ≤ sep → Says text sc (ask expression ∷ []) [] (λ b. b) (held s.nodes work) s.nodes s.nesting x'.next x'.state r work₁
    arm_read {sc} h l =
        let a = e.done d₁ h.seen l in
        let m : x'.state.nesting ≡ s.nesting = ap (λ (c : Counts). c.nesting) a.0.counts in
        let j : i ≡ x'.state = g ∙ at_same x'.state s.nesting m in
        let y : Parses (ask expression ∷ []) same x'.state.nesting text x'.next x'.state work work₁ r = rw j at y₀ in
        from-kept work x'.state.nodes s.nodes x'.state.nesting s.nesting a.0.kept.nodes m (y sc (here-passed h a.0))

    pub first_inner : IsErr r → FirstArm sep text w s work work₁ r
    first_inner n sc h l = (passed (arm_read h l) n (λ K. make tree_steps.make_first_arm ∷ K) (λ b. b) (λ K b. (e.done d₁ h.seen l).1 (ask expression ∷ make tree_steps.make_first_arm ∷ K) b), λ _ d. not_ok n d)

    pub next-inner : IsErr r → NextArm sep text w s work work₁ r
    next-inner n sc h l q base t p = (passed (arm_read h l) n (λ K. make tree_steps.make_next_arm ∷ K) (pushed t) (λ K b. (e.done d₁ h.seen l).1 (ask expression ∷ make tree_steps.make_next_arm ∷ K) (pushed t b)), (λ _ d. not_ok n d), λ _ d. not_ok n d)

    pub first_says : {r' : Reached} → r ≡ Ok r' → {work₂ : List ℕ} {a : Answer} → gains (D.first_arm (r'.state.nodes - 1)) D.nowhere r'.next r'.state work₁ work₂ a → FirstArm sep text w s work work₂ a
    unfolding nodes_of expression_size expression_no node_beside_bytes arms_of
    first_says {r' = r'} d z sc h l =
        let o = (arm_read h l).done d in
        let t = T.first_arm o.tree in
        let y = made_as t (nodes_of sc s.nodes o.tree) (noted (D.first_arm (last_of s.nodes (expression_size o.tree))) D.nowhere) (expression_size o.tree) z refl refl o.pending.records o.pending.nodes
        (ap (λ (k : ℕ). node_bytes (D.first_arm (k - 1))) o.pending.nodes) refl o.nesting (record { seen = o.here.seen; names = o.here.names })
        (λ K b. (e.done d₁ h.seen l).1 (ask expression ∷ make tree_steps.make_first_arm ∷ K) b ∙ o.course (make tree_steps.make_first_arm ∷ K) b
        ∙ makes-it text tree_steps.make_first_arm K r'.next (pushed o.tree b) (pushed t b) r'.state (λ k. refl)) in
        (y.0, λ _ k. ap arms_of (y.1 _ k))

    pub next-says : {r' : Reached} → r ≡ Ok r' → {m : ℕ} → m ≡ s.nodes - 1 → {work₂ : List ℕ} {a : Answer} → gains (D.next_arm m (r'.state.nodes - 1)) D.nowhere r'.next r'.state work₁ work₂ a → NextArm sep text w s work work₂ a
    unfolding nodes_of expression_size expression_no node_beside_bytes arms_of
    next-says {r' = r'} d {m} f z sc h l q base u p =
        let o = (arm_read h l).done d in
        let t = T.next_arm u o.tree in
        let k : r'.state.nodes ≡ base + expression_size u + expression_size o.tree = o.pending.nodes ∙ ap (λ (c : ℕ). c + expression_size o.tree) p.nodes in
        let y = made_as t (nodes_of sc base u ++ nodes_of sc (base + expression_size u) o.tree) (noted (D.next_arm (last_of base (expression_size u)) (last_of (base + expression_size u) (expression_size o.tree))) D.nowhere)
        (expression_size u + expression_size o.tree) z (sym (append_assoc (nodes_of sc base u) (nodes_of sc (base + expression_size u) o.tree) (noted (D.next_arm (last_of base (expression_size u)) (last_of (base + expression_size u) (expression_size o.tree))) D.nowhere ∷ []))) refl
        (o.pending.records ∙ ap (λ (c : Held). with_nodes c (nodes_of sc s.nodes o.tree)) p.records ∙ sym (nodes-append q (nodes_of sc base u) (nodes_of sc s.nodes o.tree)) ∙ ap (λ (c : ℕ). with_nodes q (nodes_of sc base u ++ nodes_of sc c o.tree)) p.nodes)
        (k ∙ omega arith) (arm-bytes (f ∙ ap (λ (c : ℕ). c - 1) p.nodes) (ap (λ (c : ℕ). c - 1) k)) refl o.nesting (record { seen = o.here.seen; names = o.here.names })
        (λ K b. (e.done d₁ h.seen l).1 (ask expression ∷ make tree_steps.make_next_arm ∷ K) (pushed u b) ∙ o.course (make tree_steps.make_next_arm ∷ K) (pushed u b)
        ∙ makes-it text tree_steps.make_next_arm K r'.next (pushed o.tree (pushed u b)) (pushed t b) r'.state (λ c. refl)) in
        (y.0, (λ _ c. ap arms_of (y.1 _ c)), grown z s (omega (arith, k, p.nodes)))

-- ---- Arms with their number.

module _ {text : List ℕ} {sc : Scope} {P : Stack} {pre : Built → Built} {h : Held} {base depth : ℕ} {w : Word} {s : State} {work : List ℕ} where
  counted-ok : {a : Armed} → (y : Read text sc P [] pre h base depth w s a.reached work) → a.count ≡ arms_of y.tree % 65536 → Counted text sc P pre h base depth w s (Ok a) work
  counted-ok y n = record {
    done = λ d. at_ok (λ a. (y : Read text sc P [] pre h base depth w s a.reached work) × (a.count ≡ arms_of y.tree % 65536)) d (y, n);
    refused = λ f d. ok_err d;
    full = λ d. ok_err d;
  }

  counted-not : {u : Unread} {P₁ Q₁ : Stack} {pre₁ : Built → Built} {h₁ : Held} {base₁ depth₁ : ℕ} {w₁ : Word} {s₁ : State} → Says text sc P₁ Q₁ pre₁ h₁ base₁ depth₁ w₁ s₁ (Err u) work
      → (M : Stack → Stack) (mid : Built → Built) → ((K : Stack) (b : Built) → runs text (P ++ K) w (pre b) s ≡ runs text (P₁ ++ M K) w₁ (pre₁ (mid b)) s₁) → Counted text sc P pre h base depth w s (Err u) work
  counted-not x M mid g = record { done = λ d. ok_err (sym d); refused = λ f d K b. g K b ∙ x.refused f (err_as d) (M K) (mid b); full = λ d. x.full (err_as d) }

  uncounted : {u : Unread} {P₁ Q : Stack} {pre₁ : Built → Built} {h₁ : Held} {base₁ depth₁ : ℕ} {w₁ : Word} {s₁ : State} → Counted text sc P₁ pre₁ h₁ base₁ depth₁ w₁ s₁ (Err u) work
      → (M : Stack → Stack) (mid : Built → Built) → ((K : Stack) (b : Built) → runs text (P ++ K) w (pre b) s ≡ runs text (P₁ ++ M K) w₁ (pre₁ (mid b)) s₁) → Says text sc P Q pre h base depth w s (Err u) work
  uncounted x M mid g = record { done = λ d. ok_err (sym d); refused = λ f d K b. g K b ∙ x.refused f (err_as d) (M K) (mid b); full = λ d. x.full (err_as d) }

-- ---- Further arms.

one_more : (n : ℕ) → (n % 65536 + 1) % 65536 ≡ suc n % 65536
one_more n =
    let e : suc n ≡ n % 65536 + 1 + n / 65536 * 65536 = omega arith in
    sym (ap (λ (k : ℕ). k % 65536) e ∙ add-mul-mod_self_right (n % 65536 + 1) (n / 65536) 65536)

-- The machine stands before further arms, with more of them; their number is counted modulo 65,536, as a record has it.
pub record Armings (case : Bool) (text : List ℕ) (w : Word) (s : State) (work : List ℕ) (n : ℕ) (next : Word) (state : State) (work' : List ℕ) (count turn : ℕ) : Type 0 where
  pub reads : (sc : Scope) → Here text sc w s work → (h : Held) (base : ℕ) (t : Expression) → Pending sc h base t s work
      → Read text sc (more_stack case) (more_stack case) (pushed t) h base s.nesting w s (stayed state next) work'
  pub counts : (sc : Scope) (i : Here text sc w s work) (h : Held) (base : ℕ) (t : Expression) (p : Pending sc h base t s work) → n ≡ arms_of t % 65536 → count ≡ arms_of (reads sc i h base t p).tree % 65536
  pub room : (sc : Scope) → Here text sc w s work → (h : Held) (base : ℕ) (t : Expression) → Pending sc h base t s work → s.nodes + turn ≤ state.nodes

pub armings-begin : (case : Bool) {text : List ℕ} {w : Word} {s : State} {work : List ℕ} {n : ℕ} → Armings case text w s work n w s work n 0
armings-begin case = record {
  reads = λ sc h q base t p. record { tree = t; course = λ K b. refl; pending = p; nesting = refl; here = h };
  counts = λ sc i q base t p e. e;
  room = λ sc h q base t p. omega arith;
}

no-further : (text : List ℕ) (w : Word) → Seen text w → (case : Bool) → another case (kind_no w.kind) ≡ false → (K : Stack) (b : Built) (c : Counts)
    → runs_on text (more_stack case ++ K) (ahead text w) b c ≡ runs_on text K (ahead text w) b c
no-further text w z false e K b c = refl
no-further text w z true e K b c = no_more text w z b c (λ q. true≢false (sym (eq-eqb (kind_no w.kind) do_word q) ∙ e)) K

further : (text : List ℕ) (w : Word) → Seen text w → (case : Bool) → another case (kind_no w.kind) ≡ true → (K : Stack) (b : Built) (c : Counts)
    → runs_on text (more_stack case ++ K) (ahead text w) b c ≡ runs_on text (word do_word level ∷ ask expression ∷ make tree_steps.make_next_arm ∷ (more_stack case ++ K)) (ahead text w) b c
further text w z false e K b c = absurd (true≢false (sym e))
further text w z true e K b c = more-taken text w z b c (eqb-true (kind_no w.kind) do_word e) K

module _ (case : Bool) {text : List ℕ} {w : Word} {s : State} {work : List ℕ} {n : ℕ} {next : Word} {state : State} {work₁ : List ℕ} {count turn : ℕ} (v : Armings case text w s work n next state work₁ count turn) where
  pub armings-end : another case (kind_no next.kind) ≡ false → MoreArms case n text w s work work₁ (Ok (record { reached = stayed state next; count = count }))
  armings-end e sc h q base t p i =
      let o = v.reads sc h q base t p in
      counted-ok (record {
        tree = o.tree;
        course = λ K b. o.course K b ∙ no-further text next o.here.seen case e K (pushed o.tree b) (counts_of state);
        pending = o.pending;
        nesting = o.nesting;
        here = o.here;
      }) (v.counts sc h q base t p i)

  pub armings-full : most_nodes ≤ turn → MoreArms case n text w s work work₁ (Err (Full state))
  armings-full e sc h q base t p i = record { done = λ d. ok_err (sym d); refused = λ f d. refused_full (sym d); full = λ d. at_full (λ z. most_nodes ≤ z.nodes) d (omega (arith, v.room sc h q base t p, e)) }

  module _ (e : another case (kind_no next.kind) ≡ true) {i : State} (g : i ≡ at_nesting state s.nesting) {work₂ : List ℕ} {r : Answer} (x₀ : NextArm do_word text next i work₁ work₂ r) where
    armed : (sc : Scope) (h : Here text sc w s work) (q : Held) (base : ℕ) (t : Expression) (p : Pending sc q base t s work)
        → (x : Says text sc (word do_word level ∷ ask expression ∷ make tree_steps.make_next_arm ∷ []) [] (pushed (v.reads sc h q base t p).tree) q base state.nesting next state r work₂)
        × ((r' : Reached) (d : r ≡ Ok r') → arms_of (x.done d).tree ≡ suc (arms_of (v.reads sc h q base t p).tree)) × Grows state r
    armed sc h q base t p =
        let o = v.reads sc h q base t p in
        let j : i ≡ state = g ∙ at_same state s.nesting o.nesting in
        let x : NextArm do_word text next state work₁ work₂ r = rw j at x₀ in
        x sc o.here (omega arith) q base o.tree o.pending

    pub armings-more : {r' : Reached} → r ≡ Ok r' → {c : ℕ} → c ≡ (count + 1) % 65536 → Armings case text w s work n r'.next r'.state work₂ c (turn + 1)
    armings-more {r' = r'} d {c} f = record { reads = go; counts = number; room = λ sc h q base t p. omega (arith, v.room sc h q base t p, ((armed sc h q base t p).2 _ d).0) }
      where
        go : (sc : Scope) → Here text sc w s work → (q : Held) (base : ℕ) (t : Expression) → Pending sc q base t s work
            → Read text sc (more_stack case) (more_stack case) (pushed t) q base s.nesting w s (stayed r'.state r'.next) work₂
        go sc h q base t p =
            let o = v.reads sc h q base t p in
            let y = (armed sc h q base t p).0.done d in
            record {
              tree = y.tree;
              course = λ K b. o.course K b ∙ further text next o.here.seen case e K (pushed o.tree b) (counts_of state) ∙ y.course (more_stack case ++ K) b;
              pending = record { records = y.pending.records; nodes = y.pending.nodes };
              nesting = y.nesting ∙ o.nesting;
              here = record { seen = y.here.seen; names = y.here.names };
            }

        number : (sc : Scope) (h : Here text sc w s work) (q : Held) (base : ℕ) (t : Expression) (p : Pending sc q base t s work) → n ≡ arms_of t % 65536 → c ≡ arms_of ((armed sc h q base t p).0.done d).tree % 65536
        number sc h q base t p k =
            let a = v.counts sc h q base t p k in
            f ∙ ap (λ (z : ℕ). (z + 1) % 65536) a ∙ one_more (arms_of (v.reads sc h q base t p).tree) ∙ ap (λ (z : ℕ). z % 65536) (sym ((armed sc h q base t p).1 _ d))

  module _ (e : another case (kind_no next.kind) ≡ true) {i : State} (g : i ≡ at_nesting state s.nesting) {work₂ : List ℕ} {u : Unread} (x₀ : NextArm do_word text next i work₁ work₂ (Err u)) where
    pub armings-not : MoreArms case n text w s work work₂ (Err u)
    armings-not sc h q base t p k =
        let o = v.reads sc h q base t p in
        counted-not (armed e g x₀ sc h q base t p).0 (λ K. more_stack case ++ K) (λ b. b) (λ K b. o.course K b ∙ further text next o.here.seen case e K (pushed o.tree b) (counts_of state))

-- ---- All arms.

module _ (case : Bool) {text : List ℕ} {w : Word} {s : State} {work work₁ : List ℕ} {sep : ℕ} (a : sep ≡ first_word case) {f : Answer} (x₀ : FirstArm sep text w s work work₁ f) where
  one_arm : (sc : Scope) → Here text sc w s work
      → (x : Says text sc (word (first_word case) level ∷ ask expression ∷ make tree_steps.make_first_arm ∷ []) [] (λ b. b) (held s.nodes work) s.nodes s.nesting w s f work₁) × ((f' : Reached) (d : f ≡ Ok f') → arms_of (x.done d).tree ≡ 1)
  one_arm sc h = let x : FirstArm (first_word case) text w s work work₁ f = rw a at x₀ in x sc h (separators case)

  module _ {f' : Reached} (d₁ : f ≡ Ok f') {i : State} (g : i ≡ at_nesting f'.state s.nesting) {sep₂ : ℕ} (c : sep₂ ≡ other_word case) {work₂ : List ℕ} {o : Answer} (y₀ : NextArm sep₂ text f'.next i work₁ work₂ o) where
    two-arms : (sc : Scope) (h : Here text sc w s work)
        → (y : Says text sc (word (other_word case) level ∷ ask expression ∷ make tree_steps.make_next_arm ∷ []) [] (pushed ((one_arm sc h).0.done d₁).tree) (held s.nodes work) s.nodes f'.state.nesting f'.next f'.state o work₂)
        × ((o' : Reached) (d : o ≡ Ok o') → arms_of (y.done d).tree ≡ suc (arms_of ((one_arm sc h).0.done d₁).tree)) × Grows f'.state o
    two-arms sc h =
        let r = (one_arm sc h).0.done d₁ in
        let j : i ≡ f'.state = g ∙ at_same f'.state s.nesting r.nesting in
        let y : NextArm (other_word case) text f'.next f'.state work₁ work₂ o = rw (j, c) at y₀ in
        y sc r.here (others case) (held s.nodes work) s.nodes r.tree r.pending

    pub arms-says : {o' : Reached} (d₂ : o ≡ Ok o') → {k : State} → k ≡ at_nesting o'.state s.nesting → {work₃ : List ℕ} {m : Result Armed Unread} → MoreArms case 2 text o'.next k work₂ work₃ m → Arms case text w s work work₃ m
    arms-says {o' = o'} d₂ {k} u {work₃} {m} z₀ sc h =
        let r = (one_arm sc h).0.done d₁ in
        let y = two-arms sc h in
        let q = y.0.done d₂ in
        let e : o'.state.nesting ≡ s.nesting = q.nesting ∙ r.nesting in
        let j : k ≡ o'.state = u ∙ at_same o'.state s.nesting e in
        let z₁ : MoreArms case 2 text o'.next o'.state work₂ work₃ m = rw j at z₀ in
        let l : 2 ≡ arms_of q.tree % 65536 = ap (λ (v : ℕ). v % 65536) (sym (y.1 _ d₂ ∙ ap suc ((one_arm sc h).1 _ d₁))) in
        let z = z₁ sc q.here (held s.nodes work) s.nodes q.tree q.pending l in
        record {
          done = λ d. let v = z.done d in (
            record {
              tree = v.0.tree;
              course = λ K b. r.course (word (other_word case) level ∷ ask expression ∷ make tree_steps.make_next_arm ∷ (more_stack case ++ K)) b ∙ q.course (more_stack case ++ K) b ∙ v.0.course K b;
              pending = v.0.pending;
              nesting = v.0.nesting ∙ e;
              here = v.0.here;
            },
            v.1,
          );
          refused = λ v d K b. r.course (word (other_word case) level ∷ ask expression ∷ make tree_steps.make_next_arm ∷ (more_stack case ++ K)) b ∙ q.course (more_stack case ++ K) b ∙ z.refused v d K b;
          full = z.full;
        }

-- An arm that is not read.
module _ (case : Bool) {text : List ℕ} {w : Word} {s : State} {work work₁ : List ℕ} {sep : ℕ} (a : sep ≡ first_word case) where
  pub arms_none : {u : Unread} → FirstArm sep text w s work work₁ (Err u) → Arms case text w s work work₁ (Err u)
  arms_none x sc h = counted-not (one_arm case a x sc h).0 (λ K. word (other_word case) level ∷ ask expression ∷ make tree_steps.make_next_arm ∷ (more_stack case ++ K)) (λ b. b) (λ K b. refl)

  pub arms-one : {f : Reached} (x : FirstArm sep text w s work work₁ (Ok f)) {i : State} → i ≡ at_nesting f.state s.nesting → {sep₂ : ℕ} → sep₂ ≡ other_word case → {work₂ : List ℕ} {u : Unread} → NextArm sep₂ text f.next i work₁ work₂ (Err u)
      → Arms case text w s work work₂ (Err u)
  arms-one x g c y sc h =
      let r = (one_arm case a x sc h).0.done refl in
      counted-not (two-arms case a x refl g c y sc h).0 (λ K. more_stack case ++ K) (λ b. b) (λ K b. r.course (word (other_word case) level ∷ ask expression ∷ make tree_steps.make_next_arm ∷ (more_stack case ++ K)) b)

-- ---- A conditional.

choice-term : (text : List ℕ) (w : Word) → Seen text w → (b : Built) (s : State) (case : Bool) → kind_no w.kind ≡ choice_word case → (K : Stack)
    → runs text (ask term ∷ K) w b s
    ≡ on_taken text w (ask expression ∷ (arm_stack case ++ (word (last_word case) closes ∷ make tree_steps.make_choice ∷ K))) (keep_word (L.sign (choice_word case) (positioned w.at)) b) (after_word true Opens s)
choice-term text w z b s false e K = if-term text w z b (counts_of s) e K
choice-term text w z b s true e K = case-term text w z b (counts_of s) e K

choice-bytes : {a a' b b' : ℕ} (n : ℕ) {m : ℕ} → a ≡ a' → b ≡ b' → m ≡ n % 65536 → node_bytes (D.choice a b m) ≡ node_bytes (D.choice a' b' n)
unfolding node_bytes
choice-bytes n e f g = rw (e, f, g, two-low n)

module _ {text : List ℕ} {w : Word} {s : State} {work : List ℕ} (case : Bool) (e : kind_no w.kind ≡ choice_word case) {t : Answer} (x : Took text w (after_word true Opens s) s t) where
  pub choice-not : {work' : List ℕ} → IsErr t → Parses (ask term ∷ []) same s.nesting text w s work work' t
  choice-not n sc h =
      not_taken x n (λ K. ask expression ∷ (arm_stack case ++ (word (last_word case) closes ∷ make tree_steps.make_choice ∷ K))) (keep_word (L.sign (choice_word case) (positioned w.at))) (λ K b. choice-term text w h.seen b s case e K)

  module _ {t' : Reached} (d₁ : t ≡ Ok t') {work₁ : List ℕ} {c : Answer} (y : Parses (ask expression ∷ []) same t'.state.nesting text t'.next t'.state work work₁ c) where
    condition : (sc : Scope) → Here text sc w s work → Says text sc (ask expression ∷ []) [] (λ b. b) (held s.nodes work) s.nodes t'.state.nesting t'.next t'.state c work₁
    condition sc h = from-kept work t'.state.nodes s.nodes t'.state.nesting t'.state.nesting (x.done d₁).kept.nodes refl (y sc (here-passed h (x.done d₁)))

    condition-course : {sc : Scope} → Here text sc w s work → (K : Stack) (b : Built)
        → runs text (ask term ∷ K) w b s ≡ runs text (ask expression ∷ (arm_stack case ++ (word (last_word case) closes ∷ make tree_steps.make_choice ∷ K))) t'.next (keep_word (L.sign (choice_word case) (positioned w.at)) b) t'.state
    condition-course h K b =
        choice-term text w h.seen b s case e K ∙ took-done (x.done d₁) h.seen (ask expression ∷ (arm_stack case ++ (word (last_word case) closes ∷ make tree_steps.make_choice ∷ K))) (keep_word (L.sign (choice_word case) (positioned w.at)) b)

    pub condition-not : IsErr c → Parses (ask term ∷ []) same s.nesting text w s work work₁ c
    condition-not n sc h =
        passed (condition sc h) n (λ K. arm_stack case ++ (word (last_word case) closes ∷ make tree_steps.make_choice ∷ K)) (keep_word (L.sign (choice_word case) (positioned w.at))) (condition-course h)

    module _ {c' : Reached} (d₂ : c ≡ Ok c') {i : State} (g : i ≡ at_nesting c'.state t'.state.nesting) {work₂ : List ℕ} {a : Result Armed Unread} (z₀ : Arms case text c'.next i work₁ work₂ a) where
      branches : (sc : Scope) (h : Here text sc w s work)
          → Counted text sc (arm_stack case) (λ b. b) (held c'.state.nodes work₁) c'.state.nodes c'.state.nesting c'.next c'.state a work₂
      branches sc h =
          let o = (condition sc h).done d₂ in
          let j : i ≡ c'.state = g ∙ at_same c'.state t'.state.nesting o.nesting in
          let z : Arms case text c'.next c'.state work₁ work₂ a = rw j at z₀ in
          z sc o.here

      branch-course : (sc : Scope) (h : Here text sc w s work) (K : Stack) (b : Built)
          → runs text (ask term ∷ K) w b s
          ≡ runs text (arm_stack case ++ (word (last_word case) closes ∷ make tree_steps.make_choice ∷ K)) c'.next (pushed ((condition sc h).done d₂).tree (keep_word (L.sign (choice_word case) (positioned w.at)) b)) c'.state
      branch-course sc h K b =
          condition-course h K b ∙ ((condition sc h).done d₂).course (arm_stack case ++ (word (last_word case) closes ∷ make tree_steps.make_choice ∷ K)) (keep_word (L.sign (choice_word case) (positioned w.at)) b)

      module _ {a' : Armed} (d₃ : a ≡ Ok a') {k : ℕ} (l : k ≡ last_word case) {f : Answer} (u₀ : Expected text k Closes a'.reached.next a'.reached.state f) where
        u : Expected text (last_word case) Closes a'.reached.next a'.reached.state f
        u = rw l at u₀

        last-course : (sc : Scope) (h : Here text sc w s work) (K : Stack) (b : Built)
            → runs text (ask term ∷ K) w b s
            ≡ runs text (word (last_word case) closes ∷ make tree_steps.make_choice ∷ K) a'.reached.next (pushed ((branches sc h).done d₃).0.tree (pushed ((condition sc h).done d₂).tree (keep_word (L.sign (choice_word case) (positioned w.at)) b))) a'.reached.state
        last-course sc h K b =
            branch-course sc h K b
            ∙ ((branches sc h).done d₃).0.course (word (last_word case) closes ∷ make tree_steps.make_choice ∷ K) (pushed ((condition sc h).done d₂).tree (keep_word (L.sign (choice_word case) (positioned w.at)) b))

        pub last-not : IsErr f → Parses (ask term ∷ []) same s.nesting text w s work work₂ f
        last-not n sc h =
            not-expected u n ((branches sc h).done d₃).0.here.seen (closers case) (λ K. make tree_steps.make_choice ∷ K)
            (λ b. pushed ((branches sc h).done d₃).0.tree (pushed ((condition sc h).done d₂).tree (keep_word (L.sign (choice_word case) (positioned w.at)) b))) (last-course sc h)

        pub choice-says : {f' : Reached} → f ≡ Ok f' → {m : ℕ} → m ≡ c'.state.nodes - 1 → {work₃ : List ℕ} {r : Answer} → gains (D.choice m (f'.state.nodes - 1) a'.count) (positioned w.at) f'.next f'.state work₂ work₃ r
            → Parses (ask term ∷ []) same s.nesting text w s work work₃ r
        unfolding nodes_of expression_size word_no expression_no node_beside_bytes
        choice-says {f' = f'} d {m} p q sc h =
            let o = (condition sc h).done d₂ in
            let v = branches sc h in
            let b₁ = (v.done d₃).0 in
            let y₁ = u.done d b₁.here.seen (closers case) in
            let E = o.tree in
            let F = b₁.tree in
            let tree = T.choice (positioned w.at) E F in
            let n₁ : c'.state.nodes ≡ s.nodes + expression_size E = o.pending.nodes in
            let n₂ : f'.state.nodes ≡ s.nodes + expression_size E + expression_size F = y₁.0.kept.nodes ∙ b₁.pending.nodes ∙ ap (λ (j : ℕ). j + expression_size F) n₁ in
            let node = noted (D.choice (last_of s.nodes (expression_size E)) (last_of (s.nodes + expression_size E) (expression_size F)) (arms_of F)) (positioned w.at) in
            made tree (nodes_of sc s.nodes E ++ nodes_of sc (s.nodes + expression_size E) F) node (expression_size E + expression_size F) q
            (sym (append_assoc (nodes_of sc s.nodes E) (nodes_of sc (s.nodes + expression_size E) F) (node ∷ []))) refl
            (ap (λ (j : ℕ). held j work₂) y₁.0.kept.nodes ∙ b₁.pending.records ∙ ap (λ (j : Held). with_nodes j (nodes_of sc c'.state.nodes F)) o.pending.records ∙ sym (nodes-append (held s.nodes work) (nodes_of sc s.nodes E) (nodes_of sc c'.state.nodes F))
            ∙ ap (λ (j : ℕ). with_nodes (held s.nodes work) (nodes_of sc s.nodes E ++ nodes_of sc j F)) n₁)
            (n₂ ∙ omega arith) (choice-bytes (arms_of F) (p ∙ ap (λ (j : ℕ). j - 1) n₁) (ap (λ (j : ℕ). j - 1) n₂) (v.done d₃).1) refl
            (ap (λ (j : Counts). j.nesting) y₁.0.counts ∙ ap (λ (j : ℕ). j - 1) (b₁.nesting ∙ o.nesting ∙ ap (λ (j : Counts). j.nesting) (x.done d₁).counts) ∙ omega arith)
            (here-passed b₁.here y₁.0)
            (λ K b. last-course sc h K b ∙ y₁.1 (make tree_steps.make_choice ∷ K) (pushed F (pushed E (keep_word (L.sign (choice_word case) (positioned w.at)) b)))
            ∙ makes-it text tree_steps.make_choice K f'.next (pushed F (pushed E (keep_word (L.sign (choice_word case) (positioned w.at)) b))) (pushed tree b) f'.state (λ j. refl))

-- Arms that are not read.
pub branches-not : {text : List ℕ} {w : Word} {s : State} {work : List ℕ} (case : Bool) (e : kind_no w.kind ≡ choice_word case) {t c : Reached} (x : Took text w (after_word true Opens s) s (Ok t)) {work₁ : List ℕ}
    (y : Parses (ask expression ∷ []) same t.state.nesting text t.next t.state work work₁ (Ok c)) {i : State} (g : i ≡ at_nesting c.state t.state.nesting) {work₂ : List ℕ} {u : Unread}
    → Arms case text c.next i work₁ work₂ (Err u) → Parses (ask term ∷ []) same s.nesting text w s work work₂ (Err u)
branches-not {w = w} case e x y g z sc h =
    uncounted (branches case e x refl y refl g z sc h) (λ K. word (last_word case) closes ∷ make tree_steps.make_choice ∷ K)
    (λ b. pushed ((condition case e x refl y sc h).done refl).tree (keep_word (L.sign (choice_word case) (positioned w.at)) b)) (branch-course case e x refl y refl g z sc h)
