-- Leaves of the descent: RED, the parts of references.
use mathlib.Core.Bool.{true, false}
use mathlib.Core.List.{List, [], ◌∷◌, ◌++◌, append-nil}
use mathlib.Core.Path.{◌≡◌, refl, sym, ap, ◌∙◌}
use Prim.Native.Nat.{ℕ, ◌+◌, ◌-◌}
use native.Mathlib.Omega.{arith}
use Rattle.language.specs.Building.{expression_no, keep_word, word_no}
use Rattle.language.specs.Declaring.{tree_steps}
use Rattle.language.specs.Describe.{expression_size, last_of, nodes_of}
use Rattle.language.specs.Description as D
use Rattle.language.specs.Encode.{concat, node_bytes}
use Rattle.language.specs.Kinds.{red_word}
use Rattle.language.specs.Machine.{Counts, ask, second, subscript}
use Rattle.language.specs.Naming.{Scope}
use Rattle.language.specs.Tree as T
use Rattle.language.specs.Tree.{Expression}
use Rattle.text_words.specs.declared.Word.{Word}
use Rattle.text_words.specs.Meaning.{positioned}
use Rattle.parse_tables.specs.Names.{facility_names}
use Rattle.parse_array.specs.Held.{Held, held, with_nodes}
use Rattle.parse_step.specs.declared.Bearing.TheVariants.{Level}
use Rattle.parse_step.specs.declared.State.{State}
use Rattle.parse_step.specs.Course.{Seen, Stack, ahead, runs}
use Rattle.parse_step.specs.Gained.{Gained}
use Rattle.parse_step.specs.Says.{Here, Pending, Says, pushed}
use Rattle.parse_step.specs.Taken.{Expected, constant_word, ends_ahead}
use Rattle.parse_step.proofs.Saying.{made, makes-it}
use Rattle.parse_levels.specs.declared.Lead.{Lead}
use Rattle.parse_levels.specs.declared.Lead.TheVariants as H
use Rattle.parse_levels.specs.Orders.{prefix_level, prefix_stack, stack_of}
use Rattle.parse_operands.specs.declared.constants.EndsRead.{EndsRead}
use Rattle.parse_operands.specs.Ended.{Ended}
use Rattle.parse_operands.specs.References.{Adds, ends_of, letters_of, part_of, word_part_of}
use Rattle.parse_expressions.specs.Phrases.{Operand, Unprefixed, after_name, stayed}
use Rattle.parse_step.specs.Answers.{Answer}
use Rattle.parse_step.specs.declared.Unread.{Unread}
use Rattle.parse_step.proofs.Answers.{at_ok, err_as, ok_err}
use Rattle.std.specs.Prelude.{Err, Ok}

-- ---- RED, or nothing.

pub unprefixed : {text : List ℕ} {w : Word} {s : State} (h : Lead) → ((K : Stack) → ◌≡◌ {A = Stack} (prefix_stack h ++ K) (stack_of (prefix_level h) ++ K)) → Unprefixed h text w s (Ok (stayed s w))
unprefixed {text} {w} {s} h f = record {
  done = λ d. at_ok (λ x. Seen text w → Operand h text w s x) d (λ z. record { course = λ K b. ap (λ (M : Stack). runs text M w b s) (f K); nesting = refl; kept = record { nodes = refl; actions = refl; known = refl }; seen = z });
  refused = λ g d. ok_err d;
  full = λ d. ok_err d;
}

pub red-prefixed : {text : List ℕ} {w : Word} {s : State} {r : Answer} → Expected text red_word Level w s r → Unprefixed H.Reduction text w s r
red-prefixed {text} {w} {s} x = record {
  done = λ d z. let y = x.done d z (omega arith) in
      record { course = λ K b. y.1 (stack_of (prefix_level H.Reduction) ++ K) b; nesting = ap (λ (c : Counts). c.nesting) y.0.counts; kept = y.0.kept; seen = y.0.seen };
  refused = λ f d z K b. x.refused f d z (omega arith) (stack_of (prefix_level H.Reduction) ++ K) b;
  full = x.full;
}

-- ---- Nothing written.

pub with_nothing : (h : Held) → h ≡ with_nodes h []
unfolding with_nodes concat
with_nothing h = rw (append-nil h.nodes, append-nil h.places)

pub plus-nothing : (n : ℕ) → n ≡ n + 0
plus-nothing n = omega arith

-- ---- Parts.

module _ {text : List ℕ} {sc : Scope} {w : Word} {s : State} {work work' : List ℕ} (name : Word) (g : ends_ahead (ahead text w) ≡ true) (h : Here text sc w s work) where
  pub part-not : {e : Unread} → Ended text w s (Err e) → Says text sc (ask subscript ∷ []) [] (after_name name text) (held s.nodes work) s.nodes (s.nesting - 1) w s (Err e) work'
  part-not x = record {
    done = λ d. ok_err (sym d);
    refused = λ f d K b. x.refused f (err_as d) h.seen g false K (after_name name text b);
    full = λ d. absurd (x.full (err_as d));
  }

  pub part_says : {e : EndsRead} → Ended text w s (Ok e) → {r : Answer} → Adds (part_of text name w e.last) text e.reached.next e.reached.state work work' r
      → Says text sc (ask subscript ∷ []) [] (after_name name text) (held s.nodes work) s.nodes (s.nesting - 1) w s r work'
  unfolding nodes_of expression_size word_no expression_no
  part_says {e} x y =
      let o = x.done refl h.seen g in
      let i = o.0 in
      let j = h.names ∙ ap (facility_names text work) (sym i.known) in
      let t = T.part (letters_of text name) (positioned name.at) (ends_of w e.last) in
      made t [] (part_of text name w e.last sc) 0 (y sc j) refl refl (ap (λ (n : ℕ). held n work) i.nodes ∙ with_nothing (held s.nodes work)) (i.nodes ∙ plus-nothing s.nodes) refl refl i.nesting
      (record { seen = i.seen; names = j })
      (λ K b. o.1 false K (after_name name text b)
      ∙ makes-it text tree_steps.make_part K e.reached.next (keep_word (constant_word e.last) (keep_word (constant_word w) (after_name name text b))) (pushed t b) e.reached.state (λ q. refl))

  module _ {q : Held} {base : ℕ} {u : Expression} (p : Pending sc q base u s work) where
    pub word-part-not : {e : Unread} → Ended text w s (Err e) → Says text sc (ask second ∷ []) [] (λ b. pushed u (after_name name text b)) q base (s.nesting - 1) w s (Err e) work'
    word-part-not x = record {
      done = λ d. ok_err (sym d);
      refused = λ f d K b. x.refused f (err_as d) h.seen g true K (pushed u (after_name name text b));
      full = λ d. absurd (x.full (err_as d));
    }

    pub word-part-says : {e : EndsRead} → Ended text w s (Ok e) → {m : ℕ} → m ≡ e.reached.state.nodes - 1 → {r : Answer} → Adds (word_part_of text name m w e.last) text e.reached.next e.reached.state work work' r
        → Says text sc (ask second ∷ []) [] (λ b. pushed u (after_name name text b)) q base (s.nesting - 1) w s r work'
    unfolding nodes_of expression_size word_no expression_no
    word-part-says {e} x {m} k y =
        let o = x.done refl h.seen g in
        let i = o.0 in
        let j = h.names ∙ ap (facility_names text work) (sym i.known) in
        let t = T.word_part (letters_of text name) (positioned name.at) u (ends_of w e.last) in
        let l : m ≡ last_of base (expression_size u) = k ∙ ap (λ (n : ℕ). n - 1) (i.nodes ∙ p.nodes) in
        made t (nodes_of sc base u) (word_part_of text name m w e.last sc) (expression_size u) (y sc j) (ap (λ (n : ℕ). nodes_of sc base u ++ word_part_of text name n w e.last sc ∷ []) (sym l)) refl
        (ap (λ (n : ℕ). held n work) i.nodes ∙ p.records) (i.nodes ∙ p.nodes) refl refl i.nesting
        (record { seen = i.seen; names = j })
        (λ K b. o.1 true K (pushed u (after_name name text b))
        ∙ makes-it text tree_steps.make_word_part K e.reached.next (keep_word (constant_word e.last) (keep_word (constant_word w) (pushed u (after_name name text b)))) (pushed t b) e.reached.state (λ v. refl))

-- ---- Records of operators.

pub binary-as : {k k' a a' b b' : ℕ} → k ≡ k' → a ≡ a' → b ≡ b' → node_bytes (D.binary k a b) ≡ node_bytes (D.binary k' a' b')
binary-as d e f = rw (d, e, f)

pub prefix-as : {k k' a a' : ℕ} → k ≡ k' → a ≡ a' → node_bytes (D.prefix k a) ≡ node_bytes (D.prefix k' a')
prefix-as e f = rw (e, f)

pub gained-at : {next : Word} {s s' : State} {bs bs' ps ps' w w' : List ℕ} {r : Answer} → Gained next s bs ps w w' r → s ≡ s' → bs ≡ bs' → ps ≡ ps' → Gained next s' bs' ps' w w' r
gained-at g e p q = rw (← e, ← p, ← q) g
