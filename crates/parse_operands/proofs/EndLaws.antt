-- The ends of a part.
use mathlib.Core.Bool.{Bool, true, true≢false}
use mathlib.Core.List.{List, ◌∷◌}
use mathlib.Core.Path.{◌≡◌, refl, sym, ap, ◌∙◌}
use Prim.Native.Nat.{ℕ, ◌-◌}
use native.Mathlib.Omega.{arith}
use borrow.Author.Tests.{eqb-true}
use lib.Dec.{eqb}
use Rattle.language.specs.Building.{Built, keep_word}
use Rattle.language.specs.Kinds.{a_constant, close_bracket, colon}
use Rattle.language.specs.Machine.{Counts, ask, closes, keep, make, word}
use Rattle.language.specs.Words as L
use Rattle.text_words.specs.declared.Word.{Word}
use Rattle.parse_step.specs.declared.Bearing.TheVariants.{Closes}
use Rattle.parse_step.specs.declared.State.{State}
use Rattle.parse_step.specs.Course.{Seen, Stack, ahead, behind, counts_of, kind_no, runs}
use Rattle.parse_step.specs.Taken.{Expected, Keeps, Took, colon_first, constant_word, ends_ahead}
use Rattle.parse_step.proofs.Ceilings.{both_true}
use Rattle.parse_step.proofs.Looking.{View, begun, ended, view}
use Rattle.parse_step.proofs.TakenWords.{on_taken, took-done, took-refused}
use Rattle.parse_operands.specs.declared.constants.EndsRead.{EndsRead}
use Rattle.parse_operands.specs.Brackets.{bracket_ask, bracket_make, bracket_rest, bracket_waits}
use Rattle.parse_operands.specs.Ended.{Closed, Ended, Through}
use Rattle.parse_operands.proofs.BracketWords.{colon-follows, constant-first}
use Rattle.parse_step.specs.declared.Reached.{Reached}
use Rattle.parse_step.specs.declared.Unread.{Unread}
use Rattle.parse_step.proofs.Answers.{at_ok, err_as, ok_err}
use Rattle.std.specs.Prelude.{Err, Ok, Result}

-- ---- A constant and a colon come.

pub ends-split : (text : List ℕ) (w : Word) → Seen text w → ends_ahead (ahead text w) ≡ true → (kind_no w.kind ≡ a_constant) × (colon_first (behind text w) ≡ true)
ends-split text w z e = go (view text w z)
  where
    go : View text w → (kind_no w.kind ≡ a_constant) × (colon_first (behind text w) ≡ true)
    go (ended x y j) = absurd (true≢false (sym (ap ends_ahead (sym x) ∙ e)))
    go (begun v x j y) = let t = both_true (eqb (L.kind_of v) a_constant) (colon_first (behind text w)) (ap ends_ahead (sym x) ∙ e) in (sym j ∙ eqb-true (L.kind_of v) a_constant t.0, t.1)

pub colon-kind : (text : List ℕ) (w : Word) → Seen text w → {vs : List L.Word} → ahead text w ≡ vs → colon_first vs ≡ true → kind_no w.kind ≡ colon
colon-kind text w z e f = go (view text w z) (ap colon_first e ∙ f)
  where
    go : View text w → colon_first (ahead text w) ≡ true → kind_no w.kind ≡ colon
    go (ended x y j) g = absurd (true≢false (sym (ap colon_first (sym x) ∙ g)))
    go (begun v x j y) g = sym j ∙ eqb-true (L.kind_of v) colon (ap colon_first (sym x) ∙ g)

-- ---- The second end and the bracket.

pub closed-not : {text : List ℕ} {w : Word} {s : State} {e : Unread} → Keeps text w s (Err e) → Closed text w s (Err e)
closed-not k = record {
  done = λ d. ok_err (sym d);
  refused = λ f d z K b. k.refused f (err_as d) z (word close_bracket closes ∷ K) b;
  full = λ d. k.full (err_as d);
}

module _ {text : List ℕ} {w : Word} {s : State} {r : Reached} (k : Keeps text w s (Ok r)) where
  pub closed-open : {e : Unread} → Expected text close_bracket Closes r.next r.state (Err e) → Closed text w s (Err e)
  closed-open x = record {
    done = λ d. ok_err (sym d);
    refused = λ f d z K b. let q = k.done refl z in q.course (word close_bracket closes ∷ K) b ∙ x.refused f (err_as d) q.seen (omega arith) K (keep_word (constant_word w) b);
    full = λ d. x.full (err_as d);
  }

  pub closed-says : {a : Reached} → Expected text close_bracket Closes r.next r.state (Ok a) → Closed text w s (Ok (record { reached = a; last = w }))
  closed-says {a} x = record { done = λ d. at_ok Reads d reads; refused = λ f d. ok_err d; full = λ d. ok_err d }
    where
      Reads : EndsRead → Type 0
      Reads e = Seen text w → Through text s e
          × ((K : Stack) (b : Built) → runs text (keep a_constant ∷ word close_bracket closes ∷ K) w b s ≡ runs text K e.reached.next (keep_word (constant_word e.last) b) e.reached.state)

      reads : Reads (record { reached = a; last = w })
      reads z = let q = k.done refl z in
          let y = x.done refl q.seen (omega arith) in
          let v = q.state in (
            record {
              seen = y.0.seen;
              nesting = ap (λ (c : Counts). c.nesting) y.0.counts ∙ ap (λ (t : State). t.nesting - 1) v;
              nodes = y.0.kept.nodes ∙ ap (λ (t : State). t.nodes) v;
              known = y.0.kept.known ∙ ap (λ (t : State). t.known) v;
            },
            λ K b. q.course (word close_bracket closes ∷ K) b ∙ y.1 K (keep_word (constant_word w) b),
          )

-- ---- From the first end on.

first-course : (s : State) {text : List ℕ} {w : Word} → Seen text w → ends_ahead (ahead text w) ≡ true → (q : Bool) (K : Stack) (b : Built)
    → runs text (ask (bracket_ask q) ∷ K) w b s ≡ on_taken text w (ask (bracket_waits q) ∷ ask (bracket_rest q) ∷ K) (keep_word (constant_word w) b) (counts_of s)
first-course s {text} {w} z e q K b = constant-first text w z b (counts_of s) (ends-split text w z e).0 q K

module _ {text : List ℕ} {w : Word} {s : State} where
  pub ended-not : {e : Unread} → Took text w (counts_of s) s (Err e) → Ended text w s (Err e)
  ended-not x = record {
    done = λ d. ok_err (sym d);
    refused = λ f d z e q K b. first-course s z e q K b ∙ took-refused x f (err_as d) (ask (bracket_waits q) ∷ ask (bracket_rest q) ∷ K) (keep_word (constant_word w) b);
    full = λ d. x.full (err_as d);
  }

  module _ {t : Reached} (x : Took text w (counts_of s) s (Ok t)) where
    second-course : Seen text w → ends_ahead (ahead text w) ≡ true → (q : Bool) (K : Stack) (b : Built)
        → runs text (ask (bracket_ask q) ∷ K) w b s ≡ on_taken text t.next (keep a_constant ∷ word close_bracket closes ∷ make (bracket_make q) ∷ K) (keep_word (constant_word w) b) (counts_of t.state)
    second-course z e q K b =
        let p = x.done refl in
        first-course s z e q K b ∙ took-done p z (ask (bracket_waits q) ∷ ask (bracket_rest q) ∷ K) (keep_word (constant_word w) b)
        ∙ colon-follows text t.next p.seen (keep_word (constant_word w) b) (counts_of t.state) (colon-kind text t.next p.seen (p.words z) (ends-split text w z e).1) q K

    pub colon-not : {e : Unread} → Took text t.next (counts_of t.state) t.state (Err e) → Ended text w s (Err e)
    colon-not y = record {
      done = λ d. ok_err (sym d);
      refused = λ f d z e q K b. second-course z e q K b ∙ took-refused y f (err_as d) (keep a_constant ∷ word close_bracket closes ∷ make (bracket_make q) ∷ K) (keep_word (constant_word w) b);
      full = λ d. y.full (err_as d);
    }

    module _ {u : Reached} (y : Took text t.next (counts_of t.state) t.state (Ok u)) {r : Result EndsRead Unread} (c : Closed text u.next u.state r) where
      third-course : Seen text w → ends_ahead (ahead text w) ≡ true → (q : Bool) (K : Stack) (b : Built)
          → runs text (ask (bracket_ask q) ∷ K) w b s ≡ runs text (keep a_constant ∷ word close_bracket closes ∷ make (bracket_make q) ∷ K) u.next (keep_word (constant_word w) b) u.state
      third-course z e q K b =
          second-course z e q K b ∙ took-done (y.done refl) (x.done refl).seen (keep a_constant ∷ word close_bracket closes ∷ make (bracket_make q) ∷ K) (keep_word (constant_word w) b)

      pub ended-says : Ended text w s r
      ended-says = record {
        done = λ d z e. let g = y.done refl in
            let i = c.done d g.seen in
            let p = x.done refl in (
              record {
                seen = i.0.seen;
                nesting = i.0.nesting ∙ ap (λ (v : ℕ). v - 1) (ap (λ (v : Counts). v.nesting) g.counts ∙ ap (λ (v : Counts). v.nesting) p.counts);
                nodes = i.0.nodes ∙ g.kept.nodes ∙ p.kept.nodes;
                known = i.0.known ∙ g.kept.known ∙ p.kept.known;
              },
              λ q K b. third-course z e q K b ∙ i.1 (make (bracket_make q) ∷ K) (keep_word (constant_word w) b),
            );
        refused = λ f d z e q K b. third-course z e q K b ∙ c.refused f d (y.done refl).seen (make (bracket_make q) ∷ K) (keep_word (constant_word w) b);
        full = c.full;
      }
