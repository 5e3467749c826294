-- Lists of actions: one action, and another behind each comma.
use mathlib.Core.Bool.{Bool, true, false}
use mathlib.Core.List.{List, [], ◌∷◌}
use mathlib.Core.Path.{refl, ◌≡◌, sym, ap, ◌∙◌}
use Prim.Native.Nat.{ℕ, ◌+◌, ◌≤◌}
use native.Mathlib.Omega.{arith}
use borrow.Author.Tests.{eqb-false, eqb-true}
use lib.Dec.{eqb}
use Rattle.parse_step.proofs.Ceilings.{few-counted}
use Rattle.parse_step.proofs.TakenWords.{took-done, took-refused}
use Rattle.parse_step.specs.declared.Bearing.TheVariants.{Level}
use Rattle.parse_step.specs.declared.State.{State}
use Rattle.parse_step.specs.Course.{Seen, Stack, counts_of, kind_no, runs}
use Rattle.parse_step.specs.Taken.{Passed, Took, after_word}
use Rattle.parse_step.proofs.States.{state-of}
use Rattle.language.specs.Building.{Built, joined}
use Rattle.language.specs.Kinds.{comma}
use Rattle.language.specs.Machine.{ask}
use Rattle.language.specs.Naming.{Scope}
use Rattle.parse_tables.specs.declared.meaning.KnownNames.{KnownNames}
use Rattle.parse_expressions.proofs.StartLaws.{at_same}
use Rattle.parse_expressions.specs.Phrases.{at_nesting, same}
use Rattle.parse_stores.proofs.Joining.{grown-two, paid-then, written_then}
use Rattle.parse_stores.proofs.Standings.{standing-word}
use Rattle.parse_stores.specs.Actions.{ActionsRead, Acts, Reads, Standing, grown}
use Rattle.text_words.specs.declared.Word.{Word}
use Rattle.parse_actions.proofs.ListWords.{comma-comes, no-comma}
use Rattle.parse_actions.specs.Lists.{Another, action_ask, list_stack, more_ask}
use Rattle.parse_step.specs.Answers.{Answer}
use Rattle.parse_step.specs.declared.Reached.{Reached}
use Rattle.parse_step.proofs.Answers.{at_ok, not_ok, ok_err}
use Rattle.std.specs.Prelude.{IsErr, Ok}

-- A word that neither counts nor nests leaves the state as it was.
pub level-same : {text : List ℕ} {w : Word} {s : State} {t : Reached} → Passed text w (after_word false Level s) s t → t.state ≡ s
level-same p = state-of p.counts p.kept

-- The state at the nesting that it has is the state.
pub at_level : {text : List ℕ} {w : Word} {s : State} {t : Reached} {i : State} → Passed text w (after_word false Level s) s t → i ≡ at_nesting t.state s.nesting → i ≡ t.state
at_level {s = s} {t} p g = g ∙ at_same t.state s.nesting (ap (λ (q : State). q.nesting) (level-same p))

module _ {text : List ℕ} {sc : Scope} {n : KnownNames} {P Q : Stack} {w : Word} {s : State} {work work₁ : List ℕ} {r : Answer} where
  -- A refusal handed on.
  pub reads-not : Reads text sc n P Q (same text) w s work work₁ r → IsErr r → (Q' : Stack) → Reads text sc n P Q' (same text) w s work work₁ r
  reads-not x m Q' = record { done = λ d. not_ok m d; refused = x.refused; full = x.full }

module _ {text : List ℕ} {sc : Scope} {n : KnownNames} {P Q : Stack} {w : Word} {s : State} {work work₁ : List ℕ} where
  -- Actions behind actions.
  pub reads_then : {r : Reached} → ActionsRead text sc n P Q (same text) w s work work₁ r → {R : Stack} {work₂ : List ℕ} {r₂ : Answer} → Reads text sc n Q R (same text) r.next r.state work₁ work₂ r₂
      → Reads text sc n P R (same text) w s work work₂ r₂
  reads_then x y = record {
    done = λ d. let z = y.done d in
        record {
          tree = joined x.tree z.tree;
          course = λ K b. x.course K b ∙ z.course K (grown x.tree b) ∙ rw (grown-two x.tree z.tree b);
          written = written_then x.written z.written;
          paid = paid-then x.paid z.paid;
          standing = z.standing;
        };
    refused = λ f d K b. x.course K b ∙ y.refused f d K (grown x.tree b);
    full = y.full;
  }

  -- Each action counts a word.
  pub counts-one : {r : Reached} → ActionsRead text sc n P Q (same text) w s work work₁ r → s.counted + 1 ≤ r.state.counted
  counts-one x = omega (arith, x.paid.actions, x.written.count)

-- ---- A comma and an action.

module _ (q : Bool) {text : List ℕ} {w : Word} {s : State} {t : Answer} (x : Took text w (after_word false Level s) s t) where
  comma-course : {t' : Reached} → t ≡ Ok t' → kind_no w.kind ≡ comma → Seen text w → (K : Stack) (b : Built) → runs text (ask (more_ask q) ∷ K) w b s ≡ runs text (ask (action_ask q) ∷ ask (more_ask q) ∷ K) t'.next b s
  comma-course {t' = t'} d e z K b =
      comma-comes text w z b (counts_of s) e q K ∙ took-done (x.done d) z (ask (action_ask q) ∷ ask (more_ask q) ∷ K) b
      ∙ ap (λ (v : State). runs text (ask (action_ask q) ∷ ask (more_ask q) ∷ K) t'.next b v) (level-same (x.done d))

module _ (q : Bool) {text : List ℕ} {n : KnownNames} {w : Word} {s : State} {work : List ℕ} {t : Answer} (x : Took text w (after_word false Level s) s t) where
  pub another-not : IsErr t → {work' : List ℕ} → Another q text n w s work work' t
  another-not m e sc st = record {
    done = λ d. not_ok m d;
    refused = λ f d K b. comma-comes text w st.seen b (counts_of s) e q K ∙ took-refused x f d (ask (action_ask q) ∷ ask (more_ask q) ∷ K) b;
    full = λ d. absurd (x.full d);
  }

  pub another-says : {t' : Reached} → t ≡ Ok t' → {i : State} → i ≡ at_nesting t'.state s.nesting → {work' : List ℕ} {r : Answer} → Acts (ask (action_ask q) ∷ []) same text n t'.next i work work' r → Another q text n w s work work' r
  another-says {t' = t'} d {i} g {work'} {r} y₀ e sc st = record {
    done = λ u. let z = y.done u in
        record { tree = z.tree; course = λ K b. comma-course q x d e st.seen K b ∙ z.course (ask (more_ask q) ∷ K) b; written = z.written; paid = z.paid; standing = z.standing };
    refused = λ f u K b. comma-course q x d e st.seen K b ∙ y.refused f u (ask (more_ask q) ∷ K) b;
    full = y.full;
  }
    where
      p : Passed text w (after_word false Level s) s t'
      p = x.done d

      y : Reads text sc n (ask (action_ask q) ∷ []) [] (same text) t'.next s work work' r
      y = rw (at_level p g ∙ level-same p) at (y₀ sc (rw (at_level p g) (standing-word false Level st p)))

-- ---- The list.

-- So far: what was read, with as many words counted as there were actions.
pub record Going (q : Bool) (text : List ℕ) (n : KnownNames) (w : Word) (s : State) (work : List ℕ) (count : ℕ) (r : Answer) (work' : List ℕ) : Type 0 where
  pub reads : (sc : Scope) → Standing text sc n w s s.actions work → Reads text sc n (list_stack q) (ask (more_ask q) ∷ []) (same text) w s work work' r
  pub counted : (sc : Scope) → Standing text sc n w s s.actions work → {r' : Reached} → r ≡ Ok r' → s.counted + count ≤ r'.state.counted

pub going-begin : (q : Bool) {text : List ℕ} {n : KnownNames} {w : Word} {s : State} {work work' : List ℕ} {r : Answer} → Acts (ask (action_ask q) ∷ []) same text n w s work work' r → Going q text n w s work 1 r work'
going-begin q {text} {n} {w} {s} {work} {work'} {r} x = record { reads = reads; counted = λ sc st d. counts-one ((reads sc st).done d) }
  where
    reads : (sc : Scope) → Standing text sc n w s s.actions work → Reads text sc n (list_stack q) (ask (more_ask q) ∷ []) (same text) w s work work' r
    reads sc st =
        let y = x sc st in
        record {
          done = λ d. let z = y.done d in
              record { tree = z.tree; course = λ K b. z.course (ask (more_ask q) ∷ K) b; written = z.written; paid = z.paid; standing = z.standing };
          refused = λ f d K b. y.refused f d (ask (more_ask q) ∷ K) b;
          full = y.full;
        }

module _ {q : Bool} {text : List ℕ} {n : KnownNames} {w : Word} {s : State} {work : List ℕ} {count : ℕ} {r : Answer} {work' : List ℕ} (g : Going q text n w s work count r work') where
  pub going_more : {r' : Reached} → r ≡ Ok r' → {z : Bool} → z ≡ eqb (kind_no r'.next.kind) comma → z ≡ true → {i : State} → i ≡ at_nesting r'.state s.nesting → {work₂ : List ℕ} {r₂ : Answer} → Another q text n r'.next i work' work₂ r₂
      → {m : ℕ} → m ≡ count + 1 → Going q text n w s work m r₂ work₂
  going_more {r' = r'} d e₁ e₂ {i} h {work₂} {r₂} y₀ {m} f = record { reads = λ sc st. reads_then (first sc st) (next sc st); counted = λ sc st u. omega (arith, f, g.counted sc st d, counts-one ((next sc st).done u)) }
    where
      first : (sc : Scope) (st : Standing text sc n w s s.actions work) → ActionsRead text sc n (list_stack q) (ask (more_ask q) ∷ []) (same text) w s work work' r'
      first sc st = (g.reads sc st).done d

      next : (sc : Scope) (st : Standing text sc n w s s.actions work) → Reads text sc n (ask (more_ask q) ∷ []) (ask (more_ask q) ∷ []) (same text) r'.next r'.state work' work₂ r₂
      next sc st =
          let j : i ≡ r'.state = h ∙ at_same r'.state s.nesting (first sc st).paid.nesting in
          let y : Another q text n r'.next r'.state work' work₂ r₂ = rw j at y₀ in
          y (eqb-true (kind_no r'.next.kind) comma (sym e₁ ∙ e₂)) sc (first sc st).standing

  pub list-not : IsErr r → Acts (list_stack q) same text n w s work work' r
  list-not m sc st = reads-not (g.reads sc st) m []

module _ {q : Bool} {text : List ℕ} {n : KnownNames} {w : Word} {s : State} {work : List ℕ} {count : ℕ} {r : Reached} {work' : List ℕ} (g : Going q text n w s work count (Ok r) work') where
  known-read : (sc : Scope) → ActionsRead text sc n (list_stack q) [] (same text) w s work work' r → Reads text sc n (list_stack q) [] (same text) w s work work' (Ok r)
  known-read sc y = record { done = λ d. at_ok (ActionsRead text sc n (list_stack q) [] (same text) w s work work') d y; refused = λ f d. ok_err d; full = λ d. ok_err d }

  pub list-ends : {z : Bool} → z ≡ eqb (kind_no r.next.kind) comma → z ≡ false → Acts (list_stack q) same text n w s work work' (Ok r)
  list-ends e₁ e₂ sc st =
      let z = (g.reads sc st).done refl in
      known-read sc (record {
        tree = z.tree;
        course = λ K b. z.course K b ∙ no-comma text r.next z.standing.seen (grown z.tree b) (counts_of r.state) (eqb-false (kind_no r.next.kind) comma (sym e₁ ∙ e₂)) q K;
        written = z.written;
        paid = z.paid;
        standing = z.standing;
      })

  -- No more words can be counted.
  pub list-long : 2049 ≤ count → Acts (list_stack q) same text n w s work work' (Ok r)
  list-long h sc st = absurd (omega (arith, h, g.counted sc st refl, few-counted (counts_of r.state) ((g.reads sc st).done refl).standing.within))
