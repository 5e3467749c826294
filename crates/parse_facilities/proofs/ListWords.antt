-- The machine's words between declarations.
use mathlib.Core.List.{List, ◌∷◌}
use mathlib.Core.Path.{◌≡◌, refl, ◌∙◌}
use Prim.Native.Nat.{ℕ}
use native.Mathlib.Omega.{arith}
use borrow.Author.Tests.{ne_eqb}
use Rattle.language.specs.declared.refusals.Refusal.TheVariants.{NoContinuation}
use Rattle.parse_step.proofs.Looking.{View, begun, ended, sign-ahead, view}
use Rattle.parse_step.proofs.TakenWords.{on_taken, taken-on, took-done}
use Rattle.parse_step.specs.declared.Reached.{Reached}
use Rattle.parse_step.specs.declared.Unread.{Unread}
use Rattle.parse_facilities.specs.declared.Progress.{Progress}
use Rattle.std.specs.Prelude.{◌⊎◌, Err, Ok, Result}
use Rattle.std.proofs.Common.{inl, inr}
use Rattle.parse_step.specs.declared.State.{State}
use Rattle.parse_step.specs.Course.{Seen, Stack, behind, counts_of, kind_no, runs, runs_on}
use Rattle.parse_step.specs.Taken.{Refuses, Took}
use Rattle.parse_step.proofs.States.{state-of}
use Rattle.parse_bounds.proofs.Telling.{not-taken, refuses, tells-ok}
use Rattle.parse_bounds.specs.Telling.{same}
use Rattle.language.specs.Building.{Built}
use Rattle.language.specs.Kinds.{comma, end_word, period}
use Rattle.language.specs.Machine.{ask, choose, feed, finish, refused, run, tallied}
use Rattle.language.specs.SectionWays.{rule_of}
use Rattle.language.specs.Words.{fault}
use Rattle.text_words.specs.declared.Word.{Word}
use Rattle.text_words.specs.Meaning.{positioned}
use Rattle.parse_facilities.specs.Lists.{Ends, Listing, memories, more_in, registers, spec_in, terminals}

module _ (text : List ℕ) (w : Word) (K : Stack) (b : Built) (s : State) where
  pub comma-taken : (l : Listing) → kind_no w.kind ≡ comma → runs text (ask (more_in l) ∷ K) w b s ≡ on_taken text w (ask (spec_in l) ∷ ask (more_in l) ∷ K) b (counts_of s)
  unfolding runs_on run feed choose rule_of tallied
  comma-taken registers e = rw (sign-ahead text w comma e (omega arith)) (taken-on text (positioned w.at) (ask (spec_in registers) ∷ ask (more_in registers) ∷ K) (behind text w) b (counts_of s))
  comma-taken memories e = rw (sign-ahead text w comma e (omega arith)) (taken-on text (positioned w.at) (ask (spec_in memories) ∷ ask (more_in memories) ∷ K) (behind text w) b (counts_of s))
  comma-taken terminals e = rw (sign-ahead text w comma e (omega arith)) (taken-on text (positioned w.at) (ask (spec_in terminals) ∷ ask (more_in terminals) ∷ K) (behind text w) b (counts_of s))

  period-taken : (l : Listing) → kind_no w.kind ≡ period → runs text (ask (more_in l) ∷ K) w b s ≡ on_taken text w K b (counts_of s)
  unfolding runs_on run feed choose rule_of tallied
  period-taken registers e = rw (sign-ahead text w period e (omega arith)) (taken-on text (positioned w.at) K (behind text w) b (counts_of s))
  period-taken memories e = rw (sign-ahead text w period e (omega arith)) (taken-on text (positioned w.at) K (behind text w) b (counts_of s))
  period-taken terminals e = rw (sign-ahead text w period e (omega arith)) (taken-on text (positioned w.at) K (behind text w) b (counts_of s))

  end-taken : (l : Listing) → kind_no w.kind ≡ end_word → runs text (ask (more_in l) ∷ K) w b s ≡ on_taken text w K b (counts_of s)
  unfolding runs_on run feed choose rule_of tallied
  end-taken registers e = rw (sign-ahead text w end_word e (omega arith)) (taken-on text (positioned w.at) K (behind text w) b (counts_of s))
  end-taken memories e = rw (sign-ahead text w end_word e (omega arith)) (taken-on text (positioned w.at) K (behind text w) b (counts_of s))
  end-taken terminals e = rw (sign-ahead text w end_word e (omega arith)) (taken-on text (positioned w.at) K (behind text w) b (counts_of s))

  -- By either word that ends a list.
  ends-taken : (l : Listing) → (kind_no w.kind ≡ period) ⊎ (kind_no w.kind ≡ end_word) → runs text (ask (more_in l) ∷ K) w b s ≡ on_taken text w K b (counts_of s)
  ends-taken l (inl e) = period-taken l e
  ends-taken l (inr e) = end-taken l e

  pub more-stuck : (l : Listing) → Seen text w → (kind_no w.kind ≡ comma → ⊥) → (kind_no w.kind ≡ period → ⊥) → (kind_no w.kind ≡ end_word → ⊥) → runs text (ask (more_in l) ∷ K) w b s ≡ refused (fault (positioned w.at) NoContinuation)
  unfolding runs_on run feed finish choose rule_of
  more-stuck l z n m o = by-view l (view text w z)
    where
      by-view : (l : Listing) → View text w → runs text (ask (more_in l) ∷ K) w b s ≡ refused (fault (positioned w.at) NoContinuation)
      by-view registers (ended e p q) = rw (e, p)
      by-view registers (begun v e q p) = rw (e, q, ne_eqb (kind_no w.kind) comma n, ne_eqb (kind_no w.kind) period m, ne_eqb (kind_no w.kind) end_word o, p)
      by-view memories (ended e p q) = rw (e, p)
      by-view memories (begun v e q p) = rw (e, q, ne_eqb (kind_no w.kind) comma n, ne_eqb (kind_no w.kind) period m, ne_eqb (kind_no w.kind) end_word o, p)
      by-view terminals (ended e p q) = rw (e, p)
      by-view terminals (begun v e q p) = rw (e, q, ne_eqb (kind_no w.kind) comma n, ne_eqb (kind_no w.kind) period m, ne_eqb (kind_no w.kind) end_word o, p)

-- ---- The end of a list.

module _ {text : List ℕ} {w : Word} {s : State} {place : ℕ} where
  module _ (e : (kind_no w.kind ≡ period) ⊎ (kind_no w.kind ≡ end_word)) where
    pub not_closed : {u : Unread} → Took text w (counts_of s) s (Err u) → Ends text w s place (Err u)
    not_closed t l z n = not-taken t (λ K. K) same (λ K b. ends-taken text w K b s l e)

    pub closed : {a : Reached} → Took text w (counts_of s) s (Ok a) → Ends text w s place (Ok (record { reached = a; place = place }))
    closed t l z n =
        let p = t.done refl in
        tells-ok (record { course = λ K b. ends-taken text w K b s l e ∙ took-done p z K b; state = state-of p.counts p.kept; store = refl; seen = p.seen })

  pub by-neither : {r : Result Progress Unread} → (kind_no w.kind ≡ period → ⊥) → (kind_no w.kind ≡ end_word → ⊥) → Refuses w NoContinuation r → Ends text w s place r
  by-neither m o r l z n = refuses NoContinuation r (λ K b. more-stuck text w K b s l z n m o)
