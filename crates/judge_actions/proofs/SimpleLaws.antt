-- One action, by what it is.
use mathlib.Core.Bool.{Bool, true, false, cond, not}
use mathlib.Core.List.{List}
use mathlib.Core.Path.{◌≡◌, refl, sym, ap, ◌∙◌}
use native.Mathlib.Omega.{arith}
use Prim.Native.Nat.{ℕ, ◌+◌, ◌<◌, ◌≤◌}
use borrow.Author.Tests.{le-ltb, lt-ltb, ltb-false, ltb-true}
use lib.Dec.{ltb}
use lib.ListN.{drop, length, length-drop, length-take, take}
use Rattle.language.specs.ActionRules as A
use Rattle.language.specs.Description as D
use Rattle.language.specs.Description.{Action, Description, Places, action_at, state_at}
use Rattle.language.specs.Expressions.{expression_at, left_at, own_work, terminal_below}
use Rattle.language.specs.Judging as L
use Rattle.language.specs.Judging.{Judged, faulty, fine, given, given_both, refuse, worth}
use Rattle.language.specs.declared.refusals.Refusal.TheVariants.{BadName, NoContinuation}
use Rattle.language.specs.Storing.{is_plain, may_store}
use Rattle.language.specs.Words as W
use Rattle.judge_verdicts.specs.Meaning.{Verdict}
use Rattle.std.specs.Prelude.{Ok, Err}
use Rattle.judge_verdicts.specs.declared.Worth.{Worth}
use Rattle.judge_verdicts.specs.Meaning.{capped, seen}
use Rattle.text_words.specs.declared.Fault.{Fault}
use Rattle.judge_terms.specs.Shown.{worked}
use Rattle.judge_actions.specs.Listed.{in_right}
use Rattle.judge_actions.specs.Stored.{pair_sides, set_judged, stored_judged}
use Rattle.language.specs.Tests as Tests

-- ---- An operation that is named.

pub perform-fine : (j : Judged) (v : Worth) {r : Verdict} → Ok v ≡ seen (worked j)
    → ((x : ℕ) → v.work ≡ capped x → r ≡ seen (worth 1 0 (own_work + x))) → r ≡ seen (given j (λ x. worth 1 0 (own_work + x.work)))
unfolding seen
perform-fine (fine x) v e g =
    let m : v ≡ record { length = 1; arms = capped 0; work = capped x.work } = cc in
    g x.work (ap (λ (z : Worth). z.work) m)
perform-fine (faulty f fs) v e g = absurd (let z : ◌≡◌ {A = ℕ} 0 1 = cc in omega arith)

pub perform-faulty : (j : Judged) (h : Fault) (on : L.Worth → Judged) → Err h ≡ seen (worked j) → Err h ≡ seen (given j on)
unfolding seen
perform-faulty (fine x) h on e = absurd (let z : ◌≡◌ {A = ℕ} 0 1 = cc in omega arith)
perform-faulty (faulty f fs) h on e = e

-- ---- A state with a name.

pub label-there : (l o : ℕ) (s : List ℕ) → (l ≡ 0 → ⊥) → ltb o (length s) ≡ ltb 0 (length (take l (drop o s)))
label-there l o s h = by-test (ltb o (length s)) refl
  where
    by-test : (b : Bool) → ltb o (length s) ≡ b → ltb o (length s) ≡ ltb 0 (length (take l (drop o s)))
    by-test true t =
        let g : o < length s = ltb-true o (length s) t in
        t ∙ sym (lt-ltb 0 (length (take l (drop o s))) (omega (arith, length-take l (drop o s), length-drop o s)))
    by-test false t =
        let g : length s ≤ o = ltb-false o (length s) t in
        t ∙ sym (le-ltb 0 (length (take l (drop o s))) (omega (arith, length-take l (drop o s), length-drop o s)))

-- ---- The language's text, for a description whose facilities are counted.

only-told : (d : Description) (p : Places) (b : Bool) (w : ℕ → Judged) (c : Bool) (q : W.Position) (j : Judged) {v : Verdict} → v ≡ seen (in_right c q j)
    → v ≡ seen (A.only_in d p b w c q j)
only-told d p b w true q j f = f
only-told d p b w false q j f = f

not-told : (d : Description) (p : Places) (a : Bool) (w : ℕ → Judged) (b : Bool) (q : W.Position) (j : Judged) {v : Verdict} → v ≡ seen (in_right (not b) q j)
    → v ≡ seen (A.only_in d p a w (cond b false true) q j)
not-told d p a w true q j f = f
not-told d p a w false q j f = f

module _ (d : Description) (p : Places) (b : Bool) (w : ℕ → Judged) {k : ℕ} (e : length d.facilities ≡ k) where
  pub right-told : (c : ℕ) {v : Verdict} → v ≡ seen (expression_at d p (terminal_below d p k) k c) → v ≡ seen (A.right d p b w c)
  right-told c f = rw e f

  module _ (q : W.Position) {v : Verdict} where
    pub store_is : (s l r : ℕ)
        → v ≡ seen (in_right (not b) q (given_both (left_at d p (terminal_below d p k) k l) (expression_at d p (terminal_below d p k) k r) (stored_judged (may_store s (A.kind_at d l)) q)))
        → v ≡ seen (A.simple_judged d p b w q (D.store s l r))
    unfolding A.simple_judged
    store_is s l r f = not-told d p b w b q _ (rw e f)

    pub pair_is : (s l m r : ℕ)
        → v ≡ seen (in_right (not b) q (given_both (pair_sides (left_at d p (terminal_below d p k) k l) (left_at d p (terminal_below d p k) k m)) (expression_at d p (terminal_below d p k) k r) (stored_judged (Tests.both (may_store s (A.kind_at d l)) (may_store s (A.kind_at d m))) q)))
        → v ≡ seen (A.simple_judged d p b w q (D.store_pair s l m r))
    unfolding A.simple_judged
    pair_is s l m r f = not-told d p b w b q _ (rw e f)

    pub set_is : (l : ℕ) → v ≡ seen (given (left_at d p (terminal_below d p k) k l) (set_judged (is_plain (A.kind_at d l)) q))
        → v ≡ seen (A.simple_judged d p b w q (D.set l))
    unfolding A.simple_judged
    set_is l f = rw e f

module _ (d : Description) (p : Places) (b : Bool) (w : ℕ → Judged) (q : W.Position) {v : Verdict} where
  pub perform-is : (o : ℕ) → v ≡ seen (given (w o) (λ x. worth 1 0 (own_work + x.work))) → v ≡ seen (A.simple_judged d p b w q (D.perform o))
  unfolding A.simple_judged
  perform-is o f = f

  pub goto-is : (s : ℕ) {n : List ℕ} → (state_at d s).name ≡ n → v ≡ seen (in_right b q (cond (ltb 0 (length n)) (worth 1 0 own_work) (refuse q BadName)))
      → v ≡ seen (A.simple_judged d p b w q (D.goto s))
  unfolding A.simple_judged
  goto-is s e f = only-told d p b w b q _ (rw e f)

  pub call-is : (s : ℕ) {n : List ℕ} → (state_at d s).name ≡ n → v ≡ seen (in_right b q (cond (ltb 0 (length n)) (worth 1 0 own_work) (refuse q BadName)))
      → v ≡ seen (A.simple_judged d p b w q (D.call s))
  unfolding A.simple_judged
  call-is s e f = only-told d p b w b q _ (rw e f)

  pub return-is : v ≡ seen (in_right b q (worth 1 0 own_work)) → v ≡ seen (A.simple_judged d p b w q D.return)
  unfolding A.simple_judged
  return-is f = only-told d p b w b q _ f

  pub when-is : (c x : ℕ) → v ≡ seen (refuse q NoContinuation) → v ≡ seen (A.simple_judged d p b w q (D.when c x))
  unfolding A.simple_judged
  when-is c x f = f

  pub choose-is : (c n x : ℕ) → v ≡ seen (refuse q NoContinuation) → v ≡ seen (A.simple_judged d p b w q (D.choose c n x))
  unfolding A.simple_judged
  choose-is c n x f = f

  pub arm_is : (x : ℕ) → v ≡ seen (refuse q NoContinuation) → v ≡ seen (A.simple_judged d p b w q (D.arm x))
  unfolding A.simple_judged
  arm_is x f = f

  pub broken-is : v ≡ seen (refuse q BadName) → v ≡ seen (A.simple_judged d p b w q D.Action.broken)
  unfolding A.simple_judged
  broken-is f = f

  pub simple-is : (i : ℕ) {x : Action} → action_at d i ≡ x → v ≡ seen (A.simple_judged d p b w q x) → v ≡ seen (A.simple_judged d p b w q (action_at d i))
  simple-is i e f = rw e f
