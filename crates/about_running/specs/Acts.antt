-- Never stuck, for the actions of a state of a legal description, operations included. Assumes nothing.
use Rattle.std.specs.Prelude.{Bool, cond, ◌≡◌, eqb}
use Rattle.std.proofs.Math.Bool.{true, false}
use Rattle.std.proofs.Math.Path.{refl, ap}
use Rattle.std.proofs.Common.{sym, ◌∙◌, arith}
use Prim.Native.Nat.{ℕ, zero, suc, ◌≤◌, ◌<◌}
use borrow.Author.Tests.{ltb-false, ltb-true}
use Rattle.std.proofs.Math.Dec.{ltb}
use Rattle.std.proofs.Math.ListN.{length}
use Rattle.language.specs.Acting as A
use Rattle.language.specs.Acting.{Doing, Ran}
use Rattle.language.specs.ActionRules as J
use Rattle.language.specs.Description as D
use Rattle.language.specs.Description.{Action, Description, action_at, facility_at, is_computed, no_places, operation_at, state_at}
use Rattle.language.specs.Expressions.{terminal_below}
use Rattle.language.specs.Judging.{Worth, fine, refuse}
use Rattle.language.specs.Meaning.{Stores, no_operation}
use Rattle.language.specs.Order.{action_roots}
use Rattle.language.specs.Recursion.{below-ge, below-lt}
use Rattle.about_running.specs.Evaluates.{Terminal}
use Rattle.about_running.specs.Executes as E
use Rattle.about_running.specs.Executes.{Keeps, Rooted}
use Rattle.about_running.specs.Judged.{faulty-fine}
use Rattle.about_running.specs.LegalForm.{Legal}
use Rattle.about_running.specs.Lists.{list-runs}
use Rattle.about_running.specs.Ordered.{InOrder}
use Rattle.about_running.specs.Terminals.{terminals-work}
use Rattle.language.specs.declared.refusals.Refusal.TheVariants.{NoContinuation}

module _ {X : Type 0} (S : Stores X) (d : Description) (Inv : X → Type 0) (keeps : Keeps S d Inv) (L : Legal d) where
  pub terms : (x : X) (f : ℕ) (w : Worth) → f < length d.facilities → ◌≡◌ {A = Bool} (is_computed (facility_at d f).kind) true
      → terminal_below d no_places (length d.facilities) f ≡ fine w → Terminal S d x L.base f w
  terms x f w h c e = terminals-work d no_places L.base L.terminals-order L.terminals S x (keeps.loads x) f w h c e

  abbrev pub Good : Ran X → Type 0
  Good = E.Good S d no_places Inv keeps L.base terms

  abbrev pub Set : Doing X → Type 0
  Set = E.Ready S d no_places Inv keeps L.base terms

  rooted-of : (a : Action) → InOrder d L.base (length d.expressions) (action_roots d a) → Rooted S d no_places Inv keeps L.base terms a
  rooted-of (D.store k l r) o = ((o.0.0, o.0.1, o.0.2), (o.1.0.0, o.1.0.1, o.1.0.2))
  rooted-of (D.store_pair k l m r) o = ((o.0.0, o.0.1, o.0.2), (o.1.0.0, o.1.0.1, o.1.0.2), (o.1.1.0.0, o.1.1.0.1, o.1.1.0.2))
  rooted-of (D.set l) o = (o.0.0, o.0.1, o.0.2)
  rooted-of (D.perform n) o = tt
  rooted-of (D.goto s) o = tt
  rooted-of (D.call s) o = tt
  rooted-of D.return o = tt
  rooted-of (D.when c x) o = (o.0.0, o.0.1, o.0.2)
  rooted-of (D.choose c n x) o = (o.0.0, o.0.1, o.0.2)
  rooted-of (D.arm x) o = tt
  rooted-of D.Action.broken o = tt

  rooted : (i : ℕ) → Rooted S d no_places Inv keeps L.base terms (action_at d i)
  rooted i = rooted-of (action_at d i) (L.actions-order i)

  -- ---- Operations.

  Performs : ℕ → Type 0
  Performs n = (o : ℕ) (w : Worth) (c : Doing X) → J.operation_below d no_places n o ≡ fine w → Set c → Good (A.operation_below S d n o c)

  judged-lt : (n o : ℕ) → o < n → J.operation_below d no_places n o ≡ J.operation_step d no_places (J.operation_below d no_places o) o
  unfolding J.operation_below
  judged-lt n o h = below-lt (J.unknown_operation d no_places) (J.operation_step d no_places) n o h

  judged-ge : (n o : ℕ) → n ≤ o → J.operation_below d no_places n o ≡ J.unknown_operation d no_places
  unfolding J.operation_below
  judged-ge n o h = below-ge (J.unknown_operation d no_places) (J.operation_step d no_places) n o h

  exec-lt : (n o : ℕ) (c : Doing X) → o < n → A.operation_below S d n o c ≡ A.operation_step S d (A.operation_below S d o) o c
  unfolding A.operation_below
  exec-lt n o c h = ap (λ (f : Doing X → Ran X). f c) (below-lt (λ c. Ran.stuck no_operation) (A.operation_step S d) n o h)

  body-fine : (o : ℕ) {w : Worth} → J.operation_step d no_places (J.operation_below d no_places o) o ≡ fine w
      → J.run_judged d no_places false (J.operation_below d no_places o) (operation_at d o).body ≡ fine w
  body-fine o {w} e = go (eqb (operation_at d o).body.count 0) e
    where
      go : (b : Bool) → cond b (refuse D.nowhere NoContinuation) (J.run_judged d no_places false (J.operation_below d no_places o) (operation_at d o).body) ≡ fine w
          → J.run_judged d no_places false (J.operation_below d no_places o) (operation_at d o).body ≡ fine w
      go true k = faulty-fine k
      go false k = k

  performs-step : (n : ℕ) → ((m : ℕ) → m < n → Performs m) → Performs n
  unfolding Performs
  performs-step n ih o w c e h = go (ltb o n) refl
    where
      go : (b : Bool) → ltb o n ≡ b → Good (A.operation_below S d n o c)
      go true q =
          let l : o < n = ltb-true o n q in
          rw (exec-lt n o c l)
          (list-runs S d no_places Inv keeps L.base terms rooted false (J.operation_below d no_places o) (A.operation_below S d o) (ih o l) (operation_at d o).body c
          (body-fine o (sym (judged-lt n o l) ∙ e)) h)
      go false q = faulty-fine (sym (judged-ge n o (ltb-false o n q)) ∙ e)

  performs-below : (k n : ℕ) → n < k → Performs n
  performs-below zero n h = absurd (omega arith)
  performs-below (suc k) n h = performs-step n (λ m l. performs-below k m (omega arith))

  -- The actions of a state that is there.
  pub state-acts : (s : ℕ) (c : Doing X) → s < length d.states → Set c → Good (A.run_actions S d (state_at d s).actions c)
  unfolding A.run_actions Performs
  state-acts s c l h =
      let n : ℕ = length d.operations in
      list-runs S d no_places Inv keeps L.base terms rooted true (J.operation_below d no_places n) (A.operation_below S d n) (performs-below (suc n) n (omega arith))
      (state_at d s).actions c (L.states s l).1.1.run-fine h
