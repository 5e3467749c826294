-- A list of actions delays no more stores than its work. Assumes nothing.
use Rattle.std.specs.Prelude.{Bool, cond, eqb, leb}
use Rattle.std.proofs.Math.Bool.{true, false}
use Rattle.std.proofs.Math.Option.{Option, none, some}
use Rattle.std.proofs.Math.Path.{◌≡◌, refl, ap}
use Rattle.std.proofs.Common.{sym, ◌∙◌, arith}
use Prim.Native.Nat.{ℕ, zero, suc, ◌+◌, ◌-◌, ◌≤◌, ◌<◌}
use borrow.Author.Tests.{le-ltb, leb-true, ltb-false, ltb-true}
use Rattle.std.proofs.Math.Dec.{eqb-suc-zero, ltb}
use Rattle.std.proofs.Math.ListN.{length}
use Rattle.language.specs.Acting as A
use Rattle.language.specs.Acting.{Doing, Ran, arm_at, arm_or, arm_run, arm_size}
use Rattle.language.specs.ActionRules as J
use Rattle.language.specs.ActionRules.{Shape, actions, arms, simple_judged}
use Rattle.language.specs.Description as D
use Rattle.language.specs.Description.{Action, Description, Places, Run, action_at, action_place, operation_at}
use Rattle.language.specs.Expressions.{own_work, selects}
use Rattle.language.specs.Judging.{Judged, Worth, fine, given_both, refuse, worth}
use Rattle.language.specs.Meaning.{Stores, arm_number, decides, eval_at, no_operation, runs_over}
use Rattle.language.specs.Recursion.{below-ge, below-lt}
use Rattle.language.specs.declared.refusals.Refusal.TheVariants.{BadLength, NoContinuation}
use Rattle.language.specs.Words.{Position}
use Rattle.about_running.specs.OneAction.{plainly, simple}
use Rattle.about_running.specs.Judged.{both-fine, faulty-fine}
use Rattle.about_running.specs.FewStores as F
use Rattle.about_running.specs.FewStores.{Counts, carried, stuck-so}
use Rattle.language.specs.Tests.{both}

module _ {X : Type 0} (S : Stores X) (d : Description) (p : Places) (delayed : X → ℕ) (count : Counts S delayed) where
  abbrev pub Few : ℕ → Ran X → Type 0
  Few = F.Few S d p delayed count

  module _ (in_state : Bool) (works : ℕ → Judged) (perform : ℕ → Doing X → Ran X)
      (performs : (o : ℕ) (w : Worth) (c : Doing X) → works o ≡ fine w → Few (delayed c.store + w.work) (perform o c)) where
    abbrev judged : ℕ → ℕ → Shape → Judged
    judged k i s = J.run_step d p in_state works (J.run_below d p in_state works k) k i s

    abbrev exec : ℕ → ℕ → Doing X → Ran X
    exec k i c = A.list_step S d perform (A.list_below S d perform k) k i c

    judged-lt : (k a i : ℕ) (s : Shape) → a < k → J.run_below d p in_state works k a i s ≡ judged a i s
    unfolding J.run_below
    judged-lt k a i s h = ap (λ (f : ℕ → Shape → Judged). f i s) (below-lt (λ i s. refuse D.nowhere NoContinuation) (J.run_step d p in_state works) k a h)

    exec-lt : (k a i : ℕ) (c : Doing X) → a < k → A.list_below S d perform k a i c ≡ exec a i c
    unfolding A.list_below
    exec-lt k a i c h = ap (λ (f : ℕ → Doing X → Ran X). f i c) (below-lt (λ i c. Ran.stuck runs_over) (A.list_step S d perform) k a h)

    -- An arm that is found is shorter, and its work is no more than that of all arms.
    record ArmRun (n k : ℕ) (run : Run) : Type 0 where
      shorter : run.count < k
      own : Worth
      own-fine : judged run.count run.first actions ≡ fine own
      no_more : own.work ≤ n

    record Claim (k : ℕ) : Type 0 where
      as-list : (i : ℕ) {w : Worth} (c : Doing X) → judged k i actions ≡ fine w → Few (delayed c.store + w.work) (exec k i c)
      as-arms : (i : ℕ) {w : Worth} → judged k i arms ≡ fine w → (j : ℕ) (run : Run) → arm_at d j i k ≡ some run → ArmRun w.work k run

    module _ (m : ℕ) (ih : (a : ℕ) → a < suc m → Claim a) (i : ℕ) where
      abbrev ev : ℕ → ℕ → Shape → Judged
      ev = J.run_below d p in_state works (suc m)

      abbrev EV : ℕ → ℕ → Doing X → Ran X
      EV = A.list_below S d perform (suc m)

      fewer : (a i' : ℕ) {w : Worth} (c : Doing X) → a < suc m → ev a i' actions ≡ fine w → Few (delayed c.store + w.work) (EV a i' c)
      fewer a i' c l e = rw (exec-lt (suc m) a i' c l) ((ih a l).as-list i' c (sym (judged-lt (suc m) a i' actions l) ∙ e))

      plain-few : (a : Action) {w : Worth} (c : Doing X) → action_at d i ≡ a → J.plainly d p in_state works ev m i ≡ fine w → Few (delayed c.store + w.work) (plainly S d perform EV m i a c)
      plain-few a {w} c q e =
          let y = both-fine (simple_judged d p in_state works (action_place p i) (action_at d i)) (ev m (i + 1) actions) _ e in
          let l : simple_judged d p in_state works (action_place p i) a ≡ fine y.u = ap (simple_judged d p in_state works (action_place p i)) (sym q) ∙ y.left in
          let n : w.work ≡ y.u.work + y.v.work = F.worth-work S d p delayed count in_state works perform performs y.own in
          F.onward-few S d p delayed count _ _ (F.simple-few S d p delayed count in_state works perform performs a (action_place p i) c l) (λ c' h. F.few-more S d p delayed count _ (omega (arith, n, h)) (fewer m (i + 1) c' (omega arith) y.right))

      -- Of a conditional: the arm taken, if any, and the list after it.
      record Held (x n : ℕ) : Type 0 where
        fits : x ≤ m
        inner : Worth
        inner-fine : ev x (i + 1) arms ≡ fine inner
        rest : Worth
        rest-fine : ev (m - x) (i + 1 + x) actions ≡ fine rest
        no_more : inner.work + rest.work ≤ n

      tested-work : (t : Bool) (at : Position) (n : ℕ) {v : Worth} → cond t (worth 1 0 n) (refuse at BadLength) ≡ fine v → v.work ≡ n
      tested-work true at n e = F.worth-work S d p delayed count in_state works perform performs e
      tested-work false at n e = faulty-fine e

      held : (c x : ℕ) (test : Worth → Worth → Bool) {w : Worth}
          → J.holding d p in_state works ev m i x (J.conditional d p in_state works (action_place p i) (J.right d p in_state works c) (ev x (i + 1) arms) test) ≡ fine w → Held x w.work
      held c x test {w} e = go (leb x m) refl e
        where
          go : (b : Bool) → leb x m ≡ b
              → cond b (given_both (J.conditional d p in_state works (action_place p i) (J.right d p in_state works c) (ev x (i + 1) arms) test) (ev (m - x) (i + 1 + x) actions) (J.all_work d p in_state works)) (refuse D.nowhere NoContinuation) ≡ fine w
              → Held x w.work
          go false q k = faulty-fine k
          go true q k =
              let y = both-fine (J.conditional d p in_state works (action_place p i) (J.right d p in_state works c) (ev x (i + 1) arms) test) (ev (m - x) (i + 1 + x) actions) _ k in
              let z = both-fine (J.right d p in_state works c) (ev x (i + 1) arms) _ y.left in
              let t : y.u.work ≡ own_work + z.u.work + z.v.work = tested-work (test z.u z.v) (action_place p i) _ z.own in
              let n : w.work ≡ y.u.work + y.v.work = F.worth-work S d p delayed count in_state works perform performs y.own in
              record {
                fits = leb-true x m q;
                inner = z.v;
                inner-fine = z.right;
                rest = y.v;
                rest-fine = y.right;
                no_more = omega (arith, t, n);
              }

      arm-few : (x j : ℕ) {n : ℕ} (c : Doing X) → Held x n → Few (delayed c.store + n) (A.in_arm S d perform EV m i x (arm_at d j (i + 1) x) c)
      arm-few x j {n} c y = go (arm_at d j (i + 1) x) refl
        where
          go : (r : Option Run) → arm_at d j (i + 1) x ≡ r → Few (delayed c.store + n) (A.in_arm S d perform EV m i x r c)
          go none e = stuck-so
          go (some r) e =
              let f : x < suc m = omega (arith, y.fits) in
              let z = (ih x f).as-arms (i + 1) (sym (judged-lt (suc m) x (i + 1) arms f) ∙ y.inner-fine) j r e in
              let q : r.count < suc m = omega (arith, z.shorter, y.fits) in
              F.onward-few S d p delayed count _ _ (fewer r.count r.first c q (judged-lt (suc m) r.count r.first actions q ∙ z.own-fine))
              (λ c' h. after-arm c' (omega (arith, z.no_more, h)))
            where
              after-arm : (c' : Doing X) → delayed c'.store ≤ delayed c.store + y.inner.work → Few (delayed c.store + n) (A.passing S d perform EV m i x c')
              after-arm c' h =
                  F.chosen-few S d p delayed count (leb x m) (F.few-more S d p delayed count _ (omega (arith, y.no_more, h)) (fewer (m - x) (i + 1 + x) c' (omega arith) y.rest-fine)) stuck-so

      when-few : (e x : ℕ) {w : Worth} (c : Doing X) → J.list_judged d p in_state works ev m i (D.when e x) ≡ fine w → Few (delayed c.store + w.work) (A.list_act S d perform EV m i (D.when e x) c)
      unfolding J.list_judged A.list_act
      when-few e x c k =
          let y = held e x (λ v w. both (eqb v.length 1) (eqb w.arms 1)) k in
          F.value-few S d p delayed count (eval_at S d c.store e) _ (λ v.
          F.chosen-few S d p delayed count (eqb v.length 1)
          (F.chosen-few S d p delayed count (eqb v.number 0)
          (F.chosen-few S d p delayed count (leb x m) (F.few-more S d p delayed count _ (omega (arith, y.no_more)) (fewer (m - x) (i + 1 + x) c (omega arith) y.rest-fine)) stuck-so)
          (arm-few x 0 c y)) stuck-so)

      choose-few : (e n x : ℕ) {w : Worth} (c : Doing X) → J.list_judged d p in_state works ev m i (D.choose e n x) ≡ fine w → Few (delayed c.store + w.work) (A.list_act S d perform EV m i (D.choose e n x) c)
      unfolding J.list_judged A.list_act
      choose-few e n x {w} c k =
          let y = held e x (λ v w. both (selects v.length n) (eqb w.arms n)) k in
          F.value-few S d p delayed count (eval_at S d c.store e) _ (λ v.
          F.chosen-few S d p delayed count (decides n v) (go y (arm_number n v.number)) stuck-so)
        where
          go : Held x w.work → (a : Option ℕ) → Few (delayed c.store + w.work) (A.arm_chosen S d perform EV m i x a c)
          go y none = stuck-so
          go y (some a) = arm-few x (a - 1) c y

      list-few : (a : Action) {w : Worth} (c : Doing X) → action_at d i ≡ a → J.list_judged d p in_state works ev m i a ≡ fine w → Few (delayed c.store + w.work) (A.list_act S d perform EV m i a c)
      unfolding J.list_judged A.list_act simple
      list-few (D.store k l r) c q e = plain-few (D.store k l r) c q e
      list-few (D.store_pair k l n r) c q e = plain-few (D.store_pair k l n r) c q e
      list-few (D.set l) c q e = plain-few (D.set l) c q e
      list-few (D.perform o) c q e = plain-few (D.perform o) c q e
      list-few (D.goto s) c q e = plain-few (D.goto s) c q e
      list-few (D.call s) c q e = plain-few (D.call s) c q e
      list-few D.return c q e = plain-few D.return c q e
      list-few (D.when b x) c q e = when-few b x c e
      list-few (D.choose b n x) c q e = choose-few b n x c e
      list-few (D.arm x) c q e = stuck-so
      list-few D.Action.broken c q e = stuck-so

      -- ---- Arms.

      arm-size : (x : ℕ) (w : Worth) → action_at d i ≡ D.arm x → J.arm_after d p in_state works ev m i x ≡ fine w → (j : ℕ) (run : Run) → arm_at d j i (suc m) ≡ some run → ArmRun w.work (suc m) run
      unfolding arm_at
      arm-size x w q e j run f = go (both (leb 1 x) (leb x m)) refl e
        where
          none-some : {A : Type 0} {r : Run} → none ≡ some r → A
          none-some e = absurd (let z : ◌≡◌ {A = ℕ} 0 1 = cc in omega arith)

          both_right : (a b : Bool) → both a b ≡ true → b ≡ true
          both_right true b h = h
          both_right false b h = absurd (let z : ◌≡◌ {A = ℕ} 0 1 = cc in omega arith)

          here : (own : Worth) → x ≤ m → ev x (i + 1) actions ≡ fine own → own.work ≤ w.work → (b : Bool) → ltb x (suc m) ≡ b
              → cond b (some (record { first = i + 1; count = x })) none ≡ some run → ArmRun w.work (suc m) run
          here own l g n true t h =
              let r : record { first = i + 1; count = x } ≡ run = cc in
              rw (← r) (record {
                shorter = omega arith;
                own = own;
                own-fine = sym (judged-lt (suc m) x (i + 1) actions (omega arith)) ∙ g;
                no_more = n;
              })
          here own l g n false t h = none-some h

          later : (rest : Worth) (k : ℕ) → x ≤ m → ev (m - x) (i + 1 + x) arms ≡ fine rest → rest.work ≤ w.work → (b : Bool) → ltb x (suc m) ≡ b
              → cond b (arm_at d k (i + 1 + x) (suc m - (x + 1))) none ≡ some run → ArmRun w.work (suc m) run
          later rest k l g n true t h =
              let less : m - x < suc m = omega arith in
              let same : suc m - (x + 1) ≡ m - x = omega arith in
              let z = (ih (m - x) less).as-arms (i + 1 + x) (sym (judged-lt (suc m) (m - x) (i + 1 + x) arms less) ∙ g) k run (rw same at h) in
              record { shorter = omega (arith, z.shorter); own = z.own; own-fine = z.own-fine; no_more = omega (arith, z.no_more) }
          later rest k l g n false t h = none-some h

          by_number : (own rest : Worth) → x ≤ m → ev x (i + 1) actions ≡ fine own → ev (m - x) (i + 1 + x) arms ≡ fine rest → w.work ≡ own.work + rest.work
              → (k : ℕ) → arm_at d k i (suc m) ≡ some run → ArmRun w.work (suc m) run
          by_number own rest l g h n zero t = here own l g (omega (arith, n)) (ltb x (suc m)) refl (rw q at t)
          by_number own rest l g h n (suc k) t = later rest k l h (omega (arith, n)) (ltb x (suc m)) refl (rw q at t)

          go : (b : Bool) → both (leb 1 x) (leb x m) ≡ b
              → cond b (given_both (ev x (i + 1) actions) (ev (m - x) (i + 1 + x) arms) (λ v w. worth 1 (w.arms + 1) (v.work + w.work))) (refuse D.nowhere NoContinuation) ≡ fine w
              → ArmRun w.work (suc m) run
          go false t k = faulty-fine k
          go true t k =
              let y = both-fine (ev x (i + 1) actions) (ev (m - x) (i + 1 + x) arms) (λ v w. worth 1 (w.arms + 1) (v.work + w.work)) k in
              by_number y.u y.v (leb-true x m (both_right (leb 1 x) _ t)) y.left y.right (F.worth-work S d p delayed count in_state works perform performs y.own) j f

      arms-few : (a : Action) {w : Worth} → action_at d i ≡ a → J.arms_judged d p in_state works ev m i a ≡ fine w → (j : ℕ) (run : Run) → arm_at d j i (suc m) ≡ some run → ArmRun w.work (suc m) run
      unfolding J.arms_judged
      arms-few (D.store k l r) q e j = faulty-fine e
      arms-few (D.store_pair k l n r) q e j = faulty-fine e
      arms-few (D.set l) q e j = faulty-fine e
      arms-few (D.perform o) q e j = faulty-fine e
      arms-few (D.goto s) q e j = faulty-fine e
      arms-few (D.call s) q e j = faulty-fine e
      arms-few D.return q e j = faulty-fine e
      arms-few (D.when b x) q e j = faulty-fine e
      arms-few (D.choose b n x) q e j = faulty-fine e
      arms-few (D.arm x) {w} q e j = arm-size x w q e j
      arms-few D.Action.broken q e j = faulty-fine e

    none_left : Claim 0
    unfolding arm_at
    none_left = record {
      as-list = λ i c e. carried {c = c} (omega arith);
      as-arms = λ i e j run f. no_arm i j run f;
    }
      where
        none-some : {A : Type 0} {r : Run} → none ≡ some r → A
        none-some e = absurd (let z : ◌≡◌ {A = ℕ} 0 1 = cc in omega arith)

        no_arm : {n : ℕ} (i j : ℕ) (run : Run) → arm_at d j i 0 ≡ some run → ArmRun n 0 run
        no_arm i zero run f = go (arm_size (action_at d i)) f
          where
            go : {n : ℕ} (x : Option ℕ) → arm_run i 0 x ≡ some run → ArmRun n 0 run
            go none e = none-some e
            go (some x) e = none-some (rw (le-ltb x 0 (omega arith)) at e)
        no_arm i (suc j) run f = go (arm_size (action_at d i)) f
          where
            go : {n : ℕ} (x : Option ℕ) → arm_or i 0 (arm_at d j) x ≡ some run → ArmRun n 0 run
            go none e = none-some e
            go (some x) e = none-some (rw (le-ltb x 0 (omega arith)) at e)

    one_less : (m : ℕ) → suc m - 1 ≡ m
    one_less m = omega arith

    some_left : (m : ℕ) → ((a : ℕ) → a < suc m → Claim a) → Claim (suc m)
    some_left m ih = record {
      as-list = λ i c e. rw (one_less m, eqb-suc-zero m) (list-few m ih i (action_at d i) c refl (rw (one_less m, eqb-suc-zero m) at e));
      as-arms = λ i e. arms-few m ih i (action_at d i) refl (rw (one_less m, eqb-suc-zero m) at e);
    }

    claim-below : (n k : ℕ) → k < n → Claim k
    claim-below zero k h = absurd (omega arith)
    claim-below (suc n) zero h = none_left
    claim-below (suc n) (suc m) h = some_left m (λ a l. claim-below n a (omega arith))

    list-few-stores : (r : Run) {w : Worth} (c : Doing X) → J.run_judged d p in_state works r ≡ fine w → Few (delayed c.store + w.work) (A.run_list S d perform r c)
    unfolding J.run_judged A.run_list
    list-few-stores r c e = (claim-below (suc r.count) r.count (omega arith)).as-list r.first c e

  -- ---- Operations, and the actions of a state.

  Performs : ℕ → Type 0
  Performs n = (o : ℕ) (w : Worth) (c : Doing X) → J.operation_below d p n o ≡ fine w → Few (delayed c.store + w.work) (A.operation_below S d n o c)

  judged-so : (n o : ℕ) → o < n → J.operation_below d p n o ≡ J.operation_step d p (J.operation_below d p o) o
  unfolding J.operation_below
  judged-so n o h = below-lt (J.unknown_operation d p) (J.operation_step d p) n o h

  judged-none : (n o : ℕ) → n ≤ o → J.operation_below d p n o ≡ J.unknown_operation d p
  unfolding J.operation_below
  judged-none n o h = below-ge (J.unknown_operation d p) (J.operation_step d p) n o h

  performed : (n o : ℕ) (c : Doing X) → o < n → A.operation_below S d n o c ≡ A.operation_step S d (A.operation_below S d o) o c
  unfolding A.operation_below
  performed n o c h = ap (λ (f : Doing X → Ran X). f c) (below-lt (λ c. Ran.stuck no_operation) (A.operation_step S d) n o h)

  body-fine : (o : ℕ) {w : Worth} → J.operation_step d p (J.operation_below d p o) o ≡ fine w
      → J.run_judged d p false (J.operation_below d p o) (operation_at d o).body ≡ fine w
  body-fine o {w} e = go (eqb (operation_at d o).body.count 0) e
    where
      go : (b : Bool) → cond b (refuse D.nowhere NoContinuation) (J.run_judged d p false (J.operation_below d p o) (operation_at d o).body) ≡ fine w
          → J.run_judged d p false (J.operation_below d p o) (operation_at d o).body ≡ fine w
      go true k = faulty-fine k
      go false k = k

  performs-step : (n : ℕ) → ((m : ℕ) → m < n → Performs m) → Performs n
  unfolding Performs
  performs-step n ih o w c e = go (ltb o n) refl
    where
      go : (b : Bool) → ltb o n ≡ b → Few (delayed c.store + w.work) (A.operation_below S d n o c)
      go true q =
          let l : o < n = ltb-true o n q in
          rw (performed n o c l)
          (list-few-stores false (J.operation_below d p o) (A.operation_below S d o) (ih o l) (operation_at d o).body c (body-fine o (sym (judged-so n o l) ∙ e)))
      go false q = faulty-fine (sym (judged-none n o (ltb-false o n q)) ∙ e)

  performs-below : (k n : ℕ) → n < k → Performs n
  performs-below zero n h = absurd (omega arith)
  performs-below (suc k) n h = performs-step n (λ m l. performs-below k m (omega arith))

  -- The actions of a state delay no more stores than their work.
  pub few-stores : (r : Run) {w : Worth} (c : Doing X) → J.run_judged d p true (J.operation_below d p (length d.operations)) r ≡ fine w
      → Few (delayed c.store + w.work) (A.run_actions S d r c)
  unfolding A.run_actions Performs
  few-stores r c e =
      let n : ℕ = length d.operations in
      list-few-stores true (J.operation_below d p n) (A.operation_below S d n) (performs-below (suc n) n (omega arith)) r c e
