-- Never stuck, for lists of actions and their conditionals. Assumes nothing.
use Rattle.std.specs.Prelude.{Bool, cond, eqb, leb, length}
use Rattle.std.proofs.Math.Bool.{true, false}
use Rattle.std.proofs.Math.Option.{some}
use Rattle.std.proofs.Math.Path.{◌≡◌, refl, sym, ap, subst}
use Rattle.std.proofs.Common.{◌∙◌}
use native.Mathlib.Omega.{arith}
use Prim.Native.Nat.{ℕ, zero, suc, ◌+◌, ◌-◌, ◌≤◌, ◌<◌}
use borrow.Author.Tests.{eq-eqb, eqb-true, le-leb, leb-true, lt-ltb}
use Rattle.std.proofs.Math.Dec.{eqb-suc-zero}
use Rattle.language.specs.Acting as A
use Rattle.language.specs.Acting.{Doing, Ran, onward, went}
use Rattle.language.specs.ActionRules as J
use Rattle.language.specs.ActionRules.{Shape, actions, arms, simple_judged}
use Rattle.language.specs.Description as D
use Rattle.language.specs.Description.{Action, Description, Places, Run, action_at, action_place, facility_at}
use Rattle.language.specs.Expressions.{expression_at, selects, terminal_below}
use Rattle.language.specs.Judging.{Judged, Worth, fine, given_both, refuse, worth}
use Rattle.language.specs.Meaning.{Stores, runs_over}
use Rattle.about_running.specs.Conditionals.{arm-number, decided, selected}
use Rattle.language.specs.Recursion.{below-lt}
use Rattle.about_running.specs.OneAction.{plainly, simple}
use Rattle.about_running.specs.Evaluates.{Terminal}
use Rattle.about_running.specs.Executes as E
use Rattle.about_running.specs.Executes.{Keeps, Ready, Rooted}
use Rattle.about_running.specs.Judged.{both-fine, faulty-fine}
use Rattle.language.specs.declared.refusals.Refusal.TheVariants.{BadLength, NoContinuation}
use Rattle.language.specs.Tests.{both}

both_true : (a b : Bool) → both a b ≡ true → (a ≡ true) × (b ≡ true)
both_true true b h = (refl, h)
both_true false b h = absurd (let z : ◌≡◌ {A = ℕ} 0 1 = cc in omega arith)

module _ {X : Type 0} (S : Stores X) (d : Description) (p : Places) (Inv : X → Type 0) (keeps : Keeps S d Inv) (base : ℕ)
    (terms : (x : X) (f : ℕ) (w : Worth) → f < length d.facilities → ◌≡◌ {A = Bool} (D.is_computed (facility_at d f).kind) true
    → terminal_below d p (length d.facilities) f ≡ fine w → Terminal S d x base f w)
    (rooted : (i : ℕ) → Rooted S d p Inv keeps base terms (action_at d i)) where
  abbrev Good : Ran X → Type 0
  Good = E.Good S d p Inv keeps base terms

  abbrev Set : Doing X → Type 0
  Set = Ready S d p Inv keeps base terms

  onward-good : (r : Ran X) (on : Doing X → Ran X) → Good r → ((c : Doing X) → Set c → Good (on c)) → Good (onward r on)
  onward-good (went c) on (E.good h g s) k = k c (h, g, s)
  onward-good (Ran.stopped n) on E.stops_so k = E.stops_so
  onward-good (A.stuck _) on x3 k = elim x3 [ ]

  module _ (in_state : Bool) (works : ℕ → Judged) (perform : ℕ → Doing X → Ran X)
      (performs : (o : ℕ) (w : Worth) (c : Doing X) → works o ≡ fine w → Set c → Good (perform o c)) where
    abbrev judged : ℕ → ℕ → Shape → Judged
    judged k i s = J.run_step d p in_state works (J.run_below d p in_state works k) k i s

    abbrev exec : ℕ → ℕ → Doing X → Ran X
    exec k i c = A.list_step S d perform (A.list_below S d perform k) k i c

    judged-lt : (k a i : ℕ) (s : Shape) → a < k → J.run_below d p in_state works k a i s ≡ judged a i s
    unfolding J.run_below
    judged-lt k a i s h = ap (λ (f : ℕ → Shape → Judged). f i s) (below-lt (λ i s. refuse D.nowhere NoContinuation) (J.run_step d p in_state works) k a h)

    exec-lt : (k a i : ℕ) (c : Doing X) → a < k → A.list_below S d perform k a i c ≡ exec a i c
    unfolding A.list_below
    exec-lt k a i c h = ap (λ (f : ℕ → Doing X → Ran X). f i c) (below-lt (λ i c. Ran.stuck runs_over) (A.list_step S d perform) k a h)

    -- The run of an arm: found, shorter, and judged fine.
    pub record ArmRun (j i k : ℕ) : Type 0 where
      pub run : Run
      pub found : A.arm_at d j i k ≡ some run
      pub shorter : run.count < k
      pub worth' : Worth
      pub judged-fine : judged run.count run.first actions ≡ fine worth'

    pub record Claim (k : ℕ) : Type 0 where
      pub as-list : (i : ℕ) {w : Worth} (c : Doing X) → judged k i actions ≡ fine w → Set c → Good (exec k i c)
      pub as-arms : (i : ℕ) {w : Worth} → judged k i arms ≡ fine w → (j : ℕ) → j < w.arms → ArmRun j i k

    module _ (m : ℕ) (ih : (a : ℕ) → a < suc m → Claim a) (i : ℕ) where
      abbrev ev : ℕ → ℕ → Shape → Judged
      ev = J.run_below d p in_state works (suc m)

      abbrev EV : ℕ → ℕ → Doing X → Ran X
      EV = A.list_below S d perform (suc m)

      fewer : (a i' : ℕ) {w : Worth} (c : Doing X) → a < suc m → ev a i' actions ≡ fine w → Set c → Good (EV a i' c)
      fewer a i' c l e h = rw (exec-lt (suc m) a i' c l) ((ih a l).as-list i' c (sym (judged-lt (suc m) a i' actions l) ∙ e) h)

      passing-good : (x : ℕ) {w : Worth} (c : Doing X) → x ≤ m → ev (m - x) (i + 1 + x) actions ≡ fine w → Set c → Good (A.passing S d perform EV m i x c)
      passing-good x c l e h = rw (le-leb x m l) (fewer (m - x) (i + 1 + x) c (omega arith) e h)

      plain-good : (a : Action) {w : Worth} (c : Doing X) → action_at d i ≡ a → J.plainly d p in_state works ev m i ≡ fine w → Set c → Good (plainly S d perform EV m i a c)
      plain-good a c q e h =
          let y = both-fine (simple_judged d p in_state works (action_place p i) (action_at d i)) (ev m (i + 1) actions) _ e in
          let l : simple_judged d p in_state works (action_place p i) a ≡ fine y.u = ap (simple_judged d p in_state works (action_place p i)) (sym q) ∙ y.left in
          onward-good _ _
          (E.simple-good S d p Inv keeps base terms in_state works perform performs a (action_place p i) c
          (subst (Rooted S d p Inv keeps base terms) q (rooted i)) h l)
          (λ c' h'. fewer m (i + 1) c' (omega arith) y.right h')

      -- What holds of a conditional judged fine.
      record Held (c x : ℕ) (test : Worth → Worth → Bool) : Type 0 where
        fits : x ≤ m
        condition : Worth
        condition-fine : expression_at d p (terminal_below d p (length d.facilities)) (length d.facilities) c ≡ fine condition
        inner : Worth
        inner-fine : ev x (i + 1) arms ≡ fine inner
        holds : test condition inner ≡ true
        rest : Worth
        rest-fine : ev (m - x) (i + 1 + x) actions ≡ fine rest

      held : (c x : ℕ) (test : Worth → Worth → Bool) {w : Worth}
          → J.holding d p in_state works ev m i x (J.conditional d p in_state works (action_place p i) (J.right d p in_state works c) (ev x (i + 1) arms) test) ≡ fine w → Held c x test
      held c x test {w} e = go (leb x m) refl e
        where
          go : (b : Bool) → leb x m ≡ b
              → cond b (given_both (J.conditional d p in_state works (action_place p i) (J.right d p in_state works c) (ev x (i + 1) arms) test) (ev (m - x) (i + 1 + x) actions) (J.all_work d p in_state works)) (refuse D.nowhere NoContinuation) ≡ fine w
              → Held c x test
          go false q k = faulty-fine k
          go true q k =
              let y = both-fine (J.conditional d p in_state works (action_place p i) (J.right d p in_state works c) (ev x (i + 1) arms) test) (ev (m - x) (i + 1 + x) actions) _ k in
              let z = both-fine (J.right d p in_state works c) (ev x (i + 1) arms) _ y.left in
              record {
                fits = leb-true x m q;
                condition = z.u;
                condition-fine = z.left;
                inner = z.v;
                inner-fine = z.right;
                holds = tested (test z.u z.v) _ z.own;
                rest = y.v;
                rest-fine = y.right;
              }
            where
              tested : (t : Bool) (j : Judged) {v : Worth} → cond t j (refuse (action_place p i) BadLength) ≡ fine v → t ≡ true
              tested true j e = refl
              tested false j e = faulty-fine e

      arm-good : (x j : ℕ) {w v : Worth} (c : Doing X) → x ≤ m → ev x (i + 1) arms ≡ fine w → j < w.arms → ev (m - x) (i + 1 + x) actions ≡ fine v → Set c
          → Good (A.in_arm S d perform EV m i x (A.arm_at d j (i + 1) x) c)
      arm-good x j c l e h r s =
          let y = (ih x (omega arith)).as-arms (i + 1) (sym (judged-lt (suc m) x (i + 1) arms (omega arith)) ∙ e) j h in
          let q : y.run.count < suc m = omega (arith, y.shorter) in
          rw y.found
          (onward-good _ _ (fewer y.run.count y.run.first c q (judged-lt (suc m) y.run.count y.run.first actions q ∙ y.judged-fine) s)
          (λ c' s'. passing-good x c' l r s'))

      when-good : (e x : ℕ) {w : Worth} (c : Doing X) → action_at d i ≡ D.when e x → J.list_judged d p in_state works ev m i (D.when e x) ≡ fine w → Set c → Good (A.list_act S d perform EV m i (D.when e x) c)
      unfolding J.list_judged A.list_act
      when-good e x c q k h =
          let y = held e x (λ v w. both (eqb v.length 1) (eqb w.arms 1)) k in
          let t = both_true (eqb y.condition.length 1) (eqb y.inner.arms 1) y.holds in
          let own : E.Own S d p Inv keeps base terms e = subst (Rooted S d p Inv keeps base terms) q (rooted i) in
          E.on_value_lem S d p Inv keeps base terms _ (E.right-gives S d p Inv keeps base terms c.store e own y.condition-fine) (λ v lv fv.
          let one : v.length ≡ 1 = lv ∙ eqb-true _ _ t.0 in
          let arms-one : y.inner.arms ≡ 1 = eqb-true _ _ t.1 in
          rw (eq-eqb v.length 1 one) (chosen (eqb v.number 0)
          (passing-good x c y.fits y.rest-fine h)
          (arm-good x 0 c y.fits y.inner-fine (omega arith) y.rest-fine h)))
        where
          chosen : (b : Bool) {r r' : Ran X} → Good r → Good r' → Good (cond b r r')
          chosen true g g' = g
          chosen false g g' = g'

      choose-good : (e n x : ℕ) {w : Worth} (c : Doing X) → action_at d i ≡ D.choose e n x → J.list_judged d p in_state works ev m i (D.choose e n x) ≡ fine w → Set c → Good (A.list_act S d perform EV m i (D.choose e n x) c)
      unfolding J.list_judged A.list_act
      choose-good e n x c q k h =
          let y = held e x (λ v w. both (selects v.length n) (eqb w.arms n)) k in
          let t = both_true (selects y.condition.length n) (eqb y.inner.arms n) y.holds in
          let own : E.Own S d p Inv keeps base terms e = subst (Rooted S d p Inv keeps base terms) q (rooted i) in
          let all : y.inner.arms ≡ n = eqb-true _ _ t.1 in
          E.on_value_lem S d p Inv keeps base terms _ (E.right-gives S d p Inv keeps base terms c.store e own y.condition-fine) (λ v lv fv.
          let l : v.number < n = rw (selected y.condition.length n t.0) fv in
          let z = arm-number n v.number (omega arith) l in
          rw (decided n y.condition.length v lv (selected y.condition.length n t.0), z.1) (arm-good x (z.0 - 1) c y.fits y.inner-fine (omega (arith, z.2, z.3)) y.rest-fine h))

      -- An arm, and a broken record, are no action.
      none-such : Action → Bool
      none-such (D.store k l r) = false
      none-such (D.store_pair k l n r) = false
      none-such (D.set l) = false
      none-such (D.perform o) = false
      none-such (D.goto s) = false
      none-such (D.call s) = false
      none-such D.return = false
      none-such (D.when b x) = true
      none-such (D.choose b n x) = true
      none-such (D.arm x) = true
      none-such D.Action.broken = true

      not-simple : {A : Type 0} {v : Worth} (a : Action) → action_at d i ≡ a → none-such a ≡ true → simple_judged d p in_state works (action_place p i) (action_at d i) ≡ fine v → A
      unfolding simple_judged none-such
      not-simple (D.store k l r) q t e = absurd (let z : ◌≡◌ {A = ℕ} 0 1 = cc in omega arith)
      not-simple (D.store_pair k l n r) q t e = absurd (let z : ◌≡◌ {A = ℕ} 0 1 = cc in omega arith)
      not-simple (D.set l) q t e = absurd (let z : ◌≡◌ {A = ℕ} 0 1 = cc in omega arith)
      not-simple (D.perform o) q t e = absurd (let z : ◌≡◌ {A = ℕ} 0 1 = cc in omega arith)
      not-simple (D.goto s) q t e = absurd (let z : ◌≡◌ {A = ℕ} 0 1 = cc in omega arith)
      not-simple (D.call s) q t e = absurd (let z : ◌≡◌ {A = ℕ} 0 1 = cc in omega arith)
      not-simple D.return q t e = absurd (let z : ◌≡◌ {A = ℕ} 0 1 = cc in omega arith)
      not-simple (D.when b x) q t e = faulty-fine (rw q at e)
      not-simple (D.choose b n x) q t e = faulty-fine (rw q at e)
      not-simple (D.arm x) q t e = faulty-fine (rw q at e)
      not-simple D.Action.broken q t e = faulty-fine (rw q at e)

      list-good : (a : Action) {w : Worth} (c : Doing X) → action_at d i ≡ a → J.list_judged d p in_state works ev m i a ≡ fine w → Set c → Good (A.list_act S d perform EV m i a c)
      unfolding J.list_judged A.list_act none-such simple
      list-good (D.store k l r) c q e h = plain-good (D.store k l r) c q e h
      list-good (D.store_pair k l n r) c q e h = plain-good (D.store_pair k l n r) c q e h
      list-good (D.set l) c q e h = plain-good (D.set l) c q e h
      list-good (D.perform o) c q e h = plain-good (D.perform o) c q e h
      list-good (D.goto s) c q e h = plain-good (D.goto s) c q e h
      list-good (D.call s) c q e h = plain-good (D.call s) c q e h
      list-good D.return c q e h = plain-good D.return c q e h
      list-good (D.when b x) c q e h = when-good b x c q e h
      list-good (D.choose b n x) c q e h = choose-good b n x c q e h
      list-good (D.arm x) c q e h = not-simple (D.arm x) q refl (both-fine (simple_judged d p in_state works (action_place p i) (action_at d i)) (ev m (i + 1) actions) _ e).left
      list-good D.Action.broken c q e h =
          not-simple D.Action.broken q refl (both-fine (simple_judged d p in_state works (action_place p i) (action_at d i)) (ev m (i + 1) actions) _ e).left

      -- ---- Arms.

      -- An arm's own run, and the arms after it.
      record Arm (x : ℕ) (w : Worth) : Type 0 where
        some-actions : 1 ≤ x
        fits : x ≤ m
        own : Worth
        own-fine : ev x (i + 1) actions ≡ fine own
        later : Worth
        later-fine : ev (m - x) (i + 1 + x) arms ≡ fine later
        count : w.arms ≡ later.arms + 1

      arm_held : (x : ℕ) {w : Worth} → J.arm_after d p in_state works ev m i x ≡ fine w → Arm x w
      arm_held x {w} e = go (both (leb 1 x) (leb x m)) refl e
        where
          go : (b : Bool) → both (leb 1 x) (leb x m) ≡ b
              → cond b (given_both (ev x (i + 1) actions) (ev (m - x) (i + 1 + x) arms) (λ v w. worth 1 (w.arms + 1) (v.work + w.work))) (refuse D.nowhere NoContinuation) ≡ fine w → Arm x w
          go false q k = faulty-fine k
          go true q k =
              let t = both_true (leb 1 x) (leb x m) q in
              let y = both-fine (ev x (i + 1) actions) (ev (m - x) (i + 1 + x) arms) (λ v w. worth 1 (w.arms + 1) (v.work + w.work)) k in
              let own : worth 1 (y.v.arms + 1) (y.u.work + y.v.work) ≡ fine w = y.own in
              let n : y.v.arms + 1 ≡ w.arms = cc in
              record {
                some-actions = leb-true 1 x t.0;
                fits = leb-true x m t.1;
                own = y.u;
                own-fine = y.left;
                later = y.v;
                later-fine = y.right;
                count = sym n;
              }

      first-arm : (x : ℕ) {w : Worth} → action_at d i ≡ D.arm x → Arm x w → ArmRun 0 i (suc m)
      unfolding A.arm_at
      first-arm x q y = record {
        run = record { first = i + 1; count = x };
        found = rw (q, lt-ltb x (suc m) (omega (arith, y.fits)));
        shorter = omega (arith, y.fits);
        worth' = y.own;
        judged-fine = sym (judged-lt (suc m) x (i + 1) actions (omega (arith, y.fits))) ∙ y.own-fine;
      }

      next-arm : (x j : ℕ) {w : Worth} → action_at d i ≡ D.arm x → Arm x w → suc j < w.arms → ArmRun (suc j) i (suc m)
      unfolding A.arm_at
      next-arm x j q y h =
          let l : m - x < suc m = omega arith in
          let z = (ih (m - x) l).as-arms (i + 1 + x) (sym (judged-lt (suc m) (m - x) (i + 1 + x) arms l) ∙ y.later-fine) j (omega (arith, y.count)) in
          let e : suc m - (x + 1) ≡ m - x = omega arith in
          record {
            run = z.run;
            found = rw (q, lt-ltb x (suc m) (omega (arith, y.fits)), e) z.found;
            shorter = omega (arith, z.shorter);
            worth' = z.worth';
            judged-fine = z.judged-fine;
          }

      arm-found : (x : ℕ) {w : Worth} → action_at d i ≡ D.arm x → Arm x w → (j : ℕ) → j < w.arms → ArmRun j i (suc m)
      arm-found x q y zero h = first-arm x q y
      arm-found x q y (suc j) h = next-arm x j q y h

      arms-good : (a : Action) {w : Worth} → action_at d i ≡ a → J.arms_judged d p in_state works ev m i a ≡ fine w → (j : ℕ) → j < w.arms → ArmRun j i (suc m)
      unfolding J.arms_judged
      arms-good (D.store k l r) q e j h = faulty-fine e
      arms-good (D.store_pair k l n r) q e j h = faulty-fine e
      arms-good (D.set l) q e j h = faulty-fine e
      arms-good (D.perform o) q e j h = faulty-fine e
      arms-good (D.goto s) q e j h = faulty-fine e
      arms-good (D.call s) q e j h = faulty-fine e
      arms-good D.return q e j h = faulty-fine e
      arms-good (D.when b x) q e j h = faulty-fine e
      arms-good (D.choose b n x) q e j h = faulty-fine e
      arms-good (D.arm x) q e j h = arm-found x q (arm_held x e) j h
      arms-good D.Action.broken q e j h = faulty-fine e

    -- No record is left: nothing is done, and there is no arm.
    none_left : Claim 0
    none_left = record {
      as-list = λ i c e h. E.good h.0 h.1 h.2;
      as-arms = λ i {w} e j h. absurd (let own : worth 1 0 0 ≡ fine w = e in let z : 0 ≡ w.arms = cc in omega arith);
    }

    one_less : (m : ℕ) → suc m - 1 ≡ m
    one_less m = omega arith

    some_left : (m : ℕ) → ((a : ℕ) → a < suc m → Claim a) → Claim (suc m)
    some_left m ih = record {
      as-list = λ i c e h. rw (one_less m, eqb-suc-zero m) (list-good m ih i (action_at d i) c refl (rw (one_less m, eqb-suc-zero m) at e) h);
      as-arms = λ i e j h. arms-good m ih i (action_at d i) refl (rw (one_less m, eqb-suc-zero m) at e) j h;
    }

    claim-below : (n k : ℕ) → k < n → Claim k
    claim-below zero k h = absurd (omega arith)
    claim-below (suc n) zero h = none_left
    claim-below (suc n) (suc m) h = some_left m (λ a l. claim-below n a (omega arith))

    -- NEVER STUCK, for a list of actions.
    pub list-runs : (r : Run) {w : Worth} (c : Doing X) → J.run_judged d p in_state works r ≡ fine w → Set c → Good (A.run_list S d perform r c)
    unfolding J.run_judged A.run_list
    list-runs r c e h = (claim-below (suc r.count) r.count (omega arith)).as-list r.first c e h
