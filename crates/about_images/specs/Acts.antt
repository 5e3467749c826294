-- Every action of a run that is judged fine is sane, and a run has few records for what it counts.
use Rattle.std.specs.Prelude.{Bool, true, false, cond, [], ◌++◌, ◌≡◌, refl, eqb, leb, ltb, length}
use Rattle.std.proofs.Common.{true≢false, inl, inr, sym, subst, ◌∙◌, arith, eqb-true, leb-true, ltb-false, ltb-true}
use Rattle.std.proofs.Math.Option.{none, some}
use Rattle.std.proofs.Math.Path.{ap}
use Prim.Native.Nat.{ℕ, zero, suc, ◌+◌, ◌-◌, ◌*◌, ◌≤◌, ◌<◌}
use Rattle.std.proofs.lemmas.Bool.{eqb-false}
use Rattle.std.proofs.Math.Dec.{eqb-suc-zero}
use Rattle.std.proofs.Math.ListN.{get_or-eq_default}
use Rattle.language.specs.ActionRules as J
use Rattle.language.specs.ActionRules.{Shape, actions, arms, kind_at, simple_judged}
use Rattle.language.specs.Canonical.{action_count}
use Rattle.language.specs.Description as D
use Rattle.language.specs.Description.{Action, Description, Places, Run, action_at, action_place, no_run, state_at}
use Rattle.language.specs.Expressions.{own_work, selects}
use Rattle.language.specs.Judging.{Judged, Worth, fine, given_both, refuse, unless, worth}
use Rattle.language.specs.Order.{start_at}
use Rattle.language.specs.Recursion.{below-lt}
use Rattle.language.specs.declared.refusals.Refusal.TheVariants.{BadLength, BadName, BadStore, NoContinuation}
use Rattle.language.specs.Storing.{may_store, takes_delayed, takes_immediate}
use Rattle.language.specs.Tree.{Kind}
use Rattle.language.specs.Words.{Position}
use Rattle.about_running.specs.Judged.{append-none-right, both-fine, clean-fine, faulty-fine, given-fine, unless-none}
use Rattle.image_records.proofs.ActionBack.{Sign}
use Rattle.image_records.proofs.NodeBack.{Half}
use Rattle.about_images.specs.Whole.{both_left, both_right}
use Rattle.about_images.specs.Counted.{count, count_add, count-one}
use Rattle.about_images.specs.Trees.{Tree, selects-few}
use Rattle.language.specs.Kinds.{delayed_sign, equal_sign}
use Rattle.language.specs.Tests.{both}

-- A root whose tree is sane wherever it begins.
abbrev pub Own : Description → ℕ → Type 0
Own d n = (s : ℕ) → start_at d n ≡ some s → Tree d n s 0

-- Record numbers of actions are below `end`.
abbrev pub SaneAct : Description → ℕ → Action → Type 0
SaneAct d end (D.store k l r) = Sign k × Own d l × Own d r
SaneAct d end (D.store_pair k l m r) = Sign k × Own d l × Own d m × Own d r
SaneAct d end (D.set l) = Own d l
SaneAct d end (D.perform o) = Half o
SaneAct d end (D.goto s) = Half s
SaneAct d end (D.call s) = Half s
SaneAct d end D.return = Unit {0}
SaneAct d end (D.when c x) = Own d c × (x < end)
SaneAct d end (D.choose c n x) = Own d c × Half n × (x < end)
SaneAct d end (D.arm x) = x < end
SaneAct d end D.Action.broken = Unit {0}

abbrev pub acts : Description → ℕ → ℕ
acts d n = action_count (action_at d n)

sign-so : (k : ℕ) (f : Kind) → may_store k f ≡ true → Sign k
unfolding may_store
sign-so k f e = by-delayed (eqb k delayed_sign) refl (eqb k equal_sign) refl e
  where
    by-delayed : (a : Bool) → eqb k delayed_sign ≡ a → (b : Bool) → eqb k equal_sign ≡ b → cond a (takes_delayed f) (cond b (takes_immediate f) false) ≡ true → Sign k
    by-delayed true p b q z = inl (eqb-true k delayed_sign p)
    by-delayed false p true q z = inr (eqb-true k equal_sign q)
    by-delayed false p false q z = absurd (true≢false (sym z))

-- A state with a name is there.
named-there : (d : Description) (s : ℕ) → 0 < length (state_at d s).name → s < length d.states
unfolding state_at
named-there d s h = by-test (ltb s (length d.states)) refl
  where
    by-test : (b : Bool) → ltb s (length d.states) ≡ b → s < length d.states
    by-test true e = ltb-true s (length d.states) e
    by-test false e =
        let z = get_or-eq_default d.states (record { name = []; value = none; actions = no_run }) (ltb-false s (length d.states) e) in
        absurd (let y : 0 < 0 = rw z at h in omega arith)

-- At most half of the records of a list are arms, and the last is none.
most : (a c : ℕ) → (0 < a → a + 1 ≤ 2 * c) → a ≤ 2 * c
most zero c h = omega arith
most (suc a) c h = omega (arith, h (omega arith))

module _ (d : Description) (p : Places) (end : ℕ) (few-states : length d.states ≤ 256)
    (in_state : Bool) (works : ℕ → Judged) (known-works : (o : ℕ) (w : Worth) → works o ≡ fine w → Half o)
    (sides : (n : ℕ) (w : Worth) → J.side d p in_state works n ≡ fine w → Own d n)
    (rights : (n : ℕ) (w : Worth) → J.right d p in_state works n ≡ fine w → Own d n) where
  -- ---- One action.

  only : (b : Bool) (at : Position) (j : Judged) {w : Worth} → J.only_in d p in_state works b at j ≡ fine w → j ≡ fine w
  only true at j e = e
  only false at j e = faulty-fine e

  may-store : (allowed : Bool) (at : Position) (v w : Worth) {u : Worth} → J.stored d p in_state works allowed at v w ≡ fine u → allowed ≡ true
  may-store allowed at v w e =
      unless-none allowed at BadStore (append-none-right (unless (eqb v.length w.length) at BadLength) _ (clean-fine (unless (eqb v.length w.length) at BadLength ++ unless allowed at BadStore) _ e).none)

  to-state : (at : Position) (s : ℕ) {w : Worth} → J.to_state d p in_state works at s ≡ fine w → Half s
  to-state at s {w} e = go (ltb 0 (length (state_at d s).name)) refl e
    where
      go : (b : Bool) → ltb 0 (length (state_at d s).name) ≡ b → cond b (worth 1 0 own_work) (refuse at BadName) ≡ fine w → Half s
      go true t k = omega (arith, named-there d s (ltb-true 0 (length (state_at d s).name) t))
      go false t k = faulty-fine k

  simple-sane : (a : Action) (at : Position) {w : Worth} → simple_judged d p in_state works at a ≡ fine w → SaneAct d end a × (action_count a ≡ 1)
  unfolding simple_judged
  simple-sane (D.store k l r) at e =
      let k' = J.stored d p in_state works (may_store k (kind_at d l)) at in
      let t = both-fine (J.side d p in_state works l) (J.right d p in_state works r) k'
      (only (J.not_in_state d p in_state works) at (given_both (J.side d p in_state works l) (J.right d p in_state works r) k') e) in
      ((sign-so k _ (may-store (may_store k (kind_at d l)) at t.u t.v t.own), sides l _ t.left, rights r _ t.right), refl)
  simple-sane (D.store_pair k l m r) at e =
      let k' = J.stored d p in_state works (both (may_store k (kind_at d l)) (may_store k (kind_at d m))) at in
      let t = both-fine (J.sides d p in_state works l m) (J.right d p in_state works r) k'
      (only (J.not_in_state d p in_state works) at (given_both (J.sides d p in_state works l m) (J.right d p in_state works r) k') e) in
      let u = both-fine (J.side d p in_state works l) (J.side d p in_state works m) _ t.left in
      let s = may-store (both (may_store k (kind_at d l)) (may_store k (kind_at d m))) at t.u t.v t.own in
      ((sign-so k _ (both_left (may_store k (kind_at d l)) _ s), sides l _ u.left, sides m _ u.right, rights r _ t.right), refl)
  simple-sane (D.set l) at e = (sides l _ (given-fine (J.side d p in_state works l) _ e).part, refl)
  simple-sane (D.perform o) at e = (known-works o _ (given-fine (works o) _ e).part, refl)
  simple-sane (D.goto s) at e = (to-state at s (only in_state at (J.to_state d p in_state works at s) e), refl)
  simple-sane (D.call s) at e = (to-state at s (only in_state at (J.to_state d p in_state works at s) e), refl)
  simple-sane D.return at e = (tt, refl)
  simple-sane (D.when c x) at e = faulty-fine e
  simple-sane (D.choose c n x) at e = faulty-fine e
  simple-sane (D.arm x) at e = faulty-fine e
  simple-sane D.Action.broken at e = faulty-fine e

  -- ---- Runs of k records from record i on.

  abbrev judged : ℕ → ℕ → Shape → Judged
  judged k i s = J.run_step d p in_state works (J.run_below d p in_state works k) k i s

  judged-lt : (k a i : ℕ) (s : Shape) → a < k → J.run_below d p in_state works k a i s ≡ judged a i s
  unfolding J.run_below
  judged-lt k a i s h = ap (λ (f : ℕ → Shape → Judged). f i s) (below-lt (λ i s. refuse D.nowhere NoContinuation) (J.run_step d p in_state works) k a h)

  abbrev All : ℕ → ℕ → Type 0
  All i k = (j : ℕ) → i ≤ j → j < i + k → SaneAct d end (action_at d j)

  pub record Claim (k : ℕ) : Type 0 where
    pub as-list : (i : ℕ) {w : Worth} → i + k ≤ end → judged k i actions ≡ fine w → All i k × (0 < k → k + 1 ≤ 2 * count (acts d) i k)
    pub as-arms : (i : ℕ) {w : Worth} → i + k ≤ end → judged k i arms ≡ fine w → All i k × (k ≤ 2 * count (acts d) i k)

  module _ (m : ℕ) (ih : (a : ℕ) → a < suc m → Claim a) (i : ℕ) (room : i + suc m ≤ end) where
    abbrev ev : ℕ → ℕ → Shape → Judged
    ev = J.run_below d p in_state works (suc m)

    -- This record, and those after it.
    first-and : SaneAct d end (action_at d i) → All (i + 1) m → All i (suc m)
    first-and own rest j l r = by-test (eqb j i) refl
      where
        by-test : (b : Bool) → eqb j i ≡ b → SaneAct d end (action_at d j)
        by-test true e = subst (λ (n : ℕ). SaneAct d end (action_at d n)) (sym (eqb-true j i e)) own
        by-test false e = rest j (omega (arith, eqb-false j i e)) (omega arith)

    two_runs : (x : ℕ) → x ≤ m → All (i + 1) x → All (i + 1 + x) (m - x) → All (i + 1) m
    two_runs x h f g j l r = by-test (ltb j (i + 1 + x)) refl
      where
        by-test : (b : Bool) → ltb j (i + 1 + x) ≡ b → SaneAct d end (action_at d j)
        by-test true e = f j l (ltb-true j (i + 1 + x) e)
        by-test false e = g j (ltb-false j (i + 1 + x) e) (omega arith)

    count-first : count (acts d) i (suc m) ≡ action_count (action_at d i) + count (acts d) (i + 1) m
    count-first =
        let e : suc m ≡ 1 + m = omega arith in
        rw e (count_add (acts d) i 1 m ∙ rw (count-one (acts d) i))

    count-two : (x : ℕ) → x ≤ m → count (acts d) (i + 1) m ≡ count (acts d) (i + 1) x + count (acts d) (i + 1 + x) (m - x)
    count-two x h = let e : m ≡ x + (m - x) = omega arith in ap (count (acts d) (i + 1)) e ∙ count_add (acts d) (i + 1) x (m - x)

    later : (a j : ℕ) {w : Worth} → a < suc m → j + a ≤ end → ev a j actions ≡ fine w → All j a × (0 < a → a + 1 ≤ 2 * count (acts d) j a)
    later a j l r e = (ih a l).as-list j r (sym (judged-lt (suc m) a j actions l) ∙ e)

    later-arms : (a j : ℕ) {w : Worth} → a < suc m → j + a ≤ end → ev a j arms ≡ fine w → All j a × (a ≤ 2 * count (acts d) j a)
    later-arms a j l r e = (ih a l).as-arms j r (sym (judged-lt (suc m) a j arms l) ∙ e)

    plain-sane : (a : Action) {w : Worth} → action_at d i ≡ a → J.plainly d p in_state works ev m i ≡ fine w → All i (suc m) × (0 < suc m → suc m + 1 ≤ 2 * count (acts d) i (suc m))
    plain-sane a q e =
        let t = both-fine (simple_judged d p in_state works (action_place p i) (action_at d i)) (ev m (i + 1) actions) _ e in
        let own = simple-sane (action_at d i) (action_place p i) t.left in
        let rest = later m (i + 1) (omega arith) (omega arith) t.right in
        (first-and own.0 rest.0, λ h. omega (arith, count-first, own.1, most m (count (acts d) (i + 1) m) rest.1))

    record Held (c x : ℕ) (test : Worth → Worth → Bool) : Type 0 where
      fits : x ≤ m
      condition : Worth
      condition-fine : J.right d p in_state works c ≡ fine condition
      inner : Worth
      inner-fine : ev x (i + 1) arms ≡ fine inner
      holds : test condition inner ≡ true
      rest : Worth
      rest-fine : ev (m - x) (i + 1 + x) actions ≡ fine rest

    held : (c x : ℕ) (test : Worth → Worth → Bool) {w : Worth}
        → J.holding d p in_state works ev m i x (J.conditional d p in_state works (action_place p i) (J.right d p in_state works c) (ev x (i + 1) arms) test) ≡ fine w → Held c x test
    held c x test {w} e = go (leb x m) refl e
      where
        tested : (t : Bool) (j : Judged) {v : Worth} → cond t j (refuse (action_place p i) BadLength) ≡ fine v → t ≡ true
        tested true j e = refl
        tested false j e = faulty-fine e

        go : (b : Bool) → leb x m ≡ b
            → cond b (given_both (J.conditional d p in_state works (action_place p i) (J.right d p in_state works c) (ev x (i + 1) arms) test) (ev (m - x) (i + 1 + x) actions) (J.all_work d p in_state works)) (refuse D.nowhere NoContinuation) ≡ fine w
            → Held c x test
        go false q k = faulty-fine k
        go true q k =
            let y = both-fine (J.conditional d p in_state works (action_place p i) (J.right d p in_state works c) (ev x (i + 1) arms) test) (ev (m - x) (i + 1 + x) actions) _ k in
            let z = both-fine (J.right d p in_state works c) (ev x (i + 1) arms) _ y.left in
            record {
              fits = leb-true x m q;
              condition = z.u;
              condition-fine = z.left;
              inner = z.v;
              inner-fine = z.right;
              holds = tested (test z.u z.v) _ z.own;
              rest = y.v;
              rest-fine = y.right;
            }

    holding-sane : (c x : ℕ) (test : Worth → Worth → Bool) → Held c x test → SaneAct d end (action_at d i) → action_count (action_at d i) ≡ 1
        → All i (suc m) × (0 < suc m → suc m + 1 ≤ 2 * count (acts d) i (suc m))
    holding-sane c x test y own one =
        let l : x ≤ m = y.fits in
        let u = later-arms x (i + 1) (omega arith) (omega arith) y.inner-fine in
        let v = later (m - x) (i + 1 + x) (omega arith) (omega arith) y.rest-fine in
        (first-and own (two_runs x l u.0 v.0), λ h. omega (arith, count-first, count-two x l, one, u.1, most (m - x) (count (acts d) (i + 1 + x) (m - x)) v.1))

    list-sane : (a : Action) {w : Worth} → action_at d i ≡ a → J.list_judged d p in_state works ev m i a ≡ fine w → All i (suc m) × (0 < suc m → suc m + 1 ≤ 2 * count (acts d) i (suc m))
    unfolding J.list_judged
    list-sane (D.store k l r) q e = plain-sane (D.store k l r) q e
    list-sane (D.store_pair k l n r) q e = plain-sane (D.store_pair k l n r) q e
    list-sane (D.set l) q e = plain-sane (D.set l) q e
    list-sane (D.perform o) q e = plain-sane (D.perform o) q e
    list-sane (D.goto s) q e = plain-sane (D.goto s) q e
    list-sane (D.call s) q e = plain-sane (D.call s) q e
    list-sane D.return q e = plain-sane D.return q e
    list-sane (D.when c x) q e =
        let y = held c x (λ v w. both (eqb v.length 1) (eqb w.arms 1)) e in
        holding-sane c x _ y (rw q (rights c _ y.condition-fine, omega (arith, y.fits))) (rw q)
    list-sane (D.choose c n x) q e =
        let y = held c x (λ v w. both (selects v.length n) (eqb w.arms n)) e in
        let f = selects-few y.condition.length n (both_left (selects y.condition.length n) (eqb y.inner.arms n) y.holds) in
        holding-sane c x _ y (rw q (rights c _ y.condition-fine, omega (arith, f), omega (arith, y.fits))) (rw q)
    list-sane (D.arm x) q e = plain-sane (D.arm x) q e
    list-sane D.Action.broken q e = plain-sane D.Action.broken q e

    arm-sane : (x : ℕ) {w : Worth} → action_at d i ≡ D.arm x → J.arm_after d p in_state works ev m i x ≡ fine w → All i (suc m) × (suc m ≤ 2 * count (acts d) i (suc m))
    arm-sane x {w} q e = go (both (leb 1 x) (leb x m)) refl e
      where
        go : (b : Bool) → both (leb 1 x) (leb x m) ≡ b
            → cond b (given_both (ev x (i + 1) actions) (ev (m - x) (i + 1 + x) arms) (λ v w. worth 1 (w.arms + 1) (v.work + w.work))) (refuse D.nowhere NoContinuation) ≡ fine w
            → All i (suc m) × (suc m ≤ 2 * count (acts d) i (suc m))
        go false t k = faulty-fine k
        go true t k =
            let one : 1 ≤ x = leb-true 1 x (both_left (leb 1 x) (leb x m) t) in
            let l : x ≤ m = leb-true x m (both_right (leb 1 x) (leb x m) t) in
            let y = both-fine (ev x (i + 1) actions) (ev (m - x) (i + 1 + x) arms) _ k in
            let u = later x (i + 1) (omega arith) (omega arith) y.left in
            let v = later-arms (m - x) (i + 1 + x) (omega arith) (omega arith) y.right in
            (first-and (rw q (omega arith)) (two_runs x l u.0 v.0), omega (arith, count-first, count-two x l, u.1 one, v.1))

    arms-sane : (a : Action) {w : Worth} → action_at d i ≡ a → J.arms_judged d p in_state works ev m i a ≡ fine w → All i (suc m) × (suc m ≤ 2 * count (acts d) i (suc m))
    unfolding J.arms_judged
    arms-sane (D.store k l r) q e = faulty-fine e
    arms-sane (D.store_pair k l n r) q e = faulty-fine e
    arms-sane (D.set l) q e = faulty-fine e
    arms-sane (D.perform o) q e = faulty-fine e
    arms-sane (D.goto s) q e = faulty-fine e
    arms-sane (D.call s) q e = faulty-fine e
    arms-sane D.return q e = faulty-fine e
    arms-sane (D.when c x) q e = faulty-fine e
    arms-sane (D.choose c n x) q e = faulty-fine e
    arms-sane (D.arm x) q e = arm-sane x q e
    arms-sane D.Action.broken q e = faulty-fine e

  none_left : Claim 0
  none_left = record {
    as-list = λ i h e. (λ j l r. absurd (omega arith), λ h. absurd (omega arith));
    as-arms = λ i h e. (λ j l r. absurd (omega arith), omega arith);
  }

  one_less : (m : ℕ) → suc m - 1 ≡ m
  one_less m = omega arith

  some_left : (m : ℕ) → ((a : ℕ) → a < suc m → Claim a) → Claim (suc m)
  some_left m ih = record {
    as-list = λ i h e. list-sane m ih i h (action_at d i) refl (rw (one_less m, eqb-suc-zero m) at e);
    as-arms = λ i h e. arms-sane m ih i h (action_at d i) refl (rw (one_less m, eqb-suc-zero m) at e);
  }

  claim-below : (n k : ℕ) → k < n → Claim k
  claim-below zero k h = absurd (omega arith)
  claim-below (suc n) zero h = none_left
  claim-below (suc n) (suc m) h = some_left m (λ a l. claim-below n a (omega arith))

  -- The actions of a run.
  pub run-sane : (r : Run) {w : Worth} → r.first + r.count ≤ end → J.run_judged d p in_state works r ≡ fine w
      → ((j : ℕ) → r.first ≤ j → j < r.first + r.count → SaneAct d end (action_at d j)) × (r.count ≤ 2 * count (acts d) r.first r.count)
  unfolding J.run_judged
  run-sane r h e =
      let y = (claim-below (suc r.count) r.count (omega arith)).as-list r.first h e in
      (y.0, most r.count (count (acts d) r.first r.count) y.1)
