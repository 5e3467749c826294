-- A list of actions that is judged fine keeps the rules by the relation of ActionsRight. Assumes nothing.
use Rattle.std.proofs.Math.Bool.{Bool, true, false, cond}
use Rattle.std.specs.Prelude.{◌++◌, ◌≡◌, ℕ, zero, suc, ◌+◌, ◌-◌, ◌^◌, ◌≤◌, ◌<◌, leb, length}
use Rattle.std.proofs.Math.Path.{refl, subst}
use Rattle.std.proofs.Common.{sym, ap, ◌∙◌, add-one}
use native.Mathlib.Omega.{arith}
use borrow.Author.Tests.{eqb-false, eqb-true, leb-true, ltb-false, ltb-true}
use Rattle.std.proofs.Math.Dec.{eqb, ltb}
use Rattle.language.specs.ActionRules as AR
use Rattle.language.specs.ActionRules.{Shape, all_work, arms_judged, kind_at, list_judged, operation_below, operation_step, run_below, run_judged, simple_judged, stored, unknown_operation}
use Rattle.language.specs.Description as D
use Rattle.language.specs.Description.{Action, Description, Places, action_at, action_place, operation_at, state_at}
use Rattle.language.specs.Expressions.{own_work, selects}
use Rattle.language.specs.Judging.{Judged, Worth, fine, given_both, refuse, unless, worth}
use Rattle.language.specs.Kinds.{delayed_sign, equal_sign}
use Rattle.language.specs.Recursion.{below-ge}
use Rattle.language.specs.declared.refusals.Refusal.TheVariants.{BadLength, BadName, BadStore, NoContinuation}
use Rattle.language.specs.Storing.{is_plain, may_store}
use Rattle.language.specs.Tree as T
use Rattle.language.specs.Tree.{Kind, plain}
use Rattle.language.specs.Words.{Position}
use Rattle.about_running.specs.InBounds.{no}
use Rattle.about_running.specs.Judged.{append-none-left, append-none-right, both-fine, clean-fine, faulty-fine, given-fine, unless-none}
use Rattle.about_running.specs.LegalForm.{left-of as both_left, right_of as both_right}
use Rattle.about_running.specs.Operators.{by_kind}
use Rattle.about_rules.specs.ActionsRight as A
use Rattle.about_rules.specs.ActionsRight.{Has, Right, StoresTo}
use Rattle.about_rules.proofs.FineIsLong.{selected}
use Rattle.about_rules.proofs.LeftSides.{fine-left, kind-of}
use Rattle.about_rules.proofs.LengthsJudged.{fine-long, worth-same}
use Rattle.about_rules.proofs.RightIsFine.{arms_step, judged_run, list-step, operation-lt, run-lt, works}
use Rattle.language.specs.Tests.{both}

-- ---- Which store goes where.

delayed-so : (f : Kind) → may_store delayed_sign f ≡ true → StoresTo delayed_sign f
unfolding may_store
delayed-so T.register e = A.delayed-register
delayed-so T.sequencing e = A.delayed-sequencing
delayed-so T.memory e = no e
delayed-so T.plain e = no e
delayed-so T.input e = no e
delayed-so T.computed e = no e

at-once-so : (f : Kind) → may_store equal_sign f ≡ true → StoresTo equal_sign f
unfolding may_store
at-once-so T.register e = A.at-once-register
at-once-so T.sequencing e = no e
at-once-so T.memory e = A.at-once-memory
at-once-so T.plain e = A.at-once-plain
at-once-so T.input e = no e
at-once-so T.computed e = no e

store-may : (k : ℕ) (f : Kind) → may_store k f ≡ true → StoresTo k f
unfolding may_store
store-may k f =
    by_kind (λ (k : ℕ). may_store k f ≡ true → StoresTo k f) k delayed_sign (delayed-so f) (λ e1.
    by_kind (λ (k : ℕ). may_store k f ≡ true → StoresTo k f) k equal_sign (at-once-so f) (λ e2.
    λ h. no (rw (e1, e2) at h)))

plain-so : (f : Kind) → is_plain f ≡ true → f ≡ plain
plain-so T.register e = no e
plain-so T.sequencing e = no e
plain-so T.memory e = no e
plain-so T.plain e = refl
plain-so T.input e = no e
plain-so T.computed e = no e

module _ (d : Description) (p : Places) where
  abbrev all : ℕ
  all = length d.facilities

  module _ (s : Bool) (known : ℕ)
      (ops : (o : ℕ) (w : Worth) → o < known → operation_step d p (works d p o) o ≡ fine w
      → (1 ≤ (operation_at d o).body.count) × Right d false o A.actions (operation_at d o).body.first (operation_at d o).body.count) where
    -- What a list judged fine with this worth is.
    abbrev Says : Shape → ℕ → ℕ → Worth → Type 0
    Says AR.actions i n w = Right d s known A.actions i n
    Says AR.arms i n w = Right d s known (A.arms w.arms) i n

    -- ---- Actions that hold no others.

    module _ (i n : ℕ) (rest : Right d s known A.actions (i + 1) n) where
      abbrev at : Position
      at = action_place p i

      -- Both sides of a store without fault.
      record Both (allowed : Bool) (u v : Worth) : Type 0 where
        even : u.length ≡ v.length
        may : allowed ≡ true

      stored-so : (allowed : Bool) (u v : Worth) {w : Worth} → stored d p s (works d p known) allowed at u v ≡ fine w → Both allowed u v
      stored-so allowed u v e =
          let c = clean-fine (unless (eqb u.length v.length) at BadLength ++ unless allowed at BadStore) _ e in
          record {
            even = eqb-true _ _ (unless-none (eqb u.length v.length) at BadLength (append-none-left _ _ c.none));
            may = unless-none allowed at BadStore (append-none-right (unless (eqb u.length v.length) at BadLength) _ c.none);
          }

      store-says : (k a b : ℕ) → action_at d i ≡ D.store k a b → {w : Worth} → simple_judged d p s (works d p known) at (D.store k a b) ≡ fine w → Right d s known A.actions i (n + 1)
      unfolding simple_judged
      store-says k a b q {w} e = go s rest e
        where
          go : (t : Bool) → Right d t known A.actions (i + 1) n
              → AR.only_in d p s (works d p known) (cond t false true) at (given_both (AR.side d p s (works d p known) a) (AR.right d p s (works d p known) b) (stored d p s (works d p known) (may_store k (kind_at d a)) at)) ≡ fine w
              → Right d t known A.actions i (n + 1)
          go true r h = faulty-fine h
          go false r h =
              let y = both-fine _ _ _ h in
              let z = stored-so (may_store k (kind_at d a)) y.u y.v y.own in
              let f = fine-left d p all a y.left in
              let l : Has d b y.u.length = subst (λ (m : ℕ). Has d b m) (sym z.even) (fine-long d p all b y.right) in
              A.store q (f.refers, f.long) l (store-may k _ (rw (kind-of d p all a f.refers) at z.may)) r

      pair-says : (k a b c : ℕ) → action_at d i ≡ D.store_pair k a b c → {w : Worth} → simple_judged d p s (works d p known) at (D.store_pair k a b c) ≡ fine w → Right d s known A.actions i (n + 1)
      unfolding simple_judged
      pair-says k a b c q {w} e = go s rest e
        where
          allowed : Bool
          allowed = both (may_store k (kind_at d a)) (may_store k (kind_at d b))

          go : (t : Bool) → Right d t known A.actions (i + 1) n
              → AR.only_in d p s (works d p known) (cond t false true) at (given_both (AR.sides d p s (works d p known) a b) (AR.right d p s (works d p known) c) (stored d p s (works d p known) allowed at)) ≡ fine w
              → Right d t known A.actions i (n + 1)
          go true r h = faulty-fine h
          go false r h =
              let y = both-fine (AR.sides d p s (works d p known) a b) (AR.right d p s (works d p known) c) _ h in
              let z = stored-so allowed y.u y.v y.own in
              let x = both-fine (AR.side d p s (works d p known) a) (AR.side d p s (works d p known) b) _ y.left in
              let f = fine-left d p all a x.left in
              let g = fine-left d p all b x.right in
              let together : x.u.length + x.v.length ≡ y.v.length = ap (λ (v : Worth). v.length) (worth-same x.own) ∙ z.even in
              let l : Has d c (x.u.length + x.v.length) = subst (λ (m : ℕ). Has d c m) (sym together) (fine-long d p all c y.right) in
              A.store-pair q (f.refers, f.long) (g.refers, g.long) l
              (store-may k _ (rw (kind-of d p all a f.refers) at (both_left (may_store k (kind_at d a)) (may_store k (kind_at d b)) z.may)))
              (store-may k _ (rw (kind-of d p all b g.refers) at (both_right (may_store k (kind_at d a)) (may_store k (kind_at d b)) z.may))) r

      set_says : (a : ℕ) → action_at d i ≡ D.set a → {w : Worth} → simple_judged d p s (works d p known) at (D.set a) ≡ fine w → Right d s known A.actions i (n + 1)
      unfolding simple_judged
      set_says a q e =
          let y = given-fine (AR.side d p s (works d p known) a) _ e in
          let f = fine-left d p all a y.part in
          let c = clean-fine (unless (both (is_plain (kind_at d a)) (eqb y.v.length 1)) at BadStore) _ y.own in
          let t = unless-none (both (is_plain (kind_at d a)) (eqb y.v.length 1)) at BadStore c.none in
          let l : y.v.length ≡ 1 = eqb-true _ 1 (both_right (is_plain (kind_at d a)) _ t) in
          A.set q (f.refers, subst (λ (m : ℕ). Has d a m) l f.long) (plain-so _ (rw (kind-of d p all a f.refers) at (both_left (is_plain (kind_at d a)) _ t))) rest

      unknown : (o : ℕ) → known ≤ o → works d p known o ≡ unknown_operation d p
      unfolding operation_below
      unknown o h = below-ge (unknown_operation d p) (operation_step d p) known o h

      perform-says : (o : ℕ) → action_at d i ≡ D.perform o → {w : Worth} → simple_judged d p s (works d p known) at (D.perform o) ≡ fine w → Right d s known A.actions i (n + 1)
      unfolding simple_judged
      perform-says o q e = let y = given-fine (works d p known o) _ e in go (ltb o known) refl y.part
        where
          go : (t : Bool) → ltb o known ≡ t → {v : Worth} → works d p known o ≡ fine v → Right d s known A.actions i (n + 1)
          go true t h =
              let l = ltb-true o known t in
              let b = ops o _ l (sym (operation-lt d p known o l) ∙ h) in
              A.perform q l b.0 b.1 rest
          go false t h = faulty-fine (sym (unknown o (ltb-false o known t)) ∙ h)

      named-so : (t : ℕ) {w : Worth} → AR.to_state d p s (works d p known) at t ≡ fine w → 1 ≤ length (state_at d t).name
      named-so t {w} e = go (ltb 0 (length (state_at d t).name)) refl e
        where
          go : (x : Bool) → ltb 0 (length (state_at d t).name) ≡ x → cond x (worth 1 0 own_work) (refuse at BadName) ≡ fine w → 1 ≤ length (state_at d t).name
          go true q h = ltb-true 0 _ q
          go false q h = faulty-fine h

      -- What stands only in states.
      in-state : (j : Judged) {w : Worth} → AR.only_in d p s (works d p known) s at j ≡ fine w
          → (j ≡ fine w → Right d true known A.actions (i + 1) n → Right d true known A.actions i (n + 1)) → Right d s known A.actions i (n + 1)
      in-state j {w} e on = go s rest e
        where
          go : (t : Bool) → Right d t known A.actions (i + 1) n → AR.only_in d p s (works d p known) t at j ≡ fine w → Right d t known A.actions i (n + 1)
          go true r h = on h r
          go false r h = faulty-fine h

      simple-says : (x : Action) → action_at d i ≡ x → {w : Worth} → simple_judged d p s (works d p known) at x ≡ fine w → Right d s known A.actions i (n + 1)
      unfolding simple_judged
      simple-says (D.store k a b) q e = store-says k a b q e
      simple-says (D.store_pair k a b c) q e = pair-says k a b c q e
      simple-says (D.set a) q e = set_says a q e
      simple-says (D.perform o) q e = perform-says o q e
      simple-says (D.goto t) q e = in-state (AR.to_state d p s (works d p known) at t) e (λ h r. A.goto q (named-so t h) r)
      simple-says (D.call t) q e = in-state (AR.to_state d p s (works d p known) at t) e (λ h r. A.call q (named-so t h) r)
      simple-says D.return q e = in-state (worth 1 0 own_work) e (λ h r. A.return q r)
      simple-says (D.when c x) q e = faulty-fine e
      simple-says (D.choose c m x) q e = faulty-fine e
      simple-says (D.arm x) q e = faulty-fine e
      simple-says D.Action.broken q e = faulty-fine e

    -- ---- Lists of n + 1 records from i on, where shorter lists are known.

    module _ (i n : ℕ) (ih : (m j : ℕ) (t : Shape) (w : Worth) → m < n + 1 → judged_run d p s known m j t ≡ fine w → Says t j m w) where
      abbrev ev : ℕ → ℕ → Shape → Judged
      ev = run_below d p s (works d p known) (n + 1)

      shorter : (m j : ℕ) (t : Shape) {w : Worth} → m ≤ n → ev m j t ≡ fine w → Says t j m w
      shorter m j t h e = ih m j t _ (omega arith) (sym (run-lt d p s known (n + 1) m j t (omega arith)) ∙ e)

      plainly-says : (x : Action) → action_at d i ≡ x → {w : Worth} → AR.plainly d p s (works d p known) ev n i ≡ fine w → Right d s known A.actions i (n + 1)
      plainly-says x q e =
          let y = both-fine (simple_judged d p s (works d p known) (action_place p i) (action_at d i)) (ev n (i + 1) AR.actions) (all_work d p s (works d p known)) e in
          simple-says i n (shorter n (i + 1) AR.actions (omega arith) y.right) x q (sym (ap (λ (a : Action). simple_judged d p s (works d p known) (action_place p i) a) q) ∙ y.left)

      -- A conditional with m records of arms, and the list after it.
      record Held (m : ℕ) (j : Judged) : Type 0 where
        within : m ≤ n
        worth-of : Worth
        own : j ≡ fine worth-of
        after : Right d s known A.actions (i + 1 + m) (n - m)

      held : (m : ℕ) (j : Judged) {w : Worth} → AR.holding d p s (works d p known) ev n i m j ≡ fine w → Held m j
      held m j {w} e = go (leb m n) refl e
        where
          go : (t : Bool) → leb m n ≡ t → cond t (given_both j (ev (n - m) (i + 1 + m) AR.actions) (all_work d p s (works d p known))) (refuse D.nowhere NoContinuation) ≡ fine w → Held m j
          go true q h =
              let y = both-fine j (ev (n - m) (i + 1 + m) AR.actions) _ h in
              record { within = leb-true m n q; worth-of = y.u; own = y.left; after = shorter (n - m) (i + 1 + m) AR.actions (omega arith) y.right }
          go false q h = faulty-fine h

      -- A condition and arms that are right for each other.
      record Chosen (c m : ℕ) (right : Worth → Worth → Bool) : Type 0 where
        u : Worth
        v : Worth
        long : Has d c u.length
        arms : Right d s known (A.arms v.arms) (i + 1) m
        fits : right u v ≡ true

      chosen : (c m : ℕ) (right : Worth → Worth → Bool) {w : Worth} → m ≤ n
          → AR.conditional d p s (works d p known) (action_place p i) (AR.right d p s (works d p known) c) (ev m (i + 1) AR.arms) right ≡ fine w → Chosen c m right
      chosen c m right {w} l e =
          let y = both-fine (AR.right d p s (works d p known) c) (ev m (i + 1) AR.arms) _ e in
          record { u = y.u; v = y.v; long = fine-long d p all c y.left; arms = shorter m (i + 1) AR.arms l y.right; fits = go (right y.u y.v) _ y.own }
        where
          go : (t : Bool) (k : ℕ) → cond t (worth 1 0 k) (refuse (action_place p i) BadLength) ≡ fine w → t ≡ true
          go true k h = refl
          go false k h = faulty-fine h

      whole : (m : ℕ) → m ≤ n → Right d s known A.actions i (m + (n - m) + 1) → Right d s known A.actions i (n + 1)
      whole m h r = let z : m + (n - m) ≡ n = omega arith in subst (λ (k : ℕ). Right d s known A.actions i (k + 1)) z r

      when-says : (c m : ℕ) → action_at d i ≡ D.when c m → {w : Worth} → list_judged d p s (works d p known) ev n i (D.when c m) ≡ fine w → Right d s known A.actions i (n + 1)
      unfolding list_judged
      when-says c m q e =
          let h = held m _ e in
          let t = chosen c m (λ v w. both (eqb v.length 1) (eqb w.arms 1)) h.within h.own in
          let l : t.u.length ≡ 1 = eqb-true _ 1 (both_left _ _ t.fits) in
          let a : t.v.arms ≡ 1 = eqb-true _ 1 (both_right (eqb t.u.length 1) _ t.fits) in
          whole m h.within (A.when q (subst (λ (k : ℕ). Has d c k) l t.long) (subst (λ (k : ℕ). Right d s known (A.arms k) (i + 1) m) a t.arms) h.after)

      choose-says : (c k m : ℕ) → action_at d i ≡ D.choose c k m → {w : Worth} → list_judged d p s (works d p known) ev n i (D.choose c k m) ≡ fine w → Right d s known A.actions i (n + 1)
      unfolding list_judged
      choose-says c k m q e =
          let h = held m _ e in
          let t = chosen c m (λ v w. both (selects v.length k) (eqb w.arms k)) h.within h.own in
          let l = selected t.u.length k (both_left _ _ t.fits) in
          let a : t.v.arms ≡ 2 ^ t.u.length = eqb-true _ k (both_right (selects t.u.length k) _ t.fits) ∙ l.1 in
          whole m h.within (A.choose (subst (λ (x : ℕ). action_at d i ≡ D.choose c x m) l.1 q) t.long l.0
          (subst (λ (x : ℕ). Right d s known (A.arms x) (i + 1) m) a t.arms) h.after)

      list-says : (x : Action) → action_at d i ≡ x → {w : Worth} → list_judged d p s (works d p known) ev n i x ≡ fine w → Right d s known A.actions i (n + 1)
      unfolding list_judged
      list-says (D.store k a b) q e = plainly-says (D.store k a b) q e
      list-says (D.store_pair k a b c) q e = plainly-says (D.store_pair k a b c) q e
      list-says (D.set a) q e = plainly-says (D.set a) q e
      list-says (D.perform o) q e = plainly-says (D.perform o) q e
      list-says (D.goto t) q e = plainly-says (D.goto t) q e
      list-says (D.call t) q e = plainly-says (D.call t) q e
      list-says D.return q e = plainly-says D.return q e
      list-says (D.when c m) q e = when-says c m q e
      list-says (D.choose c k m) q e = choose-says c k m q e
      list-says (D.arm x) q e = plainly-says (D.arm x) q e
      list-says D.Action.broken q e = plainly-says D.Action.broken q e

      arm-says : (m : ℕ) → action_at d i ≡ D.arm m → {w : Worth} → AR.arm_after d p s (works d p known) ev n i m ≡ fine w → Right d s known (A.arms w.arms) i (n + 1)
      arm-says m q {w} e = go (both (leb 1 m) (leb m n)) refl e
        where
          go : (t : Bool) → both (leb 1 m) (leb m n) ≡ t
              → cond t (given_both (ev m (i + 1) AR.actions) (ev (n - m) (i + 1 + m) AR.arms) (λ v w. worth 1 (w.arms + 1) (v.work + w.work))) (refuse D.nowhere NoContinuation) ≡ fine w
              → Right d s known (A.arms w.arms) i (n + 1)
          go false t h = faulty-fine h
          go true t h =
              let some : 1 ≤ m = leb-true 1 m (both_left _ _ t) in
              let most : m ≤ n = leb-true m n (both_right (leb 1 m) _ t) in
              let y = both-fine (ev m (i + 1) AR.actions) (ev (n - m) (i + 1 + m) AR.arms) _ h in
              let a : y.v.arms + 1 ≡ w.arms = ap (λ (v : Worth). v.arms) (worth-same y.own) in
              let z : m + (n - m) ≡ n = omega arith in
              subst (λ (k : ℕ). Right d s known (A.arms k) i (n + 1)) a
              (subst (λ (k : ℕ). Right d s known (A.arms (y.v.arms + 1)) i (k + 1)) z
              (A.arm q some (shorter m (i + 1) AR.actions most y.left) (shorter (n - m) (i + 1 + m) AR.arms (omega arith) y.right)))

      arms-say : (x : Action) → action_at d i ≡ x → {w : Worth} → arms_judged d p s (works d p known) ev n i x ≡ fine w → Right d s known (A.arms w.arms) i (n + 1)
      unfolding arms_judged
      arms-say (D.store k a b) q e = faulty-fine e
      arms-say (D.store_pair k a b c) q e = faulty-fine e
      arms-say (D.set a) q e = faulty-fine e
      arms-say (D.perform o) q e = faulty-fine e
      arms-say (D.goto t) q e = faulty-fine e
      arms-say (D.call t) q e = faulty-fine e
      arms-say D.return q e = faulty-fine e
      arms-say (D.when c m) q e = faulty-fine e
      arms-say (D.choose c k m) q e = faulty-fine e
      arms-say (D.arm m) q e = arm-says m q e
      arms-say D.Action.broken q e = faulty-fine e

      longer : (t : Shape) (w : Worth) → judged_run d p s known (n + 1) i t ≡ fine w → Says t i (n + 1) w
      longer AR.actions w e = list-says (action_at d i) refl (sym (list-step d p s known n i) ∙ e)
      longer AR.arms w e = arms-say (action_at d i) refl (sym (arms_step d p s known n i) ∙ e)

    empty : (i : ℕ) (t : Shape) (w : Worth) → judged_run d p s known 0 i t ≡ fine w → Says t i 0 w
    empty i AR.actions w e = A.end
    empty i AR.arms w e = subst (λ (k : ℕ). Right d s known (A.arms k) i 0) (ap (λ (v : Worth). v.arms) (worth-same e)) A.no-arms

    says-below : (k n i : ℕ) (t : Shape) (w : Worth) → n < k → judged_run d p s known n i t ≡ fine w → Says t i n w
    says-below zero n i t w h e = absurd (omega arith)
    says-below (suc k) zero i t w h e = empty i t w e
    says-below (suc k) (suc n) i t w h e =
        subst (λ (m : ℕ). Says t i m w) (add-one n)
        (longer i n (λ m j u v l. says-below k m j u v (omega arith)) t w (subst (λ (m : ℕ). judged_run d p s known m i t ≡ fine w) (sym (add-one n)) e))

    pub run-right : (n i : ℕ) {w : Worth} → judged_run d p s known n i AR.actions ≡ fine w → Right d s known A.actions i n
    run-right n i e = says-below (suc n) n i AR.actions _ (omega arith) e

  -- ---- Operations.

  abbrev pub OperationRight : ℕ → Type 0
  OperationRight o = (1 ≤ (operation_at d o).body.count) × Right d false o A.actions (operation_at d o).body.first (operation_at d o).body.count

  operation-right : (o : ℕ) (w : Worth) → ((q : ℕ) (v : Worth) → q < o → operation_step d p (works d p q) q ≡ fine v → OperationRight q)
      → operation_step d p (works d p o) o ≡ fine w → OperationRight o
  unfolding run_judged
  operation-right o w ops e = go (eqb (operation_at d o).body.count 0) refl e
    where
      go : (t : Bool) → eqb (operation_at d o).body.count 0 ≡ t
          → cond t (refuse D.nowhere NoContinuation) (judged_run d p false o (operation_at d o).body.count (operation_at d o).body.first AR.actions) ≡ fine w → OperationRight o
      go true q h = faulty-fine h
      go false q h =
          let z : (operation_at d o).body.count ≡ 0 → ⊥ = eqb-false _ 0 q in
          (omega arith, run-right false o ops (operation_at d o).body.count (operation_at d o).body.first h)

  pub operations-right : (k o : ℕ) (w : Worth) → o < k → operation_step d p (works d p o) o ≡ fine w → OperationRight o
  operations-right zero o w h e = absurd (omega arith)
  operations-right (suc k) o w h e = operation-right o w (λ q v l. operations-right k q v (omega arith)) e
