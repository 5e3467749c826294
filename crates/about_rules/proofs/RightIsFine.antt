-- A list of actions that keeps the rules by the relation of ActionsRight is judged fine. Assumes nothing.
use Rattle.std.specs.Prelude.{Bool, ◌≡◌, eqb, leb, length}
use Rattle.std.proofs.Math.Bool.{true, false, cond}
use Rattle.std.proofs.Math.Path.{refl, ap}
use Rattle.std.proofs.Common.{◌∙◌, eq-eqb, le-leb, lt-ltb, ne_eqb}
use native.Mathlib.Omega.{arith}
use Prim.Native.Nat.{ℕ, ◌+◌, ◌-◌, ◌^◌, ◌≤◌, ◌<◌}
use Rattle.language.specs.ActionRules as AR
use Rattle.language.specs.ActionRules.{Shape, all_work, arms_judged, kind_at, list_judged, operation_below, operation_step, run_below, run_judged, run_step, simple_judged, stored, unknown_operation}
use Rattle.language.specs.Description as D
use Rattle.language.specs.Description.{Action, Description, Places, action_at, action_place, facility_at, operation_at, state_at}
use Rattle.language.specs.Expressions.{own_work, selects}
use Rattle.language.specs.Judging.{Judged, Worth, fine, or_faulty, refuse, unless, worth}
use Rattle.language.specs.Recursion.{below-lt}
use Rattle.language.specs.declared.refusals.Refusal.TheVariants.{BadLength, BadStore, NoContinuation}
use Rattle.language.specs.Storing.{is_plain, may_store}
use Rattle.language.specs.Tree.{Kind, plain}
use Rattle.language.specs.Words.{Position}
use Rattle.about_rules.specs.ActionsRight as A
use Rattle.about_rules.specs.ActionsRight.{Has, ListOf, Right, Side, StoresTo}
use Rattle.about_rules.specs.Declared.{both_so}
use Rattle.about_rules.specs.HasLength.{most_case_bits}
use Rattle.about_rules.specs.JudgedFine.{fine-both, fine-clean, fine-given, none-append, none-unless}
use Rattle.about_rules.proofs.LeftSides.{kind-of, left-fine}
use Rattle.about_rules.proofs.LengthsJudged.{has-length}
use Rattle.about_rules.proofs.LongIsFine.{selects-so}
use Rattle.language.specs.Tests.{both}

may-store : {k : ℕ} {f : Kind} → StoresTo k f → may_store k f ≡ true
unfolding may_store
may-store A.delayed-register = refl
may-store A.delayed-sequencing = refl
may-store A.at-once-register = refl
may-store A.at-once-memory = refl
may-store A.at-once-plain = refl

-- A list as judging has it: its shape, and how many arms it has.
abbrev pub shape_of : ListOf → Shape
shape_of A.actions = AR.actions
shape_of (A.arms c) = AR.arms

abbrev pub arms_of : ListOf → ℕ
arms_of A.actions = 0
arms_of (A.arms c) = c

module _ (d : Description) (p : Places) where
  -- The operations of which the first `known` may be named.
  abbrev pub works : ℕ → ℕ → Judged
  works known = operation_below d p known

  -- n records from i on, judged.
  abbrev pub judged_run : Bool → ℕ → ℕ → ℕ → Shape → Judged
  judged_run s known n i t = run_step d p s (works known) (run_below d p s (works known) n) n i t

  pub run-lt : (s : Bool) (known n m i : ℕ) (t : Shape) → m < n → run_below d p s (works known) n m i t ≡ judged_run s known m i t
  unfolding run_below
  run-lt s known n m i t h =
      ap (λ (f : ℕ → Shape → Judged). f i t) (below-lt (λ (i : ℕ) (s : Shape). refuse D.nowhere NoContinuation) (run_step d p s (works known)) n m h)

  pub operation-lt : (known o : ℕ) → o < known → works known o ≡ operation_step d p (works o) o
  unfolding operation_below
  operation-lt known o h = below-lt (unknown_operation d p) (operation_step d p) known o h

  pub list-step : (s : Bool) (known n i : ℕ) → judged_run s known (n + 1) i AR.actions ≡ list_judged d p s (works known) (run_below d p s (works known) (n + 1)) n i (action_at d i)
  list-step s known n i = let z : n + 1 - 1 ≡ n = omega arith in rw (ne_eqb (n + 1) 0 (λ e. omega arith), z)

  pub arms_step : (s : Bool) (known n i : ℕ) → judged_run s known (n + 1) i AR.arms ≡ arms_judged d p s (works known) (run_below d p s (works known) (n + 1)) n i (action_at d i)
  arms_step s known n i = let z : n + 1 - 1 ≡ n = omega arith in rw (ne_eqb (n + 1) 0 (λ e. omega arith), z)

  -- Judged fine, with its number of arms.
  pub record Fine (s : Bool) (known : ℕ) (what : ListOf) (i n : ℕ) : Type 0 where
    pub work : ℕ
    pub same : judged_run s known n i (shape_of what) ≡ worth 1 (arms_of what) work

  abbrev all : ℕ
  all = length d.facilities

  right-fine : (n : ℕ) {l : ℕ} → Has d n l → (work : ℕ) × (AR.right d p true (works 0) n ≡ worth l 0 work)
  right-fine n {l} h = (has-length d p all n l).0 h

  module _ (s : Bool) (known i n : ℕ) where
    abbrev ev : ℕ → ℕ → Shape → Judged
    ev = run_below d p s (works known) (n + 1)

    -- An action that holds no others, and the list after it.
    plain-fine : {a : Action} {v : Worth} → action_at d i ≡ a → list_judged d p s (works known) ev n i a ≡ AR.plainly d p s (works known) ev n i
        → simple_judged d p s (works known) (action_place p i) (action_at d i) ≡ fine v → Fine s known A.actions (i + 1) n → Fine s known A.actions i (n + 1)
    plain-fine {v = v} q o e r =
        record {
          work = v.work + r.work;
          same = list-step s known n i ∙ (ap (λ (x : Action). list_judged d p s (works known) ev n i x) q ∙ o ∙ fine-both _ _ (all_work d p s (works known)) e (run-lt s known (n + 1) n (i + 1) AR.actions (omega arith) ∙ r.same) refl);
        }

  -- ---- Stores.

  stored-fine : (s : Bool) (known l : ℕ) (allowed : Bool) (at : Position) (u v : ℕ) → allowed ≡ true
      → stored d p s (works known) allowed at (record { length = l; arms = 0; work = u }) (record { length = l; arms = 0; work = v }) ≡ worth 1 0 (own_work + u + v)
  stored-fine s known l allowed at u v h = fine-clean _ _ (none-append _ _ (none-unless _ _ _ (eq-eqb l l refl)) (none-unless _ _ _ h)) refl

  pub operation-so : (o : ℕ) → 1 ≤ (operation_at d o).body.count → (r : Fine false o A.actions (operation_at d o).body.first (operation_at d o).body.count)
      → operation_step d p (works o) o ≡ worth 1 0 r.work
  unfolding run_judged
  operation-so o k r =
      let body = (operation_at d o).body in
      ap (λ (t : Bool). cond t (refuse D.nowhere NoContinuation) (judged_run false o body.count body.first AR.actions)) (ne_eqb body.count 0 (λ z. omega arith)) ∙ r.same

  module _ (known i : ℕ) where
    -- What an action that holds no others is judged to be, in a state or in an operation.
    abbrev Simple : Bool → Type 0
    Simple s = (work : ℕ) × (simple_judged d p s (works known) (action_place p i) (action_at d i) ≡ worth 1 0 work)

    simple-store : {k a b f l : ℕ} → action_at d i ≡ D.store k a b → Side d a f l → Has d b l → StoresTo k (facility_at d f).kind → Simple false
    unfolding simple_judged
    simple-store {k} {a} {b} {l = l} q e r t =
        let u = left-fine d p all a e.0 e.1 in
        let v = right-fine b r in
        let may : may_store k (kind_at d a) ≡ true = rw (kind-of d p all a e.0) (may-store t) in
        (own_work + u.0 + v.0, rw q (fine-both _ _ (stored d p false (works known) (may_store k (kind_at d a)) (action_place p i)) u.1 v.1 (stored-fine false known l _ (action_place p i) u.0 v.0 may)))

    simple-pair : {k a b c f g l m : ℕ} → action_at d i ≡ D.store_pair k a b c → Side d a f l → Side d b g m → Has d c (l + m)
        → StoresTo k (facility_at d f).kind → StoresTo k (facility_at d g).kind → Simple false
    unfolding simple_judged
    simple-pair {k} {a} {b} {c} {l = l} {m = m} q e h r t o =
        let u = left-fine d p all a e.0 e.1 in
        let w = left-fine d p all b h.0 h.1 in
        let v = right-fine c r in
        let may : both (may_store k (kind_at d a)) (may_store k (kind_at d b)) ≡ true =
        both_so {a = may_store k (kind_at d a)} {b = may_store k (kind_at d b)} (rw (kind-of d p all a e.0) (may-store t)) (rw (kind-of d p all b h.0) (may-store o)) in
        let sides : AR.sides d p false (works known) a b ≡ worth (l + m) 0 (u.0 + w.0) =
        fine-both _ _ (λ (v w : Worth). worth (v.length + w.length) 0 (v.work + w.work)) u.1 w.1 refl in (
          own_work + (u.0 + w.0) + v.0,
          rw q (fine-both _ _ (stored d p false (works known) (both (may_store k (kind_at d a)) (may_store k (kind_at d b))) (action_place p i)) sides v.1
              (stored-fine false known (l + m) _ (action_place p i) (u.0 + w.0) v.0 may)),
        )

    simple-set : (s : Bool) {a f : ℕ} → action_at d i ≡ D.set a → Side d a f 1 → (facility_at d f).kind ≡ plain → Simple s
    unfolding simple_judged
    simple-set s {a} q e t =
        let u = left-fine d p all a e.0 e.1 in
        let may : both (is_plain (kind_at d a)) (eqb 1 1) ≡ true = rw (kind-of d p all a e.0, t) in
        (own_work + u.0, rw q (fine-given _ (λ (v : Worth). or_faulty (unless (both (is_plain (kind_at d a)) (eqb v.length 1)) (action_place p i) BadStore) (worth 1 0 (own_work + v.work))) u.1 (fine-clean _ _ (none-unless _ _ _ may) refl)))

    simple-perform : (s : Bool) {o : ℕ} → action_at d i ≡ D.perform o → o < known → 1 ≤ (operation_at d o).body.count
        → Fine false o A.actions (operation_at d o).body.first (operation_at d o).body.count → Simple s
    unfolding simple_judged
    simple-perform s {o} q h k r =
        let e : works known o ≡ worth 1 0 r.work = operation-lt known o h ∙ operation-so o k r in
        (own_work + r.work, rw q (fine-given _ (λ (v : Worth). worth 1 0 (own_work + v.work)) e refl))

    named-so : (t : ℕ) (at : Position) → 1 ≤ length (state_at d t).name → AR.to_state d p true (works known) at t ≡ worth 1 0 own_work
    named-so t at h = rw (lt-ltb 0 (length (state_at d t).name) h)

    simple-goto : {t : ℕ} → action_at d i ≡ D.goto t → 1 ≤ length (state_at d t).name → Simple true
    unfolding simple_judged
    simple-goto {t} q h = (own_work, rw q (named-so t (action_place p i) h))

    simple-call : {t : ℕ} → action_at d i ≡ D.call t → 1 ≤ length (state_at d t).name → Simple true
    unfolding simple_judged
    simple-call {t} q h = (own_work, rw q (named-so t (action_place p i) h))

    simple-return : action_at d i ≡ D.return → Simple true
    unfolding simple_judged
    simple-return q = (own_work, rw q)

  -- ---- Conditionals: m records of arms, and n records after them.

  module _ (s : Bool) (known i m n : ℕ) where
    abbrev within : ℕ → ℕ → Shape → Judged
    within = run_below d p s (works known) (m + n + 1)

    hold-fine : (j : Judged) {v : Worth} → j ≡ fine v → Fine s known A.actions (i + 1 + m) n
        → (work : ℕ) × (AR.holding d p s (works known) within (m + n) i m j ≡ worth 1 0 work)
    hold-fine j {v} e r =
        let z : m + n - m ≡ n = omega arith in (
          v.work + r.work,
          rw (le-leb m (m + n) (omega arith), z)
              (fine-both _ _ (all_work d p s (works known)) e (run-lt s known (m + n + 1) n (i + 1 + m) AR.actions (omega arith) ∙ r.same) refl),
        )

    -- A condition of l bits and c arms that are right for each other.
    conditional-fine : (a l c : ℕ) (right : Worth → Worth → Bool) → Has d a l → Fine s known (A.arms c) (i + 1) m
        → ((u v : ℕ) → right (record { length = l; arms = 0; work = u }) (record { length = 1; arms = c; work = v }) ≡ true)
        → (work : ℕ) × (AR.conditional d p s (works known) (action_place p i) (AR.right d p s (works known) a) (within m (i + 1) AR.arms) right ≡ worth 1 0 work)
    conditional-fine a l c right h r t =
        let u = right-fine a h in (
          own_work + u.0 + r.work,
          fine-both _ _ (λ (v w : Worth). cond (right v w) (worth 1 0 (own_work + v.work + w.work)) (refuse (action_place p i) BadLength)) u.1
              (run-lt s known (m + n + 1) m (i + 1) AR.arms (omega arith) ∙ r.same) (rw (t u.0 r.work)),
        )

    when-fine : {c : ℕ} → action_at d i ≡ D.when c m → Has d c 1 → Fine s known (A.arms 1) (i + 1) m → Fine s known A.actions (i + 1 + m) n → Fine s known A.actions i (m + n + 1)
    unfolding list_judged
    when-fine {c} q h r f =
        let t = conditional-fine c 1 1 (λ v w. both (eqb v.length 1) (eqb w.arms 1)) h r (λ u v. refl) in
        let o = hold-fine _ t.1 f in
        record { work = o.0; same = list-step s known (m + n) i ∙ (ap (λ (x : Action). list_judged d p s (works known) within (m + n) i x) q ∙ o.1) }

    choose-fine : {c l : ℕ} → action_at d i ≡ D.choose c (2 ^ l) m → Has d c l → l ≤ most_case_bits → Fine s known (A.arms (2 ^ l)) (i + 1) m
        → Fine s known A.actions (i + 1 + m) n → Fine s known A.actions i (m + n + 1)
    unfolding list_judged
    choose-fine {c} {l} q h b r f =
        let t = conditional-fine c l (2 ^ l) (λ v w. both (selects v.length (2 ^ l)) (eqb w.arms (2 ^ l))) h r (λ u v. both_so (selects-so l b) (eq-eqb (2 ^ l) (2 ^ l) refl)) in
        let o = hold-fine _ t.1 f in
        record { work = o.0; same = list-step s known (m + n) i ∙ (ap (λ (x : Action). list_judged d p s (works known) within (m + n) i x) q ∙ o.1) }

    arm-fine : {c : ℕ} → action_at d i ≡ D.arm m → 1 ≤ m → Fine s known A.actions (i + 1) m → Fine s known (A.arms c) (i + 1 + m) n → Fine s known (A.arms (c + 1)) i (m + n + 1)
    unfolding arms_judged
    arm-fine {c} q h r f =
        let z : m + n - m ≡ n = omega arith in
        let t : both (leb 1 m) (leb m (m + n)) ≡ true = both_so (le-leb 1 m h) (le-leb m (m + n) (omega arith)) in
        let e : AR.arm_after d p s (works known) within (m + n) i m ≡ worth 1 (c + 1) (r.work + f.work) =
        rw (t, z) (fine-both _ _ (λ (v w : Worth). worth 1 (w.arms + 1) (v.work + w.work))
        (run-lt s known (m + n + 1) m (i + 1) AR.actions (omega arith) ∙ r.same)
        (run-lt s known (m + n + 1) n (i + 1 + m) AR.arms (omega arith) ∙ f.same) refl) in
        record { work = r.work + f.work; same = arms_step s known (m + n) i ∙ (ap (λ (x : Action). arms_judged d p s (works known) within (m + n) i x) q ∙ e) }

  -- ---- Every list.

  pub right-is-fine : {s : Bool} {known i n : ℕ} {what : ListOf} → Right d s known what i n → Fine s known what i n
  unfolding list_judged
  right-is-fine A.end = record { work = 0; same = refl }
  right-is-fine (A.store {known} {i} {n} q a b t r) = plain-fine false known i n q refl (simple-store known i q a b t).1 (right-is-fine r)
  right-is-fine (A.store-pair {known} {i} {n} q a b c t o r) = plain-fine false known i n q refl (simple-pair known i q a b c t o).1 (right-is-fine r)
  right-is-fine (A.set {s} {known} {i} {n} q a t r) = plain-fine s known i n q refl (simple-set known i s q a t).1 (right-is-fine r)
  right-is-fine (A.perform {s} {known} {i} {n} q h k b r) = plain-fine s known i n q refl (simple-perform known i s q h k (right-is-fine b)).1 (right-is-fine r)
  right-is-fine (A.goto {known} {i} {n} q h r) = plain-fine true known i n q refl (simple-goto known i q h).1 (right-is-fine r)
  right-is-fine (A.call {known} {i} {n} q h r) = plain-fine true known i n q refl (simple-call known i q h).1 (right-is-fine r)
  right-is-fine (A.return {known} {i} {n} q r) = plain-fine true known i n q refl (simple-return known i q).1 (right-is-fine r)
  right-is-fine (A.when {s} {known} {i} {n} {m} q h a r) = when-fine s known i m n q h (right-is-fine a) (right-is-fine r)
  right-is-fine (A.when-else {s} {known} {i} {n} {m} q h a r) = choose-fine s known i m n {l = 1} q h (omega arith) (right-is-fine a) (right-is-fine r)
  right-is-fine (A.choose {s} {known} {i} {n} {m} q h b a r) = choose-fine s known i m n q h b (right-is-fine a) (right-is-fine r)
  right-is-fine A.no-arms = record { work = 0; same = refl }
  right-is-fine (A.arm {s} {known} {i} {n} {m} q h a r) = arm-fine s known i m n q h (right-is-fine a) (right-is-fine r)
