-- Lists of actions and of arms, by their first record.
use mathlib.Core.Bool.{Bool, true, false, cond}
use mathlib.Core.Path.{◌≡◌, refl, sym, ap, ◌∙◌}
use native.Mathlib.Omega.{arith}
use Prim.Native.Nat.{ℕ, ◌+◌, ◌-◌, ◌<◌, ◌≤◌}
use borrow.Author.Tests.{eq-eqb, le-leb, lt-leb, ne_eqb}
use lib.Dec.{leb}
use Rattle.language.specs.ActionRules as A
use Rattle.language.specs.ActionRules.{Shape, actions, arms, arms_judged, list_judged, plainly, run_below, run_step}
use Rattle.language.specs.Description as D
use Rattle.language.specs.Description.{Description, Places, action_at, action_place}
use Rattle.language.specs.Judging.{Judged, refuse, worth}
use Rattle.language.specs.Recursion.{below-lt}
use Rattle.language.specs.Tests.{both}
use Rattle.image_records.specs.Actions.{meant}
use Rattle.image_records.specs.declared.actions.Action.{Action}
use Rattle.image_records.specs.declared.actions.Action.TheVariants as N
use Rattle.std.specs.Prelude.{Option, None, Some}
use Rattle.judge_actions.specs.declared.conditionals.Branch.{Branch}
use Rattle.judge_actions.specs.Listed.{arm_holds, arms_at, branch_of, held_by, list_at, one_at, right_arms}
use Rattle.judge_actions.proofs.JoinLaws.{arm_first, joins, works}
use Rattle.language.specs.declared.refusals.Refusal.TheVariants.{NoContinuation}

module _ (d : Description) (p : Places) (b : Bool) (w : ℕ → Judged) where
  run-lt : (k m i : ℕ) (s : Shape) → m < k → run_below d p b w k m i s ≡ run_step d p b w (run_below d p b w m) m i s
  unfolding run_below
  run-lt k m i s h =
      ap (λ (f : ℕ → Shape → Judged). f i s) (below-lt (λ (i : ℕ) (s : Shape). refuse D.nowhere NoContinuation) (run_step d p b w) k m h)

  list-lt : (k m i : ℕ) → m < k → run_below d p b w k m i actions ≡ list_at d p b w m i
  unfolding list_at
  list-lt k m i h = run-lt k m i actions h

  arms-lt : (k m i : ℕ) → m < k → run_below d p b w k m i arms ≡ arms_at d p b w m i
  unfolding arms_at
  arms-lt k m i h = run-lt k m i arms h

  pub list-empty : (k i : ℕ) → k ≡ 0 → worth 1 0 0 ≡ list_at d p b w k i
  unfolding list_at
  list-empty k i h = rw (eq-eqb k 0 h)

  pub arms-empty : (k i : ℕ) → k ≡ 0 → worth 1 0 0 ≡ arms_at d p b w k i
  unfolding arms_at
  arms-empty k i h = rw (eq-eqb k 0 h)

  pub list-first : (k i : ℕ) {x : D.Action} → (k ≡ 0 → ⊥) → action_at d i ≡ x
      → list_judged d p b w (run_below d p b w k) (k - 1) i x ≡ list_at d p b w k i
  unfolding list_at
  list-first k i h e = rw (ne_eqb k 0 h, e)

  pub arms-first : (k i : ℕ) {x : D.Action} → (k ≡ 0 → ⊥) → action_at d i ≡ x
      → arms_judged d p b w (run_below d p b w k) (k - 1) i x ≡ arms_at d p b w k i
  unfolding arms_at
  arms-first k i h e = rw (ne_eqb k 0 h, e)

  -- ---- One action, and the list after what it holds.

  -- The action at i, where `ev` judges fewer records.
  abbrev one_by : (ℕ → ℕ → Shape → Judged) → ℕ → Option Branch → Judged
  one_by ev i None = A.simple_judged d p b w (action_place p i) (action_at d i)
  one_by ev i (Some c) =
      A.conditional d p b w (action_place p i) (A.right d p b w c.condition) (ev c.size (i + 1) arms) (right_arms c.choices)

  one-by : (k i : ℕ) (f : Option Branch) → held_by f < k → one_by (run_below d p b w k) i f ≡ one_at d p b w i f
  unfolding one_at
  one-by k i None h = refl
  one-by k i (Some c) h = rw (arms-lt k c.size (i + 1) h)

  module _ (ev : ℕ → ℕ → Shape → Judged) (m i : ℕ) where
    plainly-held : plainly d p b w ev m i ≡ A.holding d p b w ev m i 0 (A.simple_judged d p b w (action_place p i) (action_at d i))
    plainly-held =
        let e : m - 0 ≡ m = omega arith in
        let f : i + 1 + 0 ≡ i + 1 = omega arith in
        let g : leb 0 m ≡ true = le-leb 0 m (omega arith) in
        rw (g, e, f)

    one-held : (r : Action) → list_judged d p b w ev m i (meant r) ≡ A.holding d p b w ev m i (held_by (branch_of r)) (one_by ev i (branch_of r))
    unfolding list_judged
    one-held (N.Store s l r) = plainly-held
    one-held (N.StorePair s l n r) = plainly-held
    one-held (N.Set l) = plainly-held
    one-held (N.Perform o) = plainly-held
    one-held (N.Goto s) = plainly-held
    one-held (N.Call s) = plainly-held
    one-held N.Return = plainly-held
    one-held (N.When c x) = refl
    one-held (N.Choose c n x) = refl
    one-held (N.Arm x) = plainly-held
    one-held N.Broken = plainly-held

  module _ (k i n : ℕ) (r : Action) (f : Option Branch) (h : k ≡ 0 → ⊥) (e : action_at d i ≡ meant r) (q : f ≡ branch_of r) (z : n ≡ held_by f) where
    pub list-past : k - 1 < n → list_at d p b w k i ≡ refuse D.nowhere NoContinuation
    list-past g = sym (list-first k i h e) ∙ one-held (run_below d p b w k) (k - 1) i r ∙ rw (← q, ← z, lt-leb n (k - 1) g)

    pub list-next : n ≤ k - 1 → list_at d p b w k i ≡ joins works (one_at d p b w i f) (list_at d p b w (k - 1 - n) (i + 1 + n))
    list-next g =
        sym (list-first k i h e) ∙ one-held (run_below d p b w k) (k - 1) i r
        ∙ rw (← q, ← z, le-leb n (k - 1) g, one-by k i f (omega arith), list-lt k (k - 1 - n) (i + 1 + n) (omega arith))

  -- ---- One arm, and the arms after it.

  arm_held : (ev : ℕ → ℕ → Shape → Judged) (m i : ℕ) (r : Action)
      → arms_judged d p b w ev m i (meant r)
      ≡ cond (leb 1 (arm_holds m r)) (joins arm_first (ev (arm_holds m r) (i + 1) actions) (ev (m - arm_holds m r) (i + 1 + arm_holds m r) arms)) (refuse D.nowhere NoContinuation)
  unfolding arms_judged
  arm_held ev m i (N.Store s l r) = refl
  arm_held ev m i (N.StorePair s l n r) = refl
  arm_held ev m i (N.Set l) = refl
  arm_held ev m i (N.Perform o) = refl
  arm_held ev m i (N.Goto s) = refl
  arm_held ev m i (N.Call s) = refl
  arm_held ev m i N.Return = refl
  arm_held ev m i (N.When c x) = refl
  arm_held ev m i (N.Choose c n x) = refl
  arm_held ev m i (N.Arm x) = by-test (leb x m) (leb 1 x) refl
    where
      by-test : (t u : Bool) → leb 1 x ≡ u
          → cond (both u t) (joins arm_first (ev x (i + 1) actions) (ev (m - x) (i + 1 + x) arms)) (refuse D.nowhere NoContinuation)
          ≡ cond (leb 1 (cond t x 0)) (joins arm_first (ev (cond t x 0) (i + 1) actions) (ev (m - cond t x 0) (i + 1 + cond t x 0) arms)) (refuse D.nowhere NoContinuation)
      by-test true true z = rw z
      by-test true false z = rw z
      by-test false true z = refl
      by-test false false z = refl
  arm_held ev m i N.Broken = refl

  module _ (k i n : ℕ) (r : Action) (h : k ≡ 0 → ⊥) (e : action_at d i ≡ meant r) (s : n ≡ arm_holds (k - 1) r) where
    pub arms-past : n ≡ 0 → arms_at d p b w k i ≡ refuse D.nowhere NoContinuation
    arms-past z =
        let q : leb 1 n ≡ false = lt-leb 1 n (omega arith) in
        sym (arms-first k i h e) ∙ arm_held (run_below d p b w k) (k - 1) i r ∙ rw (← s, q)

    pub arms_next : (n ≡ 0 → ⊥) → n ≤ k - 1
        → arms_at d p b w k i ≡ joins arm_first (list_at d p b w n (i + 1)) (arms_at d p b w (k - 1 - n) (i + 1 + n))
    arms_next z g =
        let q : leb 1 n ≡ true = le-leb 1 n (omega arith) in
        sym (arms-first k i h e) ∙ arm_held (run_below d p b w k) (k - 1) i r
        ∙ rw (← s, q, list-lt k n (i + 1) (omega arith), arms-lt k (k - 1 - n) (i + 1 + n) (omega arith))
