-- In a list of actions that keeps the rules every action does: each left side is a reference that has a length, each expression that it holds has one, and a conditional has an arm for each value of its condition. Assumes nothing.
use Rattle.std.specs.Prelude.{Bool, false, ◌≡◌, refl, eqb, length}
use Rattle.std.proofs.Math.Bool.{true}
use Rattle.std.proofs.Math.Option.{some}
use Rattle.std.proofs.Common.{sym, subst}
use native.Mathlib.Omega.{arith}
use Prim.Native.Nat.{ℕ, zero, suc, ◌+◌, ◌-◌, ◌≤◌, ◌<◌}
use borrow.Author.Tests.{eqb-false, eqb-true, lt-ltb, ltb-false, ltb-true}
use Rattle.std.proofs.Math.Dec.{ltb}
use Rattle.language.specs.Acting.{arm_at}
use Rattle.language.specs.Description as D
use Rattle.language.specs.Description.{Action, Description, Run, action_at}
use Rattle.about_rules.specs.ActionsRight as A
use Rattle.about_rules.specs.ActionsRight.{Has, ListOf, Right, Side, arms}
use Rattle.about_rules.specs.HasLength.{Selects}
use Rattle.about_calls.specs.WorkedOut as W
use Rattle.about_calls.specs.WorkedOut.{LeftSide, Valued}

module _ (d : Description) where
  -- A left side with its facility and its length, and an expression with its length.
  abbrev pub LeftLong : ℕ → Type 0
  LeftLong n = (f : ℕ) × ((l : ℕ) × Side d n f l)

  abbrev pub ValueLong : ℕ → Type 0
  ValueLong n = (l : ℕ) × Has d n l

  -- So many arms stand in the m records from i on.
  abbrev pub ArmsStand : ℕ → ℕ → ℕ → Type 0
  ArmsStand n i m = (j : ℕ) → j < n → (r : Run) × (arm_at d j i m ≡ some r)

  -- What the action at record i holds, if anything.
  abbrev pub Roots : ℕ → Action → Type 0
  Roots i (D.store k l r) = LeftLong l × ValueLong r
  Roots i (D.store_pair k l m r) = LeftLong l × LeftLong m × ValueLong r
  Roots i (D.set l) = LeftLong l
  Roots i (D.perform o) = Unit {0}
  Roots i (D.goto s) = Unit {0}
  Roots i (D.call s) = Unit {0}
  Roots i D.return = Unit {0}
  Roots i (D.when c x) = Has d c 1 × ArmsStand 1 (i + 1) x
  Roots i (D.choose c n x) = Selects d (length d.facilities) c n × ArmsStand n (i + 1) x
  Roots i (D.arm x) = Unit {0}
  Roots i D.Action.broken = Unit {0}

  pub side-long : (i : ℕ) (a : Action) (n : ℕ) → Roots i a → LeftSide a n → LeftLong n
  side-long i (D.store k l r) n h W.stored = h.0
  side-long i (D.store_pair k l m r) n h W.high = h.0
  side-long i (D.store_pair k l m r) n h W.low = h.1
  side-long i (D.set l) n h W.set = h
  side-long i (D.perform _) n h x3 = elim x3 [ ]
  side-long i (D.goto _) n h x4 = elim x4 [ ]
  side-long i (D.call _) n h x5 = elim x5 [ ]
  side-long i D.return n h x5 = elim x5 [ ]
  side-long i (D.when _ _) n h x8 = elim x8 [ ]
  side-long i (D.choose _ _ _) n h x10 = elim x10 [ ]
  side-long i (D.arm _) n h x9 = elim x9 [ ]
  side-long i Action.broken n h x9 = elim x9 [ ]

  pub value-long : (i : ℕ) (a : Action) (n : ℕ) → Roots i a → Valued a n → ValueLong n
  value-long i (D.store k l r) n h W.right = h.1
  value-long i (D.store_pair k l m r) n h W.pair-right = h.2
  value-long i (D.when c x) n h W.when = (1, h.0)
  value-long i (D.choose c m x) n h W.choose = (h.0.bits, h.0.long)
  value-long i (D.set _) n h x3 = elim x3 [ ]
  value-long i (D.perform _) n h x4 = elim x4 [ ]
  value-long i (D.goto _) n h x5 = elim x5 [ ]
  value-long i (D.call _) n h x6 = elim x6 [ ]
  value-long i D.return n h x6 = elim x6 [ ]
  value-long i (D.arm _) n h x8 = elim x8 [ ]
  value-long i Action.broken n h x8 = elim x8 [ ]

  -- Arms that keep the rules stand.
  arms-stand : {s : Bool} {known i n c : ℕ} → Right d s known (arms c) i n → ArmsStand c i n
  unfolding arm_at
  arms-stand A.no-arms j h = absurd (omega arith)
  arms-stand (A.arm {i = i} {n = n} {m = m} q l a r) zero h =
      let t : ltb m (m + n + 1) ≡ true = lt-ltb m (m + n + 1) (omega arith) in
      (record { first = i + 1; count = m }, rw (q, t) refl)
  arms-stand (A.arm {i = i} {n = n} {m = m} {c = c} q l a r) (suc j) h =
      let y = arms-stand r j (omega arith) in
      let t : ltb m (m + n + 1) ≡ true = lt-ltb m (m + n + 1) (omega arith) in
      let k : m + n + 1 - (m + 1) ≡ n = omega arith in
      (y.0, rw (q, t, k) y.1)

  module _ (j : ℕ) where
    -- The record i itself, or one after it.
    here-or : {i : ℕ} {a : Action} → action_at d i ≡ a → Roots i a → i ≤ j → (i + 1 ≤ j → Roots j (action_at d j)) → Roots j (action_at d j)
    here-or {i} q h from on = go (eqb j i) refl
      where
        go : (b : Bool) → eqb j i ≡ b → Roots j (action_at d j)
        go true e = subst (λ (k : ℕ). Roots k (action_at d k)) (sym (eqb-true j i e)) (subst (Roots i) (sym q) h)
        go false e = let z : j ≡ i → ⊥ = eqb-false j i e in on (omega arith)

    -- Before a record, or from it on.
    before-or : (k : ℕ) → (j < k → Roots j (action_at d j)) → (k ≤ j → Roots j (action_at d j)) → Roots j (action_at d j)
    before-or k inside on = go (ltb j k) refl
      where
        go : (b : Bool) → ltb j k ≡ b → Roots j (action_at d j)
        go true e = inside (ltb-true j k e)
        go false e = on (ltb-false j k e)

    pub every-action : {s : Bool} {known i n : ℕ} {what : ListOf} → Right d s known what i n → i ≤ j → j < i + n → Roots j (action_at d j)
    every-action A.end from to = absurd (omega arith)
    every-action (A.store q a b k r) from to = here-or q ((_, (_, a)), (_, b)) from (λ h. every-action r h (omega arith))
    every-action (A.store-pair q a b c k m r) from to = here-or q ((_, (_, a)), (_, (_, b)), (_, c)) from (λ h. every-action r h (omega arith))
    every-action (A.set q a k r) from to = here-or q (_, (_, a)) from (λ h. every-action r h (omega arith))
    every-action (A.perform q l m b r) from to = here-or q tt from (λ h. every-action r h (omega arith))
    every-action (A.goto q l r) from to = here-or q tt from (λ h. every-action r h (omega arith))
    every-action (A.call q l r) from to = here-or q tt from (λ h. every-action r h (omega arith))
    every-action (A.return q r) from to = here-or q tt from (λ h. every-action r h (omega arith))
    every-action (A.when {i = i} {m = m} q c a r) from to =
        here-or q (c, arms-stand a) from (λ h. before-or (i + 1 + m) (λ k. every-action a h k) (λ k. every-action r k (omega arith)))
    every-action (A.when-else {i = i} {m = m} q c a r) from to =
        here-or q (record { bits = 1; long = c; few = omega arith; each-value = refl }, arms-stand a) from (λ h. before-or (i + 1 + m) (λ k. every-action a h k) (λ k. every-action r k (omega arith)))
    every-action (A.choose {i = i} {m = m} q c l a r) from to =
        here-or q (record { bits = _; long = c; few = l; each-value = refl }, arms-stand a) from (λ h. before-or (i + 1 + m) (λ k. every-action a h k) (λ k. every-action r k (omega arith)))
    every-action A.no-arms from to = absurd (omega arith)
    every-action (A.arm {i = i} {m = m} q l a r) from to =
        here-or q tt from (λ h. before-or (i + 1 + m) (λ k. every-action a h k) (λ k. every-action r k (omega arith)))
