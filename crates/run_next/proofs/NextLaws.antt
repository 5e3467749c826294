-- Laws of the next state: what the code keeps of a cycle decides it as all that the cycle did would.
use mathlib.Core.Bool.{Bool, true, false, cond}
use mathlib.Core.Option.{Option, none, some}
use mathlib.Core.Path.{◌≡◌, refl, sym, ap, ◌∙◌}
use Prim.Native.Nat.{ℕ, suc, ◌+◌, ◌-◌, ◌≤◌, ◌<◌, min}
use native.Mathlib.Omega.{arith}
use borrow.Author.Tests.{eq-eqb, eqb-false, eqb-true, le-leb, le-ltb, leb-false, leb-true, lt-leb, lt-ltb, ltb-false, ltb-true, ne_eqb}
use lib.Dec.{eqb, leb, ltb}
use lib.ListN.{get_or, length}
use Rattle.language.specs.Acting as T
use Rattle.language.specs.Description.{Description}
use Rattle.language.specs.Step as S
use Rattle.language.specs.Ceilings.{most_returns}
use Rattle.language.specs.Store.{Held}
use Rattle.language.specs.Value.{bit}
use Rattle.run_stores.specs.Seen.{States}
use Rattle.run_stores.specs.declared.doing.Doing.{Doing}
use Rattle.run_next.specs.Seen.{Sees, is_none, next_seen, or_zero, record_seen, stop_seen}
use Rattle.language.specs.Tests.{both}

-- ---- The first state that bears a value.

module _ (d : Description) (x n k m : ℕ) (e : k ≡ suc m) where
  pub bearer-here : S.bears d (S.state_number d n) x ≡ true → some n ≡ S.bearer d k n x
  unfolding S.bearer
  bearer-here b = rw (e, b)

  pub bearer-later : S.bears d (S.state_number d n) x ≡ false → S.bearer d k n x ≡ S.bearer d m (suc n) x
  unfolding S.bearer
  bearer-later b = rw (e, b)

-- ---- Counts up to two tell as much.

some_of : (n : ℕ) → ltb 0 (min n 2) ≡ ltb 0 n
some_of n = by-test (ltb 0 n) refl
  where
    by-test : (b : Bool) → ltb 0 n ≡ b → ltb 0 (min n 2) ≡ ltb 0 n
    by-test true t = let h : 0 < n = ltb-true 0 n t in lt-ltb 0 (min n 2) (omega arith) ∙ sym t
    by-test false t = let h : n ≤ 0 = ltb-false 0 n t in le-ltb 0 (min n 2) (omega arith) ∙ sym t

two-of : (n : ℕ) → leb 2 (min n 2) ≡ leb 2 n
two-of n = by-test (leb 2 n) refl
  where
    by-test : (b : Bool) → leb 2 n ≡ b → leb 2 (min n 2) ≡ leb 2 n
    by-test true t = let h : 2 ≤ n = leb-true 2 n t in le-leb 2 (min n 2) (omega arith) ∙ sym t
    by-test false t = let h : n < 2 = leb-false 2 n t in lt-leb 2 (min n 2) (omega arith) ∙ sym t

module _ (a b s : ℕ) where
  two-together : leb 2 (min a 2 + min b 2 + s) ≡ leb 2 (a + b + s)
  two-together = by-test (leb 2 (a + b + s)) refl
    where
      by-test : (t : Bool) → leb 2 (a + b + s) ≡ t → leb 2 (min a 2 + min b 2 + s) ≡ leb 2 (a + b + s)
      by-test true t = let h : 2 ≤ a + b + s = leb-true 2 (a + b + s) t in le-leb 2 (min a 2 + min b 2 + s) (omega arith) ∙ sym t
      by-test false t = let h : a + b + s < 2 = leb-false 2 (a + b + s) t in lt-leb 2 (min a 2 + min b 2 + s) (omega arith) ∙ sym t

  none-together : eqb (min a 2 + min b 2 + s) 0 ≡ eqb (a + b + s) 0
  none-together = by-test (eqb (a + b + s) 0) refl
    where
      by-test : (t : Bool) → eqb (a + b + s) 0 ≡ t → eqb (min a 2 + min b 2 + s) 0 ≡ eqb (a + b + s) 0
      by-test true t = let h : a + b + s ≡ 0 = eqb-true (a + b + s) 0 t in eq-eqb (min a 2 + min b 2 + s) 0 (omega arith) ∙ sym t
      by-test false t = ne_eqb (min a 2 + min b 2 + s) 0 (λ h. eqb-false (a + b + s) 0 t (omega arith)) ∙ sym t

-- ---- So the next state is the definition's.

module _ (d : Description) (r : S.Record) (c : T.Doing Held) (g : Doing) (e : Sees g c) where
  goto-count : g.gotos.count ≡ min (length c.gotos) 2
  goto-count = ap (λ (v : States). v.count) e.gotos

  call-count : g.calls.count ≡ min (length c.calls) 2
  call-count = ap (λ (v : States). v.count) e.calls

  or_same : (q : Option ℕ) → or_zero q ≡ S.or_zero d r c q
  or_same none = refl
  or_same (some n) = refl

  none-same : (q : Option ℕ) → is_none q ≡ S.is_none d r c q
  none-same none = refl
  none-same (some n) = refl

  pub next-seen : (q : Option ℕ) → (c.sequenced ≡ true → q ≡ S.sequenced_state d (S.landed d r c)) → next_seen r g q ≡ S.plain_next d r c
  unfolding next_seen S.plain_next
  next-seen q h =
      rw (goto-count, e.returns, e.sequenced, some_of (length c.gotos), some_of c.returns, ap (λ (v : States). v.first) e.gotos)
      (ap (λ (z : ℕ). cond (ltb 0 (length c.gotos)) (get_or c.gotos 0 0) (cond (ltb 0 c.returns) (get_or r.returns (r.held - 1) 0) z)) (by_flag c.sequenced h))
    where
      by_flag : (b : Bool) → (b ≡ true → q ≡ S.sequenced_state d (S.landed d r c)) → cond b (or_zero q) (r.state + 1) ≡ cond b (S.or_zero d r c (S.sequenced_state d (S.landed d r c))) (r.state + 1)
      by_flag true k = or_same q ∙ ap (S.or_zero d r c) (k refl)
      by_flag false k = refl

  pub stop-seen : (q : Option ℕ) → (c.sequenced ≡ true → q ≡ S.sequenced_state d (S.landed d r c)) → stop_seen (length d.states) r g q ≡ S.stop_after d r c
  unfolding stop_seen S.stop_after most_returns
  stop-seen q h =
      rw (goto-count, e.returns, e.sequenced, call-count, some_of c.returns, some_of (length c.calls), two-of (length c.calls), two-together (length c.gotos) c.returns (bit c.sequenced), none-together (length c.gotos) c.returns (bit c.sequenced), by_flag c.sequenced h)
    where
      by_flag : (b : Bool) → (b ≡ true → q ≡ S.sequenced_state d (S.landed d r c)) → both b (is_none q) ≡ both b (S.is_none d r c (S.sequenced_state d (S.landed d r c)))
      by_flag true k = none-same q ∙ ap (S.is_none d r c) (k refl)
      by_flag false k = refl

  pub record-seen : (next : ℕ) → next ≡ S.plain_next d r c → record_seen r g next ≡ S.next_record d r c
  unfolding record_seen S.next_record
  record-seen next p = rw (p, e.returns, call-count, some_of c.returns, some_of (length c.calls), ap (λ (v : States). v.first) e.calls)
