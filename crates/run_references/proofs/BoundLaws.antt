-- Bounds are below 65,536, so a number from there on lies within none.
use mathlib.Core.Bool.{Bool, true, false, cond, true≢false}
use mathlib.Core.Option.{none, some}
use mathlib.Core.Path.{◌≡◌, refl, sym, ap, ◌∙◌}
use Prim.Native.Nat.{ℕ, ◌-◌, ◌≤◌, ◌<◌, min}
use native.Mathlib.Omega.{arith}
use borrow.Author.Tests.{eq-eqb, le-ltb, lt-leb, lt-ltb, ltb-false, ltb-true, ne_eqb}
use lib.Dec.{leb, ltb}
use Rattle.language.specs.Description.{Bounds, from_first, in_bounds}
use Rattle.language.specs.Meaning.{arm_number}

module _ (b : Bounds) (p : b.first < 65536) (q : b.last < 65536) where
  beyond : (x : ℕ) → 65536 ≤ x → in_bounds b x ≡ false
  unfolding in_bounds
  beyond x h = rw (lt-leb x b.last (omega arith), lt-leb x b.first (omega arith)) (neither (leb b.first b.last) (leb b.first x) (leb b.last x))
    where
      neither : (s t u : Bool) → cond s (cond t false false) (cond u false false) ≡ false
      neither true true u = refl
      neither true false u = refl
      neither false t true = refl
      neither false t false = refl

  pub within : (x : ℕ) → in_bounds b x ≡ true → x < 65536
  within x e = by-test (ltb x 65536) refl
    where
      by-test : (t : Bool) → ltb x 65536 ≡ t → x < 65536
      by-test true t = ltb-true x 65536 t
      by-test false t = absurd (true≢false (sym e ∙ beyond x (ltb-false x 65536 t)))

  pub in-capped : (x : ℕ) → in_bounds b (min x 65536) ≡ in_bounds b x
  in-capped x = by-test (ltb x 65536) refl
    where
      by-test : (t : Bool) → ltb x 65536 ≡ t → in_bounds b (min x 65536) ≡ in_bounds b x
      by-test true t =
          let h : x < 65536 = ltb-true x 65536 t in
          let e : min x 65536 ≡ x = omega arith in
          rw e
      by-test false t =
          let h : 65536 ≤ x = ltb-false x 65536 t in
          let e : min x 65536 ≡ 65536 = omega arith in
          rw e (beyond 65536 (omega arith) ∙ sym (beyond x h))

  pub from-first-lt : (x : ℕ) → in_bounds b x ≡ true → from_first b x < 65536
  unfolding from_first
  from-first-lt x e = by-test (within x e) (leb b.first b.last)
    where
      by-test : x < 65536 → (t : Bool) → cond t (x - b.first) (b.first - x) < 65536
      by-test h true = omega arith
      by-test h false = omega arith

  -- A subscript's number x, as far as bounds go.
  module _ (x n : ℕ) (e : n ≡ min x 65536) {A : Type 0} (on : ℕ → A) (z : A) where
    pub distance-in : in_bounds b n ≡ true → on (from_first b n) ≡ cond (in_bounds b x) (on (from_first b x)) z
    distance-in h =
        let l : n < 65536 = within n h in
        let f : n ≡ x = omega arith in
        rw (← f, h)

    pub distance-out : in_bounds b n ≡ false → z ≡ cond (in_bounds b x) (on (from_first b x)) z
    distance-out h = rw (← (in-capped x), ← e, h)

module _ (n k x : ℕ) (e : k ≡ min x 65536) where
  pub last_arm : k ≡ 0 → some n ≡ arm_number n x
  unfolding arm_number
  last_arm h = rw (eq-eqb x 0 (omega arith))

  pub arm-taken : (k ≡ 0 → ⊥) → k < n → n < 65536 → some k ≡ arm_number n x
  unfolding arm_number
  arm-taken h l m =
      let f : k ≡ x = omega arith in
      rw (ne_eqb x 0 (λ g. h (omega arith)), lt-ltb x n (omega arith)) (ap some f)

  pub no_arm : (k ≡ 0 → ⊥) → n ≤ k → none ≡ arm_number n x
  unfolding arm_number
  no_arm h l = rw (ne_eqb x 0 (λ g. h (omega arith)), le-ltb x n (omega arith))
