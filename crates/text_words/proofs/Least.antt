-- The least of some faults.
use mathlib.Core.Bool.{Bool, true, false, cond, ◌||◌, ◌&&◌, false≢true}
use mathlib.Core.List.{List, [], ◌∷◌, ◌++◌}
use mathlib.Core.Logic.{◌⊎◌, inl, inr}
use mathlib.Core.Option.{Option, none, some}
use mathlib.Core.Path.{◌≡◌, ◌∙◌, ap, sym, refl}
use Prim.Native.Nat.{ℕ, suc, ◌<◌, ◌≤◌}
use native.Mathlib.Omega.{arith}
use lib.Dec.{eqb, ltb}
use borrow.Author.Tests.{eqb-true, eqb-false, ltb-true, ltb-false}
use Rattle.language.specs.Words.{Fault, fault_number}
use Rattle.language.specs.WordStage.{before, least, smaller}
use Rattle.text_words.specs.Meaning.{lesser}

-- ---- The order of faults.

Earlier : Fault → Fault → Type 0
Earlier a b = (a.at.place < b.at.place) ⊎ ((a.at.place ≡ b.at.place) × (fault_number a < fault_number b))

Later : Fault → Fault → Type 0
Later a b = (b.at.place ≤ a.at.place) × (a.at.place ≡ b.at.place → fault_number b ≤ fault_number a)

module _ (a b : Fault) where
  abbrev ByTests : Bool → Type 0 → Type 0
  ByTests t A =
      (x y z : Bool) → ltb a.at.place b.at.place ≡ x → eqb a.at.place b.at.place ≡ y → ltb (fault_number a) (fault_number b) ≡ z
      → (x || (y && z)) ≡ t → A

  by_tests : {A : Type 0} (t : Bool) → ByTests t A → before a b ≡ t → A
  unfolding before
  by_tests t f e = f (ltb a.at.place b.at.place) (eqb a.at.place b.at.place) (ltb (fault_number a) (fault_number b)) refl refl refl e

  earlier : before a b ≡ true → Earlier a b
  unfolding Earlier
  earlier e = by_tests true go e
    where
      go : ByTests true (Earlier a b)
      go true y z hx hy hz e = inl (ltb-true _ _ hx)
      go false true true hx hy hz e = inr (eqb-true _ _ hy, ltb-true _ _ hz)
      go false true false hx hy hz e = absurd (false≢true e)
      go false false z hx hy hz e = absurd (false≢true e)

  later : before a b ≡ false → Later a b
  unfolding Later
  later e = by_tests false go e
    where
      go : ByTests false (Later a b)
      go true y z hx hy hz e = absurd (false≢true (sym e))
      go false true true hx hy hz e = absurd (false≢true (sym e))
      go false true false hx hy hz e = (ltb-false _ _ hx, λ q. ltb-false _ _ hz)
      go false false z hx hy hz e = (ltb-false _ _ hx, λ q. absurd (eqb-false _ _ hy q))

  not-both : Earlier a b → Later a b → ⊥
  unfolding Earlier Later
  not-both (inl h) l = omega arith
  not-both (inr h) l = let k : fault_number b ≤ fault_number a = l.1 h.0 in omega arith

  is-earlier : Earlier a b → before a b ≡ true
  is-earlier h = go (before a b) refl
    where
      go : (t : Bool) → before a b ≡ t → before a b ≡ true
      go true e = e
      go false e = absurd (not-both h (later e))

  is_later : Later a b → before a b ≡ false
  is_later h = go (before a b) refl
    where
      go : (t : Bool) → before a b ≡ t → before a b ≡ false
      go true e = absurd (not-both (earlier e) h)
      go false e = e

module _ (a b c : Fault) where
  earlier-trans : Earlier a b → Earlier b c → Earlier a c
  unfolding Earlier
  earlier-trans (inl h) (inl k) = inl (omega arith)
  earlier-trans (inl h) (inr k) = inl (omega arith)
  earlier-trans (inr h) (inl k) = inl (omega arith)
  earlier-trans (inr h) (inr k) = inr (omega arith, omega arith)

  later_trans : Later a b → Later b c → Later a c
  unfolding Later
  later_trans h k = (
    omega arith,
    λ e.
        let x : fault_number b ≤ fault_number a = h.1 (omega arith) in
        let y : fault_number c ≤ fault_number b = k.1 (omega arith) in
        omega arith,
  )

-- ---- The lesser of two, and of three.

abbrev lesser_of : Fault → Fault → Fault
lesser_of a b = cond (before b a) b a

lesser-three : (x y z : Fault) → lesser_of x (lesser_of y z) ≡ lesser_of (lesser_of x y) z
lesser-three x y z = go (before z y) (before y x) (before z x) refl refl refl
  where
    go : (p q r : Bool) → before z y ≡ p → before y x ≡ q → before z x ≡ r → lesser_of x (lesser_of y z) ≡ lesser_of (lesser_of x y) z
    go true true r hp hq hr = simp (hp, hq, is-earlier z x (earlier-trans z y x (earlier z y hp) (earlier y x hq)))
    go true false r hp hq hr = simp (hp, hq)
    go false true r hp hq hr = simp (hp, hq)
    go false false r hp hq hr = simp (hp, hq, is_later z x (later_trans z y x (later z y hp) (later y x hq)))

pub lesser-none : (x : Option Fault) → lesser x none ≡ x
lesser-none none = refl
lesser-none (some x) = refl

pub lesser-all : (x y z : Option Fault) → lesser x (lesser y z) ≡ lesser (lesser x y) z
lesser-all none y z = refl
lesser-all (some x) none z = refl
lesser-all (some x) (some y) none = refl
lesser-all (some x) (some y) (some z) = ap some (lesser-three x y z)

smaller-lesser : (x : Fault) (m : Option Fault) → some (smaller x m) ≡ lesser (some x) m
smaller-lesser x none = refl
smaller-lesser x (some y) = refl

-- The least of two lists together.
pub least-both : (a b : List Fault) → least (a ++ b) ≡ lesser (least a) (least b)
unfolding least
least-both [] b = refl
least-both (x ∷ a) b =
    ap (λ (m : Option Fault). some (smaller x m)) (least-both a b) ∙ smaller-lesser x (lesser (least a) (least b))
    ∙ lesser-all (some x) (least a) (least b) ∙ ap (λ (m : Option Fault). lesser m (least b)) (sym (smaller-lesser x (least a)))

-- ---- Faults from a place on.

abbrev pub From : ℕ → Option Fault → Type 0
From n none = Unit {0}
From n (some f) = n ≤ f.at.place

pub from_less : (n k : ℕ) (m : Option Fault) → n ≤ k → From k m → From n m
from_less n k none h f = tt
from_less n k (some g) h f = omega arith

-- A fault in front of later ones is the least.
pub first-least : (f : Fault) (fs : List Fault) → From (suc f.at.place) (least fs) → least (f ∷ fs) ≡ some f
unfolding least Later
first-least f fs h = go (least fs) h
  where
    after : (g : Fault) → suc f.at.place ≤ g.at.place → Later g f
    after g h = (omega arith, λ e. absurd (omega arith))

    go : (m : Option Fault) → From (suc f.at.place) m → some (smaller f m) ≡ some f
    go none h = refl
    go (some g) h = ap some (ap (λ (t : Bool). cond t g f) (is_later g f (after g h)))
