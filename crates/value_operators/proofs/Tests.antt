-- Tests of numbers said otherwise.
use mathlib.Core.Bool.{Bool, true, false, not, cond}
use mathlib.Core.Path.{◌≡◌, refl, sym, ap, ◌∙◌}
use mathlib.Core.Logic.{⊎_elim}
use Prim.Native.Nat.{ℕ, ◌-◌, ◌<◌}
use native.Mathlib.Nat.{eq-zero-or-pos}
use native.Mathlib.Omega.{arith}
use lib.Dec.{ltb, leb}
use borrow.Author.Tests.{lt-ltb, le-ltb, lt-leb, le-leb}

-- What is not smaller is at most as large.
pub not-less : (x y : ℕ) → not (ltb y x) ≡ leb x y
not-less x y =
    ⊎_elim
    (λ e. ap not (le-ltb y x (omega arith)) ∙ sym (le-leb x y (omega arith)))
    (λ e. ap not (lt-ltb y x (omega arith)) ∙ sym (lt-leb x y (omega arith)))
    (eq-zero-or-pos (x - y))

pub not-cond : (b : Bool) → not b ≡ cond b false true
not-cond true = refl
not-cond false = refl

-- A number below M is not the last below a larger P.
pub past : {a M P : ℕ} → a < M → M < P → a ≡ P - 1 → ⊥
past h l e = omega arith
