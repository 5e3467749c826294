-- A letter has the same low bits in either case.
use mathlib.Core.Bool.{Bool, true, false, cond, ◌&&◌}
use mathlib.Core.Path.{◌≡◌, ◌∙◌, ap, refl, sym}
use Prim.Native.Nat.{ℕ, ◌-◌, ◌%◌, ◌≤◌}
use native.Mathlib.Omega.{arith}
use lib.Dec.{leb}
use borrow.Author.Tests.{leb-true}
use Rattle.language.specs.Characters.{folded}

low-kept : (b : ℕ) → folded b % 32 ≡ b % 32
unfolding folded
low-kept b = go (leb b 122) (leb 97 b) refl
  where
    go : (p q : Bool) → leb 97 b ≡ q → cond (p && q) (b - 32) b % 32 ≡ b % 32
    go false q e = refl
    go true false e = refl
    go true true e = let h : 97 ≤ b = leb-true 97 b e in omega arith

pub low_bits : (x y : ℕ) → folded x ≡ folded y → x % 32 ≡ y % 32
low_bits x y e = sym (low-kept x) ∙ ap (λ (n : ℕ). n % 32) e ∙ low-kept y
