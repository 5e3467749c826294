-- Sums of what is capped: capping early changes no comparison that a rule makes.
use mathlib.Core.Bool.{Bool, true, false}
use mathlib.Core.Logic.{◌⊎◌, inl, inr, ⊎_elim}
use mathlib.Core.Path.{◌≡◌, refl, sym, ◌∙◌}
use native.Mathlib.Omega.{arith}
use Prim.Native.Nat.{ℕ, ◌+◌, ◌<◌, ◌≤◌, min}
use borrow.Author.Tests.{le-leb, leb-false, leb-true, lt-leb, ne_eqb}
use lib.Dec.{eqb, leb}
use Rattle.language.specs.Ceilings.{most_work}
use Rattle.judge_verdicts.specs.Meaning.{capped}

pub capped_small : (n : ℕ) → n ≤ 65536 → capped n ≡ n
unfolding capped most_work
capped_small n h = rw (le-leb n 65536 h)

pub capped-large : (n : ℕ) → 65536 < n → capped n ≡ 65537
unfolding capped most_work
capped-large n h = rw (lt-leb n 65536 h)

abbrev Either : ℕ → Type 0
Either n = ((n ≤ 65536) × (capped n ≡ n)) ⊎ ((65536 < n) × (capped n ≡ 65537))

pub capped-either : (n : ℕ) → Either n
capped-either n = go (leb n 65536) refl
  where
    go : (b : Bool) → leb n 65536 ≡ b → Either n
    go true t = let h : n ≤ 65536 = leb-true n 65536 t in inl (h, capped_small n h)
    go false t = let h : 65536 < n = leb-false n 65536 t in inr (h, capped-large n h)

capped-min : (n : ℕ) → capped n ≡ min n 65537
capped-min n = ⊎_elim (λ e. omega arith) (λ e. omega arith) (capped-either n)

-- Sums that stop at the largest number of 64 bits stop no sooner.
pub sum_capped : (a b x y : ℕ) → x ≡ capped a → y ≡ capped b → min (min (x + y) 18446744073709551615) 65537 ≡ capped (a + b)
sum_capped a b x y p q = omega (arith, capped-min a, capped-min b, capped-min (a + b))

-- A number up to the ceiling is told from all others.
pub capped-eqb : (a n : ℕ) → n ≤ 65536 → eqb (capped a) n ≡ eqb a n
capped-eqb a n h =
    ⊎_elim (λ e. rw e.1) (λ e. rw e.1 (ne_eqb 65537 n (omega arith) ∙ sym (ne_eqb a n (omega arith)))) (capped-either a)

pub capped-leb : (a : ℕ) → leb (capped a) 65536 ≡ leb a 65536
capped-leb a =
    ⊎_elim (λ e. rw e.1) (λ e. rw e.1 (sym (lt-leb a 65536 e.0))) (capped-either a)
