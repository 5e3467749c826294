-- Laws of `fit`, which every operator ends in: its number counts only at the lengths that a value may have, so 256 bits are enough.
use mathlib.Core.Bool.{Bool, true, false, cond, false≢true}
use mathlib.Core.Path.{◌≡◌, refl, sym, ap, ap₂, ◌∙◌}
use mathlib.Core.Logic.{⊎_elim}
use Prim.Native.Nat.{ℕ, zero, suc, ◌+◌, ◌-◌, ◌*◌, ◌/◌, ◌%◌, ◌^◌, ◌≤◌, ◌<◌}
use native.Mathlib.Nat.{eq-zero-or-pos, sub-add_cancel, mod-add-mod, mul-add-mod_self_right, mod-lt, div-add-mod', suc-mul, add-mul, le_dest, lt_of_mul-lt-mul_right}
use native.Mathlib.Omega.{arith}
use lib.Dec.{leb, ltb}
use lib.Pow.{mod-mod-pow, pow-add, pow_pos, ones_split, ones_lt, low}
use borrow.Author.Tests.{lt-ltb, lt-leb, le-leb, ltb-true, leb-true}
use Rattle.language.specs.Value as L
use Rattle.language.specs.Value.{fit, made, none, value, difference_number, complement_number, repeated}
use Rattle.language.specs.Ceilings.{longest}
use Rattle.value_operators.specs.Meaning.{Means, allowed}
use Rattle.std.specs.Prelude.{Option, None}
use Rattle.value_operators.specs.declared.Value.{Value}
use Rattle.value_limbs.proofs.Laws.{times_mod}

-- ---- Answers.

-- The same answer, said otherwise.
pub means-of : {r : Option Value} {m n : L.Made} → Means r m → m ≡ n → Means r n
means-of e p = record { meaning = e.meaning ∙ p }

pub means-fit : {r : Option Value} {l m n k : ℕ} → Means r (fit l n) → l ≡ m → n ≡ k → Means r (fit m k)
means-fit e p q = means-of e (ap₂ fit p q)

pub none_means : {m : L.Made} → m ≡ none → Means None m
none_means p = record { meaning = sym p }

-- ---- The lengths that a value may have.

pub fit-cond : (l n : ℕ) → fit l n ≡ cond (allowed l) (made (value l (n % 2 ^ l))) none
unfolding fit allowed
fit-cond l n = both (ltb 0 l) (leb l longest)
  where
    both : (a b : Bool) → cond a (cond b (made (value l (n % 2 ^ l))) none) none ≡ cond (cond a b false) (made (value l (n % 2 ^ l))) none
    both true b = refl
    both false b = refl

pub fit-allowed : (l n : ℕ) → allowed l ≡ true → fit l n ≡ made (value l (n % 2 ^ l))
fit-allowed l n e = fit-cond l n ∙ ap (λ (b : Bool). cond b (made (value l (n % 2 ^ l))) none) e

pub fit_refused : (l n : ℕ) → allowed l ≡ false → fit l n ≡ none
fit_refused l n e = fit-cond l n ∙ ap (λ (b : Bool). cond b (made (value l (n % 2 ^ l))) none) e

pub allowed-le : (l : ℕ) → allowed l ≡ true → l ≤ 256
unfolding allowed longest
allowed-le l e = leb-true l 256 (second (ltb 0 l) (leb l 256) e)
  where
    second : (a b : Bool) → cond a b false ≡ true → b ≡ true
    second true b e = e
    second false b e = absurd (false≢true e)

pub allowed-some : (l : ℕ) → allowed l ≡ true → 1 ≤ l
unfolding allowed
allowed-some l e = ltb-true 0 l (first (ltb 0 l) (leb l longest) e)
  where
    first : (a b : Bool) → cond a b false ≡ true → a ≡ true
    first true b e = refl
    first false b e = absurd (false≢true e)

pub allowed_of : (l : ℕ) → 1 ≤ l → l ≤ 256 → allowed l ≡ true
unfolding allowed longest
allowed_of l h k = ap₂ (λ (a b : Bool). cond a b false) (lt-ltb 0 l h) (le-leb l 256 k)

-- ---- The number.

-- Two numbers that agree in the low bits make one value.
pub fit_same : (l n k : ℕ) → (l ≤ 256 → n % 2 ^ l ≡ k % 2 ^ l) → fit l n ≡ fit l k
unfolding fit longest
fit_same l n k e =
    ⊎_elim
    (λ z. ap (λ (v : ℕ). cond (ltb 0 l) (cond (leb l 256) (made (value l v)) none) none) (e (omega arith)))
    (λ p. rw (lt-leb l 256 (omega arith)))
    (eq-zero-or-pos (l - 256))

low-low : (l n : ℕ) → l ≤ 256 → n % 2 ^ 256 % 2 ^ l ≡ n % 2 ^ l
low-low l n h = ap (λ (k : ℕ). n % 2 ^ k % 2 ^ l) (sym (sub-add_cancel h)) ∙ mod-mod-pow n (256 - l) l

pub fit-wrap : (l n : ℕ) → fit l (n % 2 ^ 256) ≡ fit l n
fit-wrap l n = fit_same l (n % 2 ^ 256) n (low-low l n)

pub means-wrap : {r : Option Value} {l m n : ℕ} (k : ℕ) → Means r (fit l n) → l ≡ m → n ≡ k % 2 ^ 256 → Means r (fit m k)
means-wrap {m = m} k e p q = means-of e (ap₂ fit p q ∙ fit-wrap m k)

-- 2 to the 256 in parts of l bits.
parts : (l : ℕ) → l ≤ 256 → 2 ^ 256 ≡ 2 ^ (256 - l) * 2 ^ l
parts l h = ap (λ (k : ℕ). 2 ^ k) (sym (sub-add_cancel h)) ∙ pow-add 2 (256 - l) l

-- Where M is d times P, a difference modulo M is one modulo P.
difference-parts : (M d P x y : ℕ) → M ≡ d * P → zero < P → y < M → (x + (M - y)) % P ≡ (x + (P - y % P)) % P
difference-parts M d P x y e p h =
    let q = y / P in
    let s : q * P + y % P ≡ y = div-add-mod' y P in
    let r : y % P < P = mod-lt y p in
    let below : q < d = lt_of_mul-lt-mul_right P (omega arith) in
    let k = (le_dest below).0 in
    let g : M ≡ q * P + P + k * P = e ∙ ap (λ (n : ℕ). n * P) (sym (le_dest below).1) ∙ add-mul (suc q) k P ∙ ap (λ (n : ℕ). n + k * P) (suc-mul q P) in
    let t : x + (M - y) ≡ k * P + (x + (P - y % P)) = omega arith in
    ap (λ (n : ℕ). n % P) t ∙ mul-add-mod_self_right k P (x + (P - y % P))

-- A difference modulo 2 to the 256 is one modulo 2 to the l.
pub fit-difference : (l x y : ℕ) → fit l (difference_number 256 x y % 2 ^ 256) ≡ fit l (difference_number l x y)
unfolding difference_number
fit-difference l x y =
    fit-wrap l (x + (2 ^ 256 - y % 2 ^ 256))
    ∙ fit_same l (x + (2 ^ 256 - y % 2 ^ 256)) (x + (2 ^ l - y % 2 ^ l)) (λ h.
    difference-parts (2 ^ 256) (2 ^ (256 - l)) (2 ^ l) x (y % 2 ^ 256) (parts l h) (pow_pos l) (mod-lt y (pow_pos 256))
    ∙ ap (λ (n : ℕ). (x + (2 ^ l - n)) % 2 ^ l) (low-low l y h))

-- All ones less r, in parts of P.
ones-parts : (F d P r : ℕ) → F + 1 ≡ d * P → r < P → (F + (P - r)) % P ≡ (P - 1 - r) % P
ones-parts F d P r e h =
    let t : F + (P - r) ≡ d * P + (P - 1 - r) = omega arith in
    ap (λ (n : ℕ). n % P) t ∙ mul-add-mod_self_right d P (P - 1 - r)

-- All ones less x is every bit of x turned.
pub fit-complement : (m x : ℕ) → fit m (difference_number 256 (2 ^ 256 - 1) x % 2 ^ 256) ≡ fit m (complement_number m x)
unfolding difference_number complement_number
fit-complement m x =
    fit-difference m (2 ^ 256 - 1) x
    ∙ fit_same m (2 ^ 256 - 1 + (2 ^ m - x % 2 ^ m)) (2 ^ m - 1 - x % 2 ^ m) (λ h.
    ones-parts (2 ^ 256 - 1) (2 ^ (256 - m)) (2 ^ m) (x % 2 ^ m) (parts m h) (mod-lt x (pow_pos m)))

-- The low bits of all ones are all ones.
pub ones_low : (m : ℕ) → m ≤ 256 → (2 ^ 256 - 1) % 2 ^ m ≡ 2 ^ m - 1
ones_low m h =
    ap (λ (k : ℕ). (2 ^ k - 1) % 2 ^ m) (sym (sub-add_cancel h)) ∙ ap (λ (k : ℕ). k % 2 ^ m) (ones_split (256 - m) m)
    ∙ low (2 ^ (256 - m) - 1) m (ones_lt m)

-- A number joined to one that was cut before.
pub joined-cut : (n p q M : ℕ) → ((n % M) * p + q) % M ≡ (n * p + q) % M
joined-cut n p q M = sym (mod-add-mod ((n % M) * p) M q) ∙ ap (λ (k : ℕ). (k + q) % M) (times_mod n p M) ∙ mod-add-mod (n * p) M q

-- One copy more.
pub repeated-more : (m x i M : ℕ) → ((repeated m x i % M) * 2 ^ m + x) % M ≡ repeated m x (suc i) % M
unfolding repeated
repeated-more m x i M = joined-cut (repeated m x i) (2 ^ m) x M
