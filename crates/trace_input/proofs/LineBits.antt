-- The bits of a line as a number: one by one, and in runs. Assumes nothing.
use mathlib.Core.Bool.{Bool, true, false, cond}
use mathlib.Core.List.{List, [], ◌∷◌}
use mathlib.Core.Option.{Option, none, some}
use mathlib.Core.Path.{◌≡◌, refl, sym, ap, ap₂, ◌∙◌}
use Prim.Native.Nat.{ℕ, zero, suc, ◌+◌, ◌-◌, ◌*◌, ◌^◌, ◌≤◌, ◌<◌}
use native.Mathlib.Nat.{mul_assoc, mul_comm, pow-suc}
use native.Mathlib.Omega.{arith}
use borrow.Author.Tests.{eq-eqb, eqb-false, eqb-true, ne_eqb}
use lib.Dec.{eqb}
use lib.ListN.{drop, drop_of_length-le, get_or, length}
use lib.Pow.{pow-add}
use lib.Seq.{drop-cons}
use Rattle.language.specs.Trace.{bits_number}

-- ---- One bit.

module _ (line : List ℕ) (at k x : ℕ) (some_left : 0 < k) where
  abbrev bits-here : Option ℕ
  bits-here = bits_number k x (drop at line)

  one_less : k ≡ suc (k - 1)
  one_less = omega arith

  pub bits-past : length line ≤ at → none ≡ bits-here
  unfolding bits_number
  bits-past h = rw (one_less, drop_of_length-le line h) refl

  module _ (b : ℕ) (h : at < length line) (e : b ≡ get_or line at 0) where
    here : drop at line ≡ b ∷ drop (suc at) line
    here = drop-cons line at 0 h ∙ ap (λ (c : ℕ). c ∷ drop (suc at) line) (sym e)

    by_bit : bits-here ≡ cond (eqb b 48) (bits_number (k - 1) (x * 2) (drop (suc at) line)) (cond (eqb b 49) (bits_number (k - 1) (x * 2 + 1) (drop (suc at) line)) none)
    unfolding bits_number
    by_bit = ap₂ (λ (n : ℕ) (bs : List ℕ). bits_number n x bs) one_less here

    pub bits_below : b < 48 → none ≡ bits-here
    bits_below l = sym (by_bit ∙ rw (ne_eqb b 48 (λ q. omega arith), ne_eqb b 49 (λ q. omega arith)) refl)

    pub bits_above : 49 < b → none ≡ bits-here
    bits_above l = sym (by_bit ∙ rw (ne_eqb b 48 (λ q. omega arith), ne_eqb b 49 (λ q. omega arith)) refl)

    pub bits-one : 48 ≤ b → b ≤ 49 → bits-here ≡ bits_number (k - 1) (x * 2 + (b - 48)) (drop (at + 1) line)
    bits-one p q =
        let s : suc at ≡ at + 1 = omega arith in
        by_bit ∙ (go (eqb b 48) refl ∙ ap (λ (n : ℕ). bits_number (k - 1) (x * 2 + (b - 48)) (drop n line)) s)
      where
        go : (t : Bool) → eqb b 48 ≡ t
            → cond t (bits_number (k - 1) (x * 2) (drop (suc at) line)) (cond (eqb b 49) (bits_number (k - 1) (x * 2 + 1) (drop (suc at) line)) none)
            ≡ bits_number (k - 1) (x * 2 + (b - 48)) (drop (suc at) line)
        go true t =
            let z : b ≡ 48 = eqb-true b 48 t in
            let y : x * 2 ≡ x * 2 + (b - 48) = omega arith in
            ap (λ (n : ℕ). bits_number (k - 1) n (drop (suc at) line)) y
        go false t =
            let z : b ≡ 49 = by-test b p q t in
            let y : x * 2 + 1 ≡ x * 2 + (b - 48) = omega arith in
            rw (eq-eqb b 49 z) (ap (λ (n : ℕ). bits_number (k - 1) n (drop (suc at) line)) y)
          where
            by-test : (c : ℕ) → 48 ≤ c → c ≤ 49 → eqb c 48 ≡ false → c ≡ 49
            by-test c l m f = let n : c ≡ 48 → ⊥ = eqb-false c 48 f in omega arith

pub more-bits : (k : ℕ) {x b : ℕ} → x < 2 ^ k → b ≤ 1 → x * 2 + b < 2 ^ (k + 1)
more-bits k {x} {b} h l = rw (pow-add 2 k 1) (omega arith)

-- ---- A run of c bits, and then m more.

none-some : {A : Type 0} {b : ℕ} → none ≡ some b → A
none-some e = absurd (let z : ◌≡◌ {A = ℕ} 0 1 = cc in omega arith)

pub run_long : (c y : ℕ) {b : ℕ} (bs : List ℕ) → bits_number c y bs ≡ some b → c ≤ length bs
unfolding bits_number
run_long zero y bs e = omega arith
run_long (suc c) y [] e = none-some e
run_long (suc c) y (h ∷ t) e = go (λ x f. run_long c x t f) (eqb h 48) (eqb h 49) e
  where
    go : {b : ℕ} → ((x : ℕ) → bits_number c x t ≡ some b → c ≤ length t) → (p q : Bool) → cond p (bits_number c (y * 2) t) (cond q (bits_number c (y * 2 + 1) t) none) ≡ some b → suc c ≤ suc (length t)
    go on true q f = let i = on (y * 2) f in omega arith
    go on false true f = let i = on (y * 2 + 1) f in omega arith
    go on false false f = none-some f

pub run_none : (c m x y : ℕ) (bs : List ℕ) → bits_number c y bs ≡ none → bits_number (c + m) x bs ≡ none
unfolding bits_number
run_none zero m x y bs e = none-some (sym e)
run_none (suc c) m x y [] e = let s : suc c + m ≡ suc (c + m) = omega arith in rw s refl
run_none (suc c) m x y (h ∷ t) e = let s : suc c + m ≡ suc (c + m) = omega arith in rw s (go (λ z w f. run_none c m z w t f) (eqb h 48) (eqb h 49) e)
  where
    go : ((z w : ℕ) → bits_number c w t ≡ none → bits_number (c + m) z t ≡ none) → (p q : Bool) → cond p (bits_number c (y * 2) t) (cond q (bits_number c (y * 2 + 1) t) none) ≡ none
        → cond p (bits_number (c + m) (x * 2) t) (cond q (bits_number (c + m) (x * 2 + 1) t) none) ≡ none
    go on true q f = on (x * 2) (y * 2) f
    go on false true f = on (x * 2 + 1) (y * 2 + 1) f
    go on false false f = refl

-- The number so far is D above the run's own.
pub run-some : (c m D y : ℕ) {b : ℕ} (bs : List ℕ) → bits_number c y bs ≡ some b → bits_number (c + m) (D + y) bs ≡ bits_number m (D * 2 ^ c + b) (drop c bs)
unfolding bits_number
run-some zero m D y {b} bs e =
    let s : zero + m ≡ m = omega arith in
    let n : y ≡ b = cc in
    let z : D + y ≡ D * 2 ^ 0 + b = omega (arith, n) in
    rw s (ap (λ (x : ℕ). bits_number m x bs) z)
run-some (suc c) m D y [] e = none-some e
run-some (suc c) m D y {b} (h ∷ t) e = let s : suc c + m ≡ suc (c + m) = omega arith in rw s (go (λ x f. run-some c m (D * 2) x t f) (eqb h 48) (eqb h 49) e)
  where
    twice : D * 2 * 2 ^ c ≡ D * 2 ^ suc c
    twice = mul_assoc D 2 (2 ^ c) ∙ ap (λ (n : ℕ). D * n) (mul_comm 2 (2 ^ c) ∙ sym (pow-suc 2 c))

    On : Type 0
    On = (x : ℕ) → bits_number c x t ≡ some b → bits_number (c + m) (D * 2 + x) t ≡ bits_number m (D * 2 * 2 ^ c + b) (drop c t)

    next : On → (x z : ℕ) → z ≡ D * 2 + x → bits_number c x t ≡ some b → bits_number (c + m) z t ≡ bits_number m (D * 2 ^ suc c + b) (drop c t)
    next on x z r f = ap (λ (n : ℕ). bits_number (c + m) n t) r ∙ (on x f ∙ ap (λ (n : ℕ). bits_number m (n + b) (drop c t)) twice)

    go : On → (p q : Bool) → cond p (bits_number c (y * 2) t) (cond q (bits_number c (y * 2 + 1) t) none) ≡ some b
        → cond p (bits_number (c + m) ((D + y) * 2) t) (cond q (bits_number (c + m) ((D + y) * 2 + 1) t) none) ≡ bits_number m (D * 2 ^ suc c + b) (drop c t)
    go on true q f = next on (y * 2) ((D + y) * 2) (omega arith) f
    go on false true f = next on (y * 2 + 1) ((D + y) * 2 + 1) (omega arith) f
    go on false false f = none-some f
