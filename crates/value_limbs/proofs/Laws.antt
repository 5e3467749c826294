-- Laws of numbers in two parts, `X * B + x`: each is stated once, over any base, and cited once for each joint between limbs.
use mathlib.Core.Path.{◌≡◌, refl, sym, ap, ap₂, ◌∙◌}
use mathlib.Core.Bool.{Bool, true, false}
use mathlib.Core.List.{List}
use mathlib.Core.Logic.{⊎_elim}
use Prim.Native.Nat.{ℕ, zero, suc, ◌+◌, ◌-◌, ◌*◌, ◌/◌, ◌%◌, ◌^◌, ◌≤◌, ◌<◌}
use native.Mathlib.Nat.{add-mul, mul_assoc, eq-zero-or-pos, add-zero, mul-mod_left, mul-div-mul_right, mul-add-mod_self_right, mul-lt-mul_of_pos_right, div-add-mod', sub-add_cancel, mod-eq_of_lt, lt_of_lt_of_le, mod-one, zero-mul, zero-add, one-mul, suc-mul, mul_right_comm, add-sub_of_le}
use native.Mathlib.Omega.{arith}
use lib.Arith.{digits_lt, digits_mod, digits_div}
use lib.Pow.{pow_mono, pow_pos, pow-add, mod-pow-add, high, low, split, shl-shr, shl_exact}
use lib.Bits.{bit_and, bit_or, and_mask, or_shifted}
use lib.Count.{ones, ones_cat}
use lib.Dec.{eqb, leb, ltb}
use lib.ListN.{get_or}
use borrow.Author.Tests.{eq-eqb, ne_eqb, lt-ltb, le-ltb, lt-leb, le-leb}
use Rattle.std.specs.Int.{from_bool}
use Rattle.value_limbs.specs.Limbs.{Carry, cat, number}

-- ---- Carries: sums, differences and shifts to the left.

-- The carry out of the low part goes into the high part.
pub carry-cat : {B H c c₁ c₂ l h t T : ℕ} → Carry B t c l c₁ → Carry H T c₁ h c₂ → Carry (H * B) (T * B + t) c (h * B + l) c₂
carry-cat {B} {H} {c} {c₁} {c₂} {l} {h} {t} {T} e f =
    let g : c₂ * (H * B) + h * B ≡ T * B + c₁ * B = simp (add-mul, mul_assoc) at (ap (λ (n : ℕ). n * B) f.sum) in
    record { sum = omega arith }

-- The same sum, said otherwise.
pub carry-of : {B c l t t' out : ℕ} → t ≡ t' → Carry B t c l out → Carry B t' c l out
carry-of p e = record { sum = omega arith }

-- A chain of four carries.
pub carry-four : {c c₁ c₂ c₃ c₄ l₀ l₁ l₂ l₃ t₀ t₁ t₂ t₃ : ℕ} → Carry (2 ^ 64) t₀ c l₀ c₁ → Carry (2 ^ 64) t₁ c₁ l₁ c₂ → Carry (2 ^ 64) t₂ c₂ l₂ c₃ → Carry (2 ^ 64) t₃ c₃ l₃ c₄
    → Carry (2 ^ 256) (cat (cat (cat t₃ t₂) t₁) t₀) c (cat (cat (cat l₃ l₂) l₁) l₀) c₄
carry-four e₀ e₁ e₂ e₃ = carry-cat e₀ (carry-cat e₁ (carry-cat e₂ e₃))

-- What is left in place is the remainder, and what is carried is the quotient.
pub carry-parts : {B t low out : ℕ} → Carry B t 0 low out → low < B → (low ≡ t % B) × (out ≡ t / B)
carry-parts {B} {t} {low} {out} e h =
    let s : out * B + low ≡ t = e.sum ∙ add-zero t in
    (sym (digits_mod out h) ∙ ap (λ (n : ℕ). n % B) s, sym (digits_div out h) ∙ ap (λ (n : ℕ). n / B) s)

-- Where one is carried, the sum passed the base.
pub carry-passes : (out : Bool) {B t low : ℕ} → Carry B t 0 low (from_bool out) → low < B → out ≡ leb B t
carry-passes false {B} {t} e h =
    let s = rw (zero-mul B) at e.sum in
    sym (lt-leb B t (omega arith))
carry-passes true {B} {t} e h =
    let s = rw (one-mul B) at e.sum in
    sym (le-leb B t (omega arith))

sum-cat : (B X x Y y : ℕ) → (X + Y) * B + (x + y) ≡ (X * B + x) + (Y * B + y)
sum-cat B X x Y y = simp add-mul (omega arith)

-- Limb by limb, the sums are the sum.
pub sum-four : (x y : List ℕ) → cat (cat (cat (get_or x 3 0 + get_or y 3 0) (get_or x 2 0 + get_or y 2 0)) (get_or x 1 0 + get_or y 1 0)) (get_or x 0 0 + get_or y 0 0) ≡ number x + number y
unfolding number
sum-four x y = simp sum-cat

-- As `carrying_add` says it of each limb.
pub add-four : (x y r : List ℕ) (c₀ c₁ c₂ c₃ : Bool)
    → get_or r 0 0 + from_bool c₀ * 2 ^ 64 ≡ get_or x 0 0 + get_or y 0 0 + 0
    → get_or r 1 0 + from_bool c₁ * 2 ^ 64 ≡ get_or x 1 0 + get_or y 1 0 + from_bool c₀
    → get_or r 2 0 + from_bool c₂ * 2 ^ 64 ≡ get_or x 2 0 + get_or y 2 0 + from_bool c₁
    → get_or r 3 0 + from_bool c₃ * 2 ^ 64 ≡ get_or x 3 0 + get_or y 3 0 + from_bool c₂
    → Carry (2 ^ 256) (number x + number y) 0 (number r) (from_bool c₃)
unfolding number
add-four x y r c₀ c₁ c₂ c₃ e₀ e₁ e₂ e₃ =
    carry-of (sum-four x y)
    (carry-four {c₁ = from_bool c₀} {c₂ = from_bool c₁} {c₃ = from_bool c₂} (record { sum = omega arith }) (record { sum = omega arith }) (record { sum = omega arith }) (record { sum = omega arith }))

times-cat : (B P X x : ℕ) → X * P * B + x * P ≡ (X * B + x) * P
times-cat B P X x = sym (add-mul (X * B) x P ∙ ap (λ (n : ℕ). n + x * P) (mul_right_comm X B P))

-- Limb by limb, the multiples are the multiple.
pub times-four : (x : List ℕ) (P : ℕ) → cat (cat (cat (get_or x 3 0 * P) (get_or x 2 0 * P)) (get_or x 1 0 * P)) (get_or x 0 0 * P) ≡ number x * P
unfolding number
times-four x P = simp times-cat

-- ---- The limbs' ranges.

pub record Below (x : List ℕ) : Type 0 where
  pub b0 : get_or x 0 0 < 2 ^ 64
  pub b1 : get_or x 1 0 < 2 ^ 64
  pub b2 : get_or x 2 0 < 2 ^ 64
  pub b3 : get_or x 3 0 < 2 ^ 64

pub cat-lt : {a b c d : ℕ} → a < 2 ^ 64 → b < 2 ^ 64 → c < 2 ^ 64 → d < 2 ^ 64 → cat (cat (cat d c) b) a < 2 ^ 256
cat-lt ha hb hc hd = digits_lt {m = 2 ^ 192} {c = 2 ^ 64} (digits_lt {m = 2 ^ 128} {c = 2 ^ 64} (digits_lt {m = 2 ^ 64} {c = 2 ^ 64} hd hc) hb) ha

pub four-lt : {x : List ℕ} → Below x → number x < 2 ^ 256
unfolding number
four-lt h = cat-lt h.b0 h.b1 h.b2 h.b3

-- A number below 2 to the 64 is the lowest limb.
pub four-small : (x : List ℕ) → Below x → number x < 2 ^ 64 → get_or x 0 0 ≡ number x
unfolding number
four-small x h l = sym (low (cat (cat (get_or x 3 0) (get_or x 2 0)) (get_or x 1 0)) 64 h.b0) ∙ mod-eq_of_lt l

-- ---- Operations that work on each run of digits apart.

module _ (op : ℕ → ℕ → ℕ) (block : (k a b r s : ℕ) → r < 2 ^ k → s < 2 ^ k → op (a * 2 ^ k + r) (b * 2 ^ k + s) ≡ op a b * 2 ^ k + op r s) where
  pub op-four : {x y : List ℕ} → Below x → Below y → cat (cat (cat (op (get_or x 3 0) (get_or y 3 0)) (op (get_or x 2 0) (get_or y 2 0))) (op (get_or x 1 0) (get_or y 1 0))) (op (get_or x 0 0) (get_or y 0 0)) ≡ op (number x) (number y)
  unfolding number
  op-four {x} {y} h k =
      sym (block 64 (cat (cat (get_or x 3 0) (get_or x 2 0)) (get_or x 1 0)) (cat (cat (get_or y 3 0) (get_or y 2 0)) (get_or y 1 0)) (get_or x 0 0) (get_or y 0 0) h.b0 k.b0
      ∙ ap (λ (n : ℕ). cat n (op (get_or x 0 0) (get_or y 0 0))) (block 64 (cat (get_or x 3 0) (get_or x 2 0)) (cat (get_or y 3 0) (get_or y 2 0)) (get_or x 1 0) (get_or y 1 0) h.b1 k.b1
      ∙ ap (λ (n : ℕ). cat n (op (get_or x 1 0) (get_or y 1 0))) (block 64 (get_or x 3 0) (get_or y 3 0) (get_or x 2 0) (get_or y 2 0) h.b2 k.b2)))

pub ones-four : {x : List ℕ} → Below x → ones (get_or x 3 0) + ones (get_or x 2 0) + ones (get_or x 1 0) + ones (get_or x 0 0) ≡ ones (number x)
unfolding number
ones-four {x} h =
    sym (ones_cat 64 (cat (cat (get_or x 3 0) (get_or x 2 0)) (get_or x 1 0)) (get_or x 0 0) h.b0
    ∙ ap (λ (n : ℕ). n + ones (get_or x 0 0)) (ones_cat 64 (cat (get_or x 3 0) (get_or x 2 0)) (get_or x 1 0) h.b1
    ∙ ap (λ (n : ℕ). n + ones (get_or x 1 0)) (ones_cat 64 (get_or x 3 0) (get_or x 2 0) h.b2)))

-- ---- The low digits.

-- The k low digits of a number whose low part has j.
pub low-cat : (j k X : ℕ) {x : ℕ} → x < 2 ^ j → (X * 2 ^ j + x) % 2 ^ k ≡ (X % 2 ^ (k - j)) * 2 ^ j + x % 2 ^ k
low-cat j k X {x} h = ⊎_elim (λ e. short (omega arith)) (λ l. long (omega arith)) (eq-zero-or-pos (k - j))
  where
    short : k ≤ j → (X * 2 ^ j + x) % 2 ^ k ≡ (X % 2 ^ (k - j)) * 2 ^ j + x % 2 ^ k
    short l =
        let e : k - j ≡ 0 = omega arith in
        let p : 2 ^ j ≡ 2 ^ (j - k) * 2 ^ k = ap (λ (n : ℕ). 2 ^ n) (sym (sub-add_cancel l)) ∙ pow-add 2 (j - k) k in
        ap (λ (n : ℕ). (n + x) % 2 ^ k) (ap (λ (n : ℕ). X * n) p ∙ sym (mul_assoc X (2 ^ (j - k)) (2 ^ k)))
        ∙ mul-add-mod_self_right (X * 2 ^ (j - k)) (2 ^ k) x
        ∙ sym (ap (λ (n : ℕ). (X % 2 ^ n) * 2 ^ j + x % 2 ^ k) e ∙ ap (λ (n : ℕ). n * 2 ^ j + x % 2 ^ k) (mod-one X)
        ∙ ap (λ (n : ℕ). n + x % 2 ^ k) (zero-mul (2 ^ j)) ∙ zero-add (x % 2 ^ k))

    long : j ≤ k → (X * 2 ^ j + x) % 2 ^ k ≡ (X % 2 ^ (k - j)) * 2 ^ j + x % 2 ^ k
    long l =
        ap (λ (n : ℕ). (X * 2 ^ j + x) % 2 ^ n) (sym (sub-add_cancel l)) ∙ mod-pow-add (X * 2 ^ j + x) (k - j) j
        ∙ ap₂ (λ (a b : ℕ). (a % 2 ^ (k - j)) * 2 ^ j + b) (high X j h) (low X j h ∙ sym (mod-eq_of_lt (lt_of_lt_of_le h (pow_mono l))))

pub low-four : {x : List ℕ} (k : ℕ) → Below x
    → cat (cat (cat (get_or x 3 0 % 2 ^ (k - 64 - 64 - 64)) (get_or x 2 0 % 2 ^ (k - 64 - 64))) (get_or x 1 0 % 2 ^ (k - 64))) (get_or x 0 0 % 2 ^ k) ≡ number x % 2 ^ k
unfolding number
low-four {x} k h =
    sym (low-cat 64 k (cat (cat (get_or x 3 0) (get_or x 2 0)) (get_or x 1 0)) h.b0
    ∙ ap (λ (n : ℕ). cat n (get_or x 0 0 % 2 ^ k)) (low-cat 64 (k - 64) (cat (get_or x 3 0) (get_or x 2 0)) h.b1
    ∙ ap (λ (n : ℕ). cat n (get_or x 1 0 % 2 ^ (k - 64))) (low-cat 64 (k - 64 - 64) (get_or x 3 0) h.b2)))

-- `a & ((1 << k) - 1)`.
pub one_left : (w k : ℕ) → k < w → 1 * 2 ^ k % 2 ^ w ≡ 2 ^ k
one_left w k h = shl_exact 1 k w (omega arith) (omega arith) ∙ one-mul (2 ^ k)

pub mask_low : (w a k : ℕ) → k < w → bit_and a (1 * 2 ^ k % 2 ^ w - 1) ≡ a % 2 ^ k
mask_low w a k h = ap (λ (n : ℕ). bit_and a (n - 1)) (one_left w k h) ∙ and_mask a k

pub whole-low : {w a : ℕ} (k : ℕ) → w ≤ k → a < 2 ^ w → a ≡ a % 2 ^ k
whole-low k l h = sym (mod-eq_of_lt (lt_of_lt_of_le h (pow_mono l)))

-- ---- Shifts.

-- A limb of w digits, shifted left by s, with the digits c put in below, and those that leave at the top carried.
pub left-carry : (w s a : ℕ) {c : ℕ} → s ≤ w → c < 2 ^ s → Carry (2 ^ w) (a * 2 ^ s) c (bit_or (a * 2 ^ s % 2 ^ w) c) (a / 2 ^ (w - s))
left-carry w s a {c} l h =
    let pq : 2 ^ w ≡ 2 ^ (w - s) * 2 ^ s = ap (λ (n : ℕ). 2 ^ n) (sym (sub-add_cancel l)) ∙ pow-add 2 (w - s) s in
    let low' : a * 2 ^ s % 2 ^ w ≡ (a % 2 ^ (w - s)) * 2 ^ s =
    ap (λ (n : ℕ). a * 2 ^ s % 2 ^ n) (sym (sub-add_cancel l)) ∙ mod-pow-add (a * 2 ^ s) (w - s) s
    ∙ ap₂ (λ (u v : ℕ). (u % 2 ^ (w - s)) * 2 ^ s + v) (shl-shr a s) (mul-mod_left a (2 ^ s)) ∙ add-zero ((a % 2 ^ (w - s)) * 2 ^ s)
    in
    let lo : bit_or (a * 2 ^ s % 2 ^ w) c ≡ (a % 2 ^ (w - s)) * 2 ^ s + c = ap (λ (n : ℕ). bit_or n c) low' ∙ or_shifted (a % 2 ^ (w - s)) s c h in
    let hi : a / 2 ^ (w - s) * 2 ^ w ≡ a / 2 ^ (w - s) * 2 ^ (w - s) * 2 ^ s = ap (λ (n : ℕ). a / 2 ^ (w - s) * n) pq ∙ sym (mul_assoc (a / 2 ^ (w - s)) (2 ^ (w - s)) (2 ^ s)) in
    let whole : a / 2 ^ (w - s) * 2 ^ (w - s) * 2 ^ s + (a % 2 ^ (w - s)) * 2 ^ s ≡ a * 2 ^ s = sym (add-mul (a / 2 ^ (w - s) * 2 ^ (w - s)) (a % 2 ^ (w - s)) (2 ^ s)) ∙ ap (λ (n : ℕ). n * 2 ^ s) (split a (w - s)) in
    record { sum = ap₂ (λ (u v : ℕ). u + v) hi lo ∙ regroup _ _ c ∙ ap (λ (n : ℕ). n + c) whole }
  where
    regroup : (u v c : ℕ) → u + (v + c) ≡ u + v + c
    regroup u v c = omega arith

-- The highest digit, and those below it.
cat-top : (B a b c d : ℕ) → ((a * B + b) * B + c) * B + d ≡ a * (B * (B * B)) + ((b * B + c) * B + d)
cat-top B a b c d = simp (add-mul, mul_assoc) (omega arith)

pub cat-top-five : (B a b c d e : ℕ) → (((a * B + b) * B + c) * B + d) * B + e ≡ a * (B * (B * (B * B))) + (((b * B + c) * B + d) * B + e)
cat-top-five B a b c d e = simp (add-mul, mul_assoc) (omega arith)

pub up-four : {x : List ℕ} → Below x → cat (cat (cat (get_or x 2 0) (get_or x 1 0)) (get_or x 0 0)) 0 ≡ number x * 2 ^ 64 % 2 ^ 256
unfolding number
up-four {x} h =
    let m : ℕ = cat (cat (get_or x 2 0) (get_or x 1 0)) (get_or x 0 0) in
    let l : m < 2 ^ 192 = digits_lt {m = 2 ^ 128} {c = 2 ^ 64} (digits_lt {m = 2 ^ 64} {c = 2 ^ 64} h.b2 h.b1) h.b0 in
    add-zero (m * 2 ^ 64)
    ∙ sym (mod-eq_of_lt (mul-lt-mul_of_pos_right {n = 2 ^ 192} {k = 2 ^ 64} l (pow_pos 64)))
    ∙ sym (mul-add-mod_self_right (get_or x 3 0) (2 ^ 256) (m * 2 ^ 64))
    ∙ ap (λ (n : ℕ). n % 2 ^ 256) (ap (λ (n : ℕ). n + m * 2 ^ 64) (sym (mul_assoc (get_or x 3 0) (2 ^ 192) (2 ^ 64))) ∙ sym (add-mul (get_or x 3 0 * 2 ^ 192) m (2 ^ 64))
    ∙ ap (λ (n : ℕ). n * 2 ^ 64) (sym (cat-top (2 ^ 64) (get_or x 3 0) (get_or x 2 0) (get_or x 1 0) (get_or x 0 0))))

pub down-four : {x : List ℕ} → Below x → cat (cat (cat 0 (get_or x 3 0)) (get_or x 2 0)) (get_or x 1 0) ≡ number x / 2 ^ 64
unfolding number
down-four {x} h = ap (λ (n : ℕ). cat (cat n (get_or x 2 0)) (get_or x 1 0)) (zero-add (get_or x 3 0)) ∙ sym (high (cat (cat (get_or x 3 0) (get_or x 2 0)) (get_or x 1 0)) 64 h.b0)

pub times_mod : (n y M : ℕ) → (n % M) * y % M ≡ n * y % M
times_mod n y M =
    sym (mul-add-mod_self_right (n / M * y) M ((n % M) * y))
    ∙ ap (λ (k : ℕ). k % M) (ap (λ (k : ℕ). k + (n % M) * y) (mul_right_comm (n / M) y M) ∙ sym (add-mul (n / M * M) (n % M) y) ∙ ap (λ (k : ℕ). k * y) (div-add-mod' n M))

-- One shift after another, each modulo M.
pub left-left : (n a b M : ℕ) → (n * 2 ^ a % M) * 2 ^ b % M ≡ n * 2 ^ (a + b) % M
left-left n a b M = times_mod (n * 2 ^ a) (2 ^ b) M ∙ ap (λ (k : ℕ). k % M) (mul_assoc n (2 ^ a) (2 ^ b) ∙ ap (λ (k : ℕ). n * k) (sym (pow-add 2 a b)))

-- The lowest four of five limbs are what is left below 2 to the 256.
pub lowest-four : (l₀ l₁ l₂ l₃ l₄ n : ℕ) → l₀ < 2 ^ 64 → l₁ < 2 ^ 64 → l₂ < 2 ^ 64 → l₃ < 2 ^ 64 → cat (cat (cat (cat l₄ l₃) l₂) l₁) l₀ ≡ n
    → cat (cat (cat l₃ l₂) l₁) l₀ ≡ n % 2 ^ 256
lowest-four l₀ l₁ l₂ l₃ l₄ n h₀ h₁ h₂ h₃ e = sym (digits_mod l₄ (cat-lt h₀ h₁ h₂ h₃)) ∙ ap (λ (k : ℕ). k % 2 ^ 256) (sym (cat-top-five (2 ^ 64) l₄ l₃ l₂ l₁ l₀) ∙ e)

-- Shifted left by the rest of a limb, the highest four are those shifted right.
pub right-four : (n s X l₀ : ℕ) → s ≤ 64 → l₀ < 2 ^ 64 → cat X l₀ ≡ n * 2 ^ (64 - s) → X ≡ n / 2 ^ s
right-four n s X l₀ l h e =
    sym (high X 64 h)
    ∙ ap (λ (k : ℕ). k / 2 ^ 64) e
    ∙ ap (λ (k : ℕ). n * 2 ^ (64 - s) / k) (ap (λ (k : ℕ). 2 ^ k) (sym (add-sub_of_le l)) ∙ pow-add 2 s (64 - s))
    ∙ mul-div-mul_right n (2 ^ s) (pow_pos (64 - s))

-- ---- Differences: x and a borrow are the sum of r and y.

-- As `borrowing_sub` says it of each limb.
pub borrow-four : (x y r : List ℕ) (b₀ b₁ b₂ b₃ : Bool)
    → get_or r 0 0 + get_or y 0 0 + 0 ≡ get_or x 0 0 + from_bool b₀ * 2 ^ 64
    → get_or r 1 0 + get_or y 1 0 + from_bool b₀ ≡ get_or x 1 0 + from_bool b₁ * 2 ^ 64
    → get_or r 2 0 + get_or y 2 0 + from_bool b₁ ≡ get_or x 2 0 + from_bool b₂ * 2 ^ 64
    → get_or r 3 0 + get_or y 3 0 + from_bool b₂ ≡ get_or x 3 0 + from_bool b₃ * 2 ^ 64
    → Carry (2 ^ 256) (number r + number y) 0 (number x) (from_bool b₃)
unfolding number
borrow-four x y r b₀ b₁ b₂ b₃ e₀ e₁ e₂ e₃ =
    carry-of (sum-four r y)
    (carry-four {c₁ = from_bool b₀} {c₂ = from_bool b₁} {c₃ = from_bool b₂} (record { sum = omega arith }) (record { sum = omega arith }) (record { sum = omega arith }) (record { sum = omega arith }))

pub borrow-difference : {B r y x out : ℕ} → Carry B (r + y) 0 x out → r < B → y < B → r ≡ (x + (B - y)) % B
borrow-difference {B} {r} {y} {x} {out} e h k =
    let s = e.sum in
    let g : 1 * B + r ≡ out * B + (x + (B - y)) = omega arith in
    sym (digits_mod 1 h) ∙ ap (λ (n : ℕ). n % B) g ∙ mul-add-mod_self_right out B (x + (B - y))

pub borrow-less : (out : Bool) {B r y x : ℕ} → Carry B (r + y) 0 x (from_bool out) → r < B → y < B → out ≡ ltb x y
borrow-less false {B} {r} {y} {x} e h k =
    let s = rw (zero-mul B) at e.sum in
    sym (le-ltb x y (omega arith))
borrow-less true {B} {r} {y} {x} e h k =
    let s = rw (one-mul B) at e.sum in
    sym (lt-ltb x y (omega arith))

-- ---- A number has its limbs.

-- A number in two parts has its parts.
pub two-parts : (X Y : ℕ) {x y : ℕ} → x < 2 ^ 64 → y < 2 ^ 64 → cat X x ≡ cat Y y → (X ≡ Y) × (x ≡ y)
two-parts X Y hx hy e =
    (sym (high X 64 hx) ∙ ap (λ (n : ℕ). n / 2 ^ 64) e ∙ high Y 64 hy, sym (low X 64 hx) ∙ ap (λ (n : ℕ). n % 2 ^ 64) e ∙ low Y 64 hy)
