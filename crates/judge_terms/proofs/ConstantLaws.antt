-- The number of a constant: as a subscript, what stands before its own record is nothing, or too much for any bound.
use mathlib.Core.Bool.{Bool, true, false, cond}
use mathlib.Core.List.{List}
use mathlib.Core.Logic.{◌⊎◌, inl, inr, ⊎_elim}
use mathlib.Core.Path.{◌≡◌, refl, sym, ap, ◌∙◌}
use native.Mathlib.Omega.{arith}
use Prim.Native.Nat.{ℕ, zero, suc, ◌+◌, ◌-◌, ◌*◌, ◌/◌, ◌^◌, ◌<◌, ◌≤◌}
use Rattle.std.proofs.Common.{◌&&◌}
use Rattle.std.specs.List.{list_all, range_with_len}
use borrow.Author.Tests.{eq-eqb, eqb-false, eqb-true, le-leb, leb-false, leb-true, lt-leb, ne_eqb}
use lib.Dec.{eqb, leb}
use lib.ListN.{get_or}
use Rattle.language.specs.Decode.{digits_before, node_of, number_at}
use Rattle.language.specs.Description as D
use Rattle.language.specs.Description.{Bounds, digit_length, in_bounds}
use Rattle.language.specs.Value.{Value}
use Rattle.image_records.proofs.ConstantLaws.{constant-ends}
use Rattle.image_records.proofs.DigitLaws.{before-digits, further-of}
use Rattle.image_records.specs.Nodes.{constant_number, digits}
use Rattle.language.specs.Encode.{node_size}

module _ (s : List ℕ) where
  more-digits : (k n : ℕ) → 0 < k → 0 < n → digits_before k n s ≡ (number_at 6 (node_size * (n - 1) + 2) s + digits_before (k - 1) (n - 1) s) * 2 ^ 48
  unfolding digits_before digit_length
  more-digits zero n h g = absurd (omega arith)
  more-digits (suc k) zero h g = absurd (omega arith)
  more-digits (suc k) (suc n) h g =
      let e : suc k - 1 ≡ k = omega arith in
      let f : suc n - 1 ≡ n = omega arith in
      rw (e, f)

  -- The first of k + 1 digits before a record, and those behind it.
  low-zero : (k n : ℕ) → k < n → digits_before (suc k) n s ≡ 0 → (number_at 6 (node_size * (n - suc k) + 2) s ≡ 0) × (digits_before k n s ≡ 0)
  unfolding digits_before digit_length
  low-zero k zero h e = absurd (omega arith)
  low-zero zero (suc n) h e =
      let f : suc n - 1 ≡ n = omega arith in
      (rw f (omega arith), refl)
  low-zero (suc k) (suc n) h e =
      let f : suc n - suc (suc k) ≡ n - suc k = omega arith in
      let r : (number_at 6 (node_size * (n - suc k) + 2) s ≡ 0) × (digits_before k n s ≡ 0) = low-zero k n (omega arith) (omega arith) in
      (rw f r.0, omega arith)

  zero-low : (k n : ℕ) → k < n → number_at 6 (node_size * (n - suc k) + 2) s ≡ 0 → digits_before k n s ≡ 0 → digits_before (suc k) n s ≡ 0
  unfolding digits_before digit_length
  zero-low k zero h z e = absurd (omega arith)
  zero-low zero (suc n) h z e =
      let f : suc n - 1 ≡ n = omega arith in
      let g : number_at 6 (node_size * n + 2) s ≡ 0 = rw f at z in
      omega arith
  zero-low (suc k) (suc n) h z e =
      let f : suc n - suc (suc k) ≡ n - suc k = omega arith in
      let g : number_at 6 (node_size * (n - suc k) + 2) s ≡ 0 = rw f at z in
      let r : digits_before (suc k) n s ≡ 0 = zero-low k n (omega arith) g (omega arith) in
      omega arith

  zero-first : (k n : ℕ) → k < n → eqb (digits_before (suc k) n s) 0 ≡ (eqb (number_at 6 (node_size * (n - suc k) + 2) s) 0 && eqb (digits_before k n s) 0)
  zero-first k n h = by-test (eqb (digits_before (suc k) n s) 0) refl
    where
      by-test : (b : Bool) → eqb (digits_before (suc k) n s) 0 ≡ b → eqb (digits_before (suc k) n s) 0 ≡ (eqb (number_at 6 (node_size * (n - suc k) + 2) s) 0 && eqb (digits_before k n s) 0)
      by-test true t =
          let r : (number_at 6 (node_size * (n - suc k) + 2) s ≡ 0) × (digits_before k n s ≡ 0) = low-zero k n h (eqb-true _ 0 t) in
          rw (t, r.0, r.1)
      by-test false t = t ∙ sym (by-digit (eqb (number_at 6 (node_size * (n - suc k) + 2) s) 0) (eqb (digits_before k n s) 0) refl refl)
        where
          by-digit : (c d : Bool) → eqb (number_at 6 (node_size * (n - suc k) + 2) s) 0 ≡ c → eqb (digits_before k n s) 0 ≡ d → (c && d) ≡ false
          by-digit false d e f = refl
          by-digit true false e f = refl
          by-digit true true e f = absurd (eqb-false _ 0 t (zero-low k n h (eqb-true _ 0 e) (eqb-true _ 0 f)))

  zero-within : (k n : ℕ) → k ≤ n → list_all (λ m. eqb (number_at 6 (node_size * m + 2) s) 0) (range_with_len (n - k) k) ≡ eqb (digits_before k n s) 0
  unfolding digits_before
  zero-within zero n h = refl
  zero-within (suc k) n h =
      let f : n - suc k + 1 ≡ n - k = omega arith in
      rw (f, zero-within k n (omega arith)) (sym (zero-first k n (omega arith)))

  before-all : (k n : ℕ) → n ≤ k → digits_before k n s ≡ digits_before n n s
  unfolding digits_before
  before-all zero zero h = refl
  before-all zero (suc n) h = absurd (omega arith)
  before-all (suc k) zero h = refl
  before-all (suc k) (suc n) h =
      let e : digits_before k n s ≡ digits_before n n s = before-all k n (omega arith) in
      rw e

  -- The digits before a record are zeros where each is.
  pub zero-each : (k n : ℕ) → list_all (λ m. eqb (number_at 6 (node_size * m + 2) s) 0) (range_with_len (n - k) (n - (n - k))) ≡ eqb (digits_before k n s) 0
  zero-each k n = by-test (leb k n) refl
    where
      by-test : (b : Bool) → leb k n ≡ b → list_all (λ m. eqb (number_at 6 (node_size * m + 2) s) 0) (range_with_len (n - k) (n - (n - k))) ≡ eqb (digits_before k n s) 0
      by-test true t =
          let h : k ≤ n = leb-true k n t in
          let e : n - (n - k) ≡ k = omega arith in
          rw e (zero-within k n h)
      by-test false t =
          let h : n < k = leb-false k n t in
          let e : n - k ≡ n - n = omega arith in
          let f : n - (n - n) ≡ n = omega arith in
          rw (e, f, before-all k n (omega arith)) (zero-within n n (omega arith))

  -- The number is that of its own record and what stands before it.
  number_is : (n : ℕ) (v : Value) → node_of s n ≡ D.constant v → v.number ≡ number_at 6 (node_size * n + 2) s + digits_before (get_or s (node_size * n + 1) 0 / 48) n s
  unfolding constant_number
  number_is n v e = ap (λ (x : Value). x.number) (constant-ends s n v e).is ∙ rw (further-of (get_or s (node_size * n + 1) 0))

  pub number-own : (n k : ℕ) (v : Value) → node_of s n ≡ D.constant v → k ≡ get_or s (node_size * n + 1) 0 / 48 → eqb (digits_before k n s) 0 ≡ true
      → number_at 6 (node_size * n + 2) s ≡ v.number
  number-own n k v e q t =
      let z : digits_before k n s ≡ 0 = eqb-true _ 0 t in
      let x : v.number ≡ number_at 6 (node_size * n + 2) s + digits_before (get_or s (node_size * n + 1) 0 / 48) n s = number_is n v e in
      let y : digits_before k n s ≡ digits_before (get_or s (node_size * n + 1) 0 / 48) n s = ap (λ (m : ℕ). digits_before m n s) q in
      omega arith

  number-large : (n k : ℕ) (v : Value) → node_of s n ≡ D.constant v → k ≡ get_or s (node_size * n + 1) 0 / 48 → eqb (digits_before k n s) 0 ≡ false
      → 2 ^ 48 ≤ v.number
  number-large n k v e q t =
      let z : digits_before k n s ≡ 0 → ⊥ = eqb-false _ 0 t in
      let x : v.number ≡ number_at 6 (node_size * n + 2) s + digits_before (get_or s (node_size * n + 1) 0 / 48) n s = number_is n v e in
      let y : digits_before k n s ≡ digits_before (get_or s (node_size * n + 1) 0 / 48) n s = ap (λ (m : ℕ). digits_before m n s) q in
      let w : digits_before k n s ≡ digits k n s * 2 ^ 48 = before-digits k n s in
      omega arith

  pub out-of-bounds : (n k : ℕ) (v : Value) (b : Bounds) → node_of s n ≡ D.constant v → k ≡ get_or s (node_size * n + 1) 0 / 48
      → eqb (digits_before k n s) 0 ≡ false → b.first < 2 ^ 32 → b.last < 2 ^ 32 → false ≡ in_bounds b v.number
  unfolding in_bounds
  out-of-bounds n k v b e q t f l =
      let h : 2 ^ 48 ≤ v.number = number-large n k v e q t in
      let x : leb b.first v.number ≡ true = le-leb b.first v.number (omega arith) in
      let y : leb b.last v.number ≡ true = le-leb b.last v.number (omega arith) in
      let z : leb v.number b.last ≡ false = lt-leb v.number b.last (omega arith) in
      let w : leb v.number b.first ≡ false = lt-leb v.number b.first (omega arith) in
      sym (by-test (leb b.first b.last) x y z w)
    where
      by-test : (c : Bool) → leb b.first v.number ≡ true → leb b.last v.number ≡ true → leb v.number b.last ≡ false
          → leb v.number b.first ≡ false
          → cond c (cond (leb b.first v.number) (leb v.number b.last) false) (cond (leb b.last v.number) (leb v.number b.first) false) ≡ false
      by-test true x y z w = rw (x, z)
      by-test false x y z w = rw (y, w)

  -- ---- Two numbers: equal where their lowest digits are, and what stands before those.

  or-none : (k n : ℕ) → (digits_before k n s ≡ 0) ⊎ ((0 < k) × (0 < n))
  unfolding digits_before
  or-none zero n = inl refl
  or-none (suc k) zero = inl refl
  or-none (suc k) (suc n) = inr (omega arith, omega arith)

  pub one-none : (k n j m : ℕ) → (0 < k → 0 < n → 0 < j → 0 < m → ⊥) → (digits_before k n s ≡ 0) ⊎ (digits_before j m s ≡ 0)
  one-none k n j m h = ⊎_elim (λ e. inl e) (λ p. ⊎_elim (λ e. inr e) (λ q. absurd (h p.0 p.1 q.0 q.1)) (or-none j m)) (or-none k n)

  abbrev whole : ℕ → ℕ → ℕ
  whole k n = number_at 6 (node_size * n + 2) s + digits_before k n s

  pub whole-some : (k n : ℕ) → (number_at 6 (node_size * n + 2) s ≡ 0 → ⊥) → false ≡ eqb (whole k n) 0
  whole-some k n h = sym (ne_eqb (whole k n) 0 (λ (e : whole k n ≡ 0). h (omega arith)))

  pub whole-none : (k n : ℕ) → number_at 6 (node_size * n + 2) s ≡ 0 → eqb (digits_before k n s) 0 ≡ eqb (whole k n) 0
  whole-none k n e = let z : digits_before k n s ≡ whole k n = omega arith in ap (λ (x : ℕ). eqb x 0) z

  same_test : {a b c e : ℕ} → (a ≡ b → c ≡ e) → (c ≡ e → a ≡ b) → eqb a b ≡ eqb c e
  same_test {a} {b} {c} {e} f g = by-test (eqb a b) refl
    where
      by-test : (t : Bool) → eqb a b ≡ t → eqb a b ≡ eqb c e
      by-test true t = t ∙ sym (eq-eqb c e (f (eqb-true a b t)))
      by-test false t = t ∙ sym (ne_eqb c e (λ h. eqb-false a b t (g h)))

  module _ (k n j m : ℕ) where
    pub same-differ : (number_at 6 (node_size * n + 2) s ≡ number_at 6 (node_size * m + 2) s → ⊥) → number_at 6 (node_size * n + 2) s < 2 ^ 48 → number_at 6 (node_size * m + 2) s < 2 ^ 48
        → false ≡ eqb (whole k n) (whole j m)
    same-differ h f g =
        let x : digits_before k n s ≡ digits k n s * 2 ^ 48 = before-digits k n s in
        let y : digits_before j m s ≡ digits j m s * 2 ^ 48 = before-digits j m s in
        sym (ne_eqb (whole k n) (whole j m) (λ (e : whole k n ≡ whole j m). h (omega arith)))

    -- Behind digits that are the same, and of which one number has no more: the same where neither has.
    pub same-last : number_at 6 (node_size * n + 2) s ≡ number_at 6 (node_size * m + 2) s → (digits_before k n s ≡ 0) ⊎ (digits_before j m s ≡ 0)
        → (eqb (digits_before k n s) 0 && eqb (digits_before j m s) 0) ≡ eqb (whole k n) (whole j m)
    same-last e w = by-test (eqb (digits_before k n s) 0) (eqb (digits_before j m s) 0) refl refl
      where
        by-test : (b c : Bool) → eqb (digits_before k n s) 0 ≡ b → eqb (digits_before j m s) 0 ≡ c → (b && c) ≡ eqb (whole k n) (whole j m)
        by-test true true t u =
            let x : digits_before k n s ≡ 0 = eqb-true _ 0 t in
            let y : digits_before j m s ≡ 0 = eqb-true _ 0 u in
            sym (eq-eqb (whole k n) (whole j m) (omega arith))
        by-test true false t u =
            let x : digits_before k n s ≡ 0 = eqb-true _ 0 t in
            let y : digits_before j m s ≡ 0 → ⊥ = eqb-false _ 0 u in
            sym (ne_eqb (whole k n) (whole j m) (λ (h : whole k n ≡ whole j m). y (omega arith)))
        by-test false c t u =
            let x : digits_before k n s ≡ 0 → ⊥ = eqb-false _ 0 t in
            let y : digits_before j m s ≡ 0 = ⊎_elim (λ z. absurd (x z)) (λ z. z) w in
            sym (ne_eqb (whole k n) (whole j m) (λ (h : whole k n ≡ whole j m). x (omega arith)))

    same_next : 0 < k → 0 < n → 0 < j → 0 < m → number_at 6 (node_size * n + 2) s ≡ number_at 6 (node_size * m + 2) s
        → eqb (whole (k - 1) (n - 1)) (whole (j - 1) (m - 1)) ≡ eqb (whole k n) (whole j m)
    same_next a b c d e =
        let x : digits_before k n s ≡ whole (k - 1) (n - 1) * 2 ^ 48 = more-digits k n a b in
        let y : digits_before j m s ≡ whole (j - 1) (m - 1) * 2 ^ 48 = more-digits j m c d in
        same_test (λ (h : whole (k - 1) (n - 1) ≡ whole (j - 1) (m - 1)). omega arith) (λ (h : whole k n ≡ whole j m). omega arith)

  -- Digits at the end that are the same make no difference.
  pub same-behind : (d k n j m : ℕ) → d ≤ k → d ≤ n → d ≤ j → d ≤ m
      → ((e : ℕ) → e < d → number_at 6 (node_size * (n - e) + 2) s ≡ number_at 6 (node_size * (m - e) + 2) s)
      → eqb (whole (k - d) (n - d)) (whole (j - d) (m - d)) ≡ eqb (whole k n) (whole j m)
  same-behind zero k n j m a b c f same =
      let x : k - 0 ≡ k = omega arith in
      let y : n - 0 ≡ n = omega arith in
      let z : j - 0 ≡ j = omega arith in
      let w : m - 0 ≡ m = omega arith in
      rw (x, y, z, w)
  same-behind (suc d) k n j m a b c f same =
      let x : k - d - 1 ≡ k - suc d = omega arith in
      let y : n - d - 1 ≡ n - suc d = omega arith in
      let z : j - d - 1 ≡ j - suc d = omega arith in
      let w : m - d - 1 ≡ m - suc d = omega arith in
      rw (← x, ← y, ← z, ← w) (same_next (k - d) (n - d) (j - d) (m - d) (omega arith) (omega arith) (omega arith) (omega arith) (same d (omega arith)))
      ∙ same-behind d k n j m (omega arith) (omega arith) (omega arith) (omega arith) (λ e h. same e (omega arith))

  -- Two numbers whose last digits are the same up to where one of them has no more.
  pub same-ends : (h d k n j m : ℕ) → d ≡ h → h ≤ k → h ≤ n → h ≤ j → h ≤ m → (0 < k - h → 0 < n - h → 0 < j - h → 0 < m - h → ⊥)
      → ((e : ℕ) → e < d → number_at 6 (node_size * (n - e) + 2) s ≡ number_at 6 (node_size * (m - e) + 2) s)
      → number_at 6 (node_size * (n - d) + 2) s ≡ number_at 6 (node_size * (m - d) + 2) s
      → (eqb (digits_before (k - h) (n - h) s) 0 && eqb (digits_before (j - h) (m - h) s) 0) ≡ eqb (whole k n) (whole j m)
  same-ends h d k n j m q a b c f g same last =
      same-last (k - h) (n - h) (j - h) (m - h) (rw q at last) (one-none (k - h) (n - h) (j - h) (m - h) g)
      ∙ same-behind h k n j m a b c f (λ e l. same e (omega arith))
