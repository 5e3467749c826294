-- A constant's record and the digits before it are those that its value gives. Assumes nothing.
use Rattle.std.proofs.Math.Bool.{Bool, true, false, cond}
use Rattle.std.specs.Prelude.{List, [], ◌∷◌}
use Rattle.std.proofs.Math.Option.{none, some}
use Rattle.std.proofs.Math.Path.{◌≡◌, refl, ap}
use Rattle.std.proofs.Common.{◌∙◌}
use Rattle.std.proofs.Math.Nat.{div-one}
use native.Mathlib.Omega.{arith}
use Prim.Native.Nat.{ℕ, zero, suc, ◌+◌, ◌-◌, ◌*◌, ◌/◌, ◌%◌, ◌^◌, ◌≤◌, ◌<◌}
use borrow.Author.Tests.{eqb-true, ltb-true}
use Rattle.std.proofs.Math.Dec.{ltb}
use Rattle.std.proofs.Math.Pow.{shr-shr}
use Rattle.language.specs.Describe as B
use Rattle.language.specs.Describe.{Noted, constant_nodes, constant_size, digits_above}
use Rattle.language.specs.Description as D
use Rattle.language.specs.Description.{Description, Node, digit_length, further_digits, node_at}
use Rattle.language.specs.Order.{constant_start, digits_stand, is_digit48}
use Rattle.language.specs.Value.{Value}
use Rattle.language.specs.Words.{Position}
use Rattle.about_rules.specs.Declared.{both_so}
use Rattle.about_rules.specs.Starts.{Stand}
use Rattle.about_running.specs.LegalForm.{left-of, right_of}
use Rattle.language.specs.Tests.{both}

module _ (d : Description) where
  wrong : {A : Type 0} → false ≡ true → A
  wrong e = absurd (let z : ◌≡◌ {A = ℕ} 0 1 = cc in omega arith)

  digit-is : (n : Node) (x : ℕ) → is_digit48 d n x ≡ true → n ≡ D.more x
  digit-is (D.constant v) x e = wrong e
  digit-is (D.more m) x e = ap D.more (eqb-true m x e)
  digit-is (D.whole f) x e = wrong e
  digit-is (D.one f a) x e = wrong e
  digit-is (D.part f b) x e = wrong e
  digit-is (D.two f a b) x e = wrong e
  digit-is (D.word_part f a b) x e = wrong e
  digit-is (D.binary k a b) x e = wrong e
  digit-is (D.prefix k a) x e = wrong e
  digit-is (D.cut k a c) x e = wrong e
  digit-is (D.first_arm a) x e = wrong e
  digit-is (D.next_arm a b) x e = wrong e
  digit-is (D.choice a b n) x e = wrong e
  digit-is D.Node.broken x e = wrong e

  abbrev digit : ℕ → ℕ → ℕ
  digit x i = x / 2 ^ (digit_length * i) % 2 ^ digit_length

  shifted : (x i : ℕ) → x / 2 ^ digit_length / 2 ^ (digit_length * i) ≡ x / 2 ^ (digit_length * suc i)
  unfolding digit_length
  shifted x i =
      let z : digit_length + digit_length * i ≡ digit_length * suc i = omega arith in
      shr-shr x digit_length (digit_length * i) ∙ ap (λ (n : ℕ). x / 2 ^ n) z

  -- The highest digit, and those below it.
  highest : (k m x : ℕ) → digits_stand d (suc k) (m + suc k) x ≡ true → (digits_stand d k (m + suc k) x ≡ true) × (node_at d m ≡ D.more (digit x k))
  unfolding digits_stand digit_length
  highest zero m x h =
      let z : m + 1 ≡ suc m = omega arith in
      let one : x / 2 ^ (digit_length * 0) ≡ x = div-one x in
      let i : both (is_digit48 d (node_at d m) (x % 2 ^ digit_length)) true ≡ true = rw z at h in
      (refl, rw one (digit-is (node_at d m) (x % 2 ^ digit_length) (left-of _ true i)))
  highest (suc k) m x h =
      let z : m + suc (suc k) ≡ suc (m + suc k) = omega arith in
      let low : Bool = is_digit48 d (node_at d (m + suc k)) (x % 2 ^ digit_length) in
      let i : both low (digits_stand d (suc k) (m + suc k) (x / 2 ^ digit_length)) ≡ true = rw z at h in
      let y = highest k m (x / 2 ^ digit_length) (right_of low _ i) in
      (rw z (both_so {a = low} (left-of low _ i) y.0), rw (← shifted x k) y.1)

  digits-stand : (k base x : ℕ) (p : Position) (rest : List Noted) → digits_stand d k (base + k) (x / 2 ^ digit_length) ≡ true → Stand d (base + k) rest → Stand d base (digits_above k x p rest)
  unfolding digits_above digit_length
  digits-stand zero base x p rest h s = let z : base + 0 ≡ base = omega arith in rw z at s
  digits-stand (suc k) base x p rest h s =
      let y = highest k base (x / 2 ^ digit_length) h in
      let z : base + suc k ≡ suc base + k = omega arith in
      (y.1 ∙ ap (λ (n : ℕ). D.more (n % 2 ^ digit_length)) (shifted x k), digits-stand k (suc base) x p rest (rw z at y.0) (rw z at s))

  digits-room : (k n x : ℕ) → digits_stand d k n x ≡ true → k ≤ n
  unfolding digits_stand
  digits-room zero n x h = omega arith
  digits-room (suc k) zero x h = wrong h
  digits-room (suc k) (suc n) x h = let y = digits-room k n (x / 2 ^ digit_length) (right_of (is_digit48 d (node_at d n) (x % 2 ^ digit_length)) _ h) in omega (arith, y)

  pub record Constant (n s : ℕ) (v : Value) (p : Position) : Type 0 where
    pub fits : v.number < 2 ^ v.length
    pub stands : Stand d s (constant_nodes v p)
    pub size : s + constant_size v ≡ n + 1

  pub constant-stands : (n s : ℕ) (v : Value) (p : Position) → node_at d n ≡ D.constant v → constant_start d n v.length v.number ≡ some s → Constant n s v p
  unfolding constant_start constant_nodes constant_size
  constant-stands n s v p q e = go (ltb v.number (2 ^ v.length)) refl (digits_stand d (further_digits v.length) n (v.number / 2 ^ digit_length)) refl e
    where
      go : (a : Bool) → ltb v.number (2 ^ v.length) ≡ a → (b : Bool) → digits_stand d (further_digits v.length) n (v.number / 2 ^ digit_length) ≡ b
          → cond (both a b) (some (n - further_digits v.length)) none ≡ some s → Constant n s v p
      go true x true y f =
          let z : n - further_digits v.length ≡ s = cc in
          let r = digits-room (further_digits v.length) n (v.number / 2 ^ digit_length) y in
          let at : n ≡ s + further_digits v.length = omega (arith, z, r) in
          record {
            fits = ltb-true _ _ x;
            stands = digits-stand (further_digits v.length) s v.number p (B.noted (D.constant v) p ∷ []) (rw at at y) (rw at at q, tt);
            size = omega (arith, at);
          }
      go true x false y f = absurd (let z : ◌≡◌ {A = ℕ} 0 1 = cc in omega arith)
      go false x b y f = absurd (let z : ◌≡◌ {A = ℕ} 0 1 = cc in omega arith)
