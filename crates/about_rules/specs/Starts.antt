-- Where records stand in a description as a tree gives them, each expression judged fine is a tree in order: it begins at its first record. Assumes nothing.
use Rattle.std.proofs.Math.Bool.{Bool, true}
use Rattle.std.specs.Prelude.{List, [], ◌∷◌, ◌++◌, ◌≡◌, length}
use Rattle.std.proofs.Math.Option.{some}
use Rattle.std.proofs.Math.Path.{refl, ap}
use Rattle.std.proofs.Common.{sym, ◌∙◌, pow-add}
use Rattle.std.proofs.Math.Nat.{div-div-eq-div-mul, div-one}
use native.Mathlib.Omega.{arith}
use Prim.Native.Nat.{ℕ, zero, suc, ◌+◌, ◌-◌, ◌*◌, ◌/◌, ◌%◌, ◌^◌, ◌≤◌, ◌<◌}
use borrow.Author.Tests.{eq-eqb, lt-ltb}
use Rattle.language.specs.Describe as B
use Rattle.language.specs.Describe.{Noted, constant_nodes, constant_size, digits_above, expression_size, last_of}
use Rattle.language.specs.Description as D
use Rattle.language.specs.Description.{Description, Node, digit_length, further_digits, node_at}
use Rattle.language.specs.Order.{constant_start, digits_stand, is_digit48, just_before, start_at, start_below, start_node, two_before}
use Rattle.language.specs.Tree as T
use Rattle.language.specs.Tree.{Expression}
use Rattle.language.specs.Value.{Value}
use Rattle.language.specs.Words.{Position}
use Rattle.about_running.specs.LegalForm.{left-of, right_of}
use Rattle.about_rules.specs.Declared.{both_so}
use Rattle.about_running.specs.Starts.{start-lt}
use Rattle.language.specs.Tests.{both}

pub some-records : (e : Expression) → 0 < expression_size e
unfolding expression_size constant_size
some-records (T.constant c p) = omega arith
some-records (T.whole n p) = omega arith
some-records (T.one n p e) = omega arith
some-records (T.part n p x) = omega arith
some-records (T.two n p e g) = omega arith
some-records (T.word_part n p e x) = omega arith
some-records (T.binary k p e g) = omega arith
some-records (T.prefix k p e) = omega arith
some-records (T.cut k p e c) = omega arith
some-records (T.choice p e g) = omega arith
some-records (T.first_arm e) = omega arith
some-records (T.next_arm e g) = omega arith

module _ (d : Description) where
  -- The records stand from a number on.
  abbrev pub Stand : ℕ → List Noted → Type 0
  Stand base [] = Unit {0}
  Stand base (n ∷ ns) = (node_at d base ≡ n.node) × Stand (suc base) ns

  pub stand-left : (base : ℕ) (xs ys : List Noted) → Stand base (xs ++ ys) → Stand base xs
  stand-left base [] ys h = tt
  stand-left base (x ∷ xs) ys h = (h.0, stand-left (suc base) xs ys h.1)

  pub stand-right : (base : ℕ) (xs ys : List Noted) → Stand base (xs ++ ys) → (at : ℕ) → at ≡ base + length xs → Stand at ys
  stand-right base [] ys h at e = let z : at ≡ base = omega (arith, e) in rw z h
  stand-right base (x ∷ xs) ys h at e = stand-right (suc base) xs ys h.1 at (omega (arith, e))

  -- ---- One part right before a record, and two.

  pub one-part : (a n s : ℕ) → a + 1 ≡ n → start_at d a ≡ some s → just_before d (start_below d n) a n ≡ some s
  one-part a n s e h = rw (eq-eqb (a + 1) n e) (start-lt d n a (omega arith) ∙ h)

  pub two-parts : (a b n m s : ℕ) → b + 1 ≡ n → start_at d b ≡ some m → a + 1 ≡ m → m ≤ b → start_at d a ≡ some s → two_before d (start_below d n) a b n ≡ some s
  two-parts a b n m s e h f l k =
      rw (one-part b n m e h) (rw (eq-eqb (a + 1) m f) (start-lt d n a (omega arith) ∙ k))

  -- ---- Constants.

  abbrev digit : ℕ → ℕ → ℕ
  digit x i = x / 2 ^ (digit_length * i) % 2 ^ digit_length

  shifted : (x i : ℕ) → x / 2 ^ digit_length / 2 ^ (digit_length * i) ≡ x / 2 ^ (digit_length * suc i)
  unfolding digit_length
  shifted x i =
      let z : digit_length * suc i ≡ digit_length + digit_length * i = omega arith in
      div-div-eq-div-mul x (2 ^ digit_length) (2 ^ (digit_length * i)) ∙ ap (λ (n : ℕ). x / n) (sym (pow-add 2 digit_length (digit_length * i)) ∙ ap (λ (n : ℕ). 2 ^ n) (sym z))

  -- One digit more, above those that stand.
  digits_more : (k m : ℕ) (x : ℕ) → digits_stand d k (m + suc k) x ≡ true → is_digit48 d (node_at d m) (digit x k) ≡ true → digits_stand d (suc k) (m + suc k) x ≡ true
  unfolding digits_stand digit_length
  digits_more zero m x h g =
      let z : m + 1 ≡ suc m = omega arith in
      let one : x / 2 ^ (digit_length * 0) ≡ x = div-one x in
      rw z (both_so (rw one at g) refl)
  digits_more (suc k) m x h g =
      let z : m + suc (suc k) ≡ suc (m + suc k) = omega arith in
      let low : Bool = is_digit48 d (node_at d (m + suc k)) (x % 2 ^ digit_length) in
      let i : both low (digits_stand d k (m + suc k) (x / 2 ^ digit_length)) ≡ true = rw z at h in
      rw z (both_so {a = low} (left-of low _ i) (digits_more k m (x / 2 ^ digit_length) (right_of low _ i) (rw (shifted x k) g)))

  is_digit : (n : Node) (x : ℕ) → n ≡ D.more x → is_digit48 d n x ≡ true
  is_digit n x e = rw e (eq-eqb x x refl)

  digits-stand : (k base x : ℕ) (p : Position) (rest : List Noted) → Stand base (digits_above k x p rest) → digits_stand d k (base + k) (x / 2 ^ digit_length) ≡ true
  unfolding digits_above digit_length digits_stand
  digits-stand zero base x p rest h = refl
  digits-stand (suc k) base x p rest h =
      let lower : digits_stand d k (suc base + k) (x / 2 ^ digit_length) ≡ true = digits-stand k (suc base) x p rest h.1 in
      let z : suc base + k ≡ base + suc k = omega arith in
      digits_more k base (x / 2 ^ digit_length) (rw z at lower)
      (is_digit (node_at d base) (digit (x / 2 ^ digit_length) k) (h.0 ∙ ap (λ (n : ℕ). D.more (n % 2 ^ digit_length)) (sym (shifted x k))))

  constant-last : (k base x : ℕ) (p : Position) (n : Noted) → Stand base (digits_above k x p (n ∷ [])) → node_at d (base + k) ≡ n.node
  unfolding digits_above
  constant-last zero base x p n h = let z : base + 0 ≡ base = omega arith in rw z h.0
  constant-last (suc k) base x p n h = let z : base + suc k ≡ suc base + k = omega arith in rw z (constant-last k (suc base) x p n h.1)

  pub constant-starts : (base : ℕ) (v : Value) (p : Position) → v.number < 2 ^ v.length → Stand base (constant_nodes v p) → start_at d (last_of base (constant_size v)) ≡ some base
  unfolding constant_nodes constant_size start_at start_node constant_start
  constant-starts base v p l h =
      let k = further_digits v.length in
      let z : base + suc k - 1 ≡ base + k = omega arith in
      let b : base + k - k ≡ base = omega arith in
      rw (z, constant-last k base v.number p (B.noted (D.constant v) p) h, lt-ltb v.number (2 ^ v.length) l, digits-stand k base v.number p (B.noted (D.constant v) p ∷ []) h, b) refl
