-- A constant's record: what it is, and when its number fits its length.
use mathlib.Core.Bool.{Bool, true, false, cond, true≢false}
use mathlib.Core.List.{List}
use mathlib.Core.Path.{◌≡◌, refl, sym, ap, ◌∙◌}
use Prim.Native.Nat.{ℕ, zero, suc, ◌+◌, ◌-◌, ◌*◌, ◌/◌, ◌%◌, ◌^◌, ◌<◌, ◌≤◌}
use native.Mathlib.Nat.{add-mul, mul-le-mul_right, one-mul}
use native.Mathlib.Omega.{arith}
use borrow.Author.Tests.{eqb-false, eqb-true, le-ltb, lt-ltb, ltb-false, ltb-true}
use lib.Dec.{eqb, ltb}
use lib.ListN.{length, get_or}
use lib.Pow.{pow-add}
use Rattle.language.specs.Decode.{digits_marked, node_of, number_at, operator_of, pick, plain_node}
use Rattle.language.specs.Description as D
use Rattle.language.specs.Description.{Node, digit_length}
use Rattle.language.specs.Value.{Value, value}
use Rattle.image_records.proofs.DigitLaws.{constant-digits, further-of}
use Rattle.image_records.proofs.NodeLaws.{node-constant, node-more, node-past, node-plain, node-unmarked}
use Rattle.image_records.specs.Nodes.{constant_number, digits}
use Rattle.language.specs.Encode.{node_size}

-- ---- Only mark 1 is a constant.

abbrev is_constant : Node → Bool
is_constant (D.constant v) = true
is_constant (D.more n) = false
is_constant (D.whole f) = false
is_constant (D.one f e) = false
is_constant (D.part f b) = false
is_constant (D.two f e g) = false
is_constant (D.word_part f e b) = false
is_constant (D.binary k a b) = false
is_constant (D.prefix k a) = false
is_constant (D.cut k a c) = false
is_constant (D.first_arm e) = false
is_constant (D.next_arm a e) = false
is_constant (D.choice e a n) = false
is_constant D.Node.broken = false

neither : (b : Bool) (x y : Node) → is_constant x ≡ false → is_constant y ≡ false → is_constant (pick b x y) ≡ false
neither true x y p q = p
neither false x y p q = q

plain-not : (m x a b c : ℕ) → is_constant (plain_node m x a b c) ≡ false
unfolding plain_node operator_of
plain-not m x a b c =
    neither (eqb m 3) _ _ refl (neither (eqb m 4) _ _ refl (neither (eqb m 5) _ _ refl (neither (eqb m 6) _ _ refl
    (neither (eqb m 7) _ _ refl (neither (eqb m 8) _ _ refl (neither (eqb m 9) _ _ refl (neither (eqb m 10) _ _ refl
    (neither (eqb (m / 64) 1) _ _ refl (neither (eqb (m / 64) 2) _ _ refl (neither (eqb (m / 64) 3) _ _ refl refl))))))))))

-- What is known where record n is the constant v.
pub record Ends (s : List ℕ) (n : ℕ) (v : Value) : Type 0 where
  pub whole : n < length s / node_size
  pub marked : digits_marked (get_or s (node_size * n + 1) 0 / 48) n s ≡ true
  pub is : v ≡ value (get_or s (node_size * n + 1) 0 + 1) (constant_number n s)

module _ (s : List ℕ) (n : ℕ) (v : Value) (e : node_of s n ≡ D.constant v) where
  other : {x : Node} → node_of s n ≡ x → is_constant x ≡ false → Ends s n v
  other p q = absurd (true≢false (ap is_constant (sym e ∙ p) ∙ q))

  same-value : {w : Value} → node_of s n ≡ D.constant w → v ≡ w
  same-value p = let q : D.constant v ≡ D.constant _ = sym e ∙ p in cc

  pub constant-ends : Ends s n v
  constant-ends = by_length (ltb n (length s / node_size)) refl
    where
      by_digits : n < length s / node_size → get_or s (node_size * n) 0 ≡ 1 → (b : Bool) → digits_marked (get_or s (node_size * n + 1) 0 / 48) n s ≡ b → Ends s n v
      by_digits h m true d = record { whole = h; marked = d; is = same-value (node-constant s n h m d) }
      by_digits h m false d = other (node-unmarked s n h m d) refl

      by_two : n < length s / node_size → (get_or s (node_size * n) 0 ≡ 1 → ⊥) → (b : Bool) → eqb (get_or s (node_size * n) 0) 2 ≡ b → Ends s n v
      by_two h m true t = other (node-more s n h (eqb-true _ _ t)) refl
      by_two h m false t = other (node-plain s n h m (eqb-false _ _ t)) (plain-not _ _ _ _ _)

      by_one : n < length s / node_size → (b : Bool) → eqb (get_or s (node_size * n) 0) 1 ≡ b → Ends s n v
      by_one h true t = by_digits h (eqb-true _ _ t) (digits_marked (get_or s (node_size * n + 1) 0 / 48) n s) refl
      by_one h false t = by_two h (eqb-false _ _ t) (eqb (get_or s (node_size * n) 0) 2) refl

      by_length : (b : Bool) → ltb n (length s / node_size) ≡ b → Ends s n v
      by_length true t = by_one (ltb-true _ _ t) (eqb (get_or s (node_size * n) 0) 1) refl
      by_length false t = other (node-past s n (ltb-false _ _ t)) refl

pub marked-within : (k n : ℕ) (s : List ℕ) → digits_marked k n s ≡ true → k ≤ n
unfolding digits_marked
marked-within zero n s e = omega arith
marked-within (suc k) zero s e = absurd (true≢false (sym e))
marked-within (suc k) (suc n) s e = by-test (eqb (get_or s (node_size * n) 0) 2) (marked-within k n s) e
  where
    by-test : (b : Bool) → (digits_marked k n s ≡ true → k ≤ n) → cond b (digits_marked k n s) false ≡ true → suc k ≤ suc n
    by-test true f g = let h : k ≤ n = f g in omega arith
    by-test false f g = absurd (true≢false (sym g))

-- ---- A number fits where its highest digit does.

one_more : (x b : ℕ) → (x + 1) * b ≡ x * b + b
one_more x b = add-mul x 1 b ∙ ap (λ (z : ℕ). x * b + z) (one-mul b)

-- A digit behind a number matters not, where the bound is whole digits up.
behind : (x d p b : ℕ) → d < b → ltb (x * b + d) (p * b) ≡ ltb x p
behind x d p b h = by-test (ltb x p) refl
  where
    by-test : (t : Bool) → ltb x p ≡ t → ltb (x * b + d) (p * b) ≡ ltb x p
    by-test true t =
        let g : x < p = ltb-true x p t in
        let m : (x + 1) * b ≤ p * b = mul-le-mul_right b (omega arith) in
        let e : (x + 1) * b ≡ x * b + b = one_more x b in
        lt-ltb (x * b + d) (p * b) (omega arith) ∙ sym t
    by-test false t =
        let g : p ≤ x = ltb-false x p t in
        let m : p * b ≤ x * b = mul-le-mul_right b g in
        le-ltb (x * b + d) (p * b) (omega arith) ∙ sym t

pub six-below : (s : List ℕ) → ((i : ℕ) → get_or s i 0 < 256) → (at : ℕ) → number_at 6 at s < 2 ^ 48
unfolding number_at
six-below s f at =
    omega (arith, f at, f (suc at), f (suc (suc at)), f (suc (suc (suc at))), f (suc (suc (suc (suc at)))), f (suc (suc (suc (suc (suc at))))))

pub digits-fit : (s : List ℕ) → ((i : ℕ) → get_or s i 0 < 256) → (k n e : ℕ) → k ≤ n
    → ltb (digits (suc k) (suc n) s) (2 ^ (48 * k + e)) ≡ ltb (number_at 6 (node_size * (n - k) + 2) s) (2 ^ e)
unfolding digits digit_length
digits-fit s f zero n e h =
    let a : 48 * 0 + e ≡ e = omega arith in
    let b : n - 0 ≡ n = omega arith in
    let c : 0 * 2 ^ 48 + number_at 6 (node_size * n + 2) s ≡ number_at 6 (node_size * n + 2) s = omega arith in
    rw (a, b, c)
digits-fit s f (suc k) zero e h = absurd (omega arith)
digits-fit s f (suc k) (suc n) e h =
    let a : 48 * suc k + e ≡ 48 * k + e + 48 = omega arith in
    let b : suc n - suc k ≡ n - k = omega arith in
    rw (a, b, pow-add 2 (48 * k + e) 48)
    (behind (digits (suc k) (suc n) s) (number_at 6 (node_size * suc n + 2) s) (2 ^ (48 * k + e)) (2 ^ 48) (six-below s f (node_size * suc n + 2))
    ∙ digits-fit s f k n e (omega arith))

pub constant-fit : (s : List ℕ) (n : ℕ) (v : Value) → ((i : ℕ) → get_or s i 0 < 256) → Ends s n v
    → ltb (number_at 6 (node_size * (n - get_or s (node_size * n + 1) 0 / 48) + 2) s) (2 ^ (get_or s (node_size * n + 1) 0 % 48 + 1)) ≡ ltb v.number (2 ^ v.length)
constant-fit s n v f r =
    let x = get_or s (node_size * n + 1) 0 in
    let l : x + 1 ≡ 48 * (x / 48) + (x % 48 + 1) = omega arith in
    rw (r.is, constant-digits n s, further-of x, l) (sym (digits-fit s f (x / 48) n (x % 48 + 1) (marked-within (x / 48) n s r.marked)))
