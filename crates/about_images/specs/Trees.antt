-- Every record of a tree that is judged fine is sane, and a tree has few records for what it counts and is no deeper than that allows.
use Rattle.std.specs.Prelude.{Bool, true, false, cond, ◌||◌, ◌≡◌, refl, ℕ, zero, suc, max, ◌+◌, ◌*◌, ◌/◌, ◌%◌, ◌^◌, ◌≤◌, ◌<◌, eqb, leb, ltb}
use Rattle.std.proofs.Common.{true≢false, sym, subst, ◌∙◌, mod-lt, suc-mul, arith, eqb-true, leb-false, leb-true, ltb-false, ltb-true, ne_eqb, pow_mono}
use Rattle.std.proofs.lemmas.Bool.{eqb-false}
use Rattle.language.specs.Canonical.{node_count}
use Rattle.language.specs.Description as D
use Rattle.language.specs.Description.{Bounds, Description, Node, digit_length, further_digits, in_bounds, node_at}
use Rattle.language.specs.Expressions.{longest_selector, selects}
use Rattle.language.specs.Operators.{binary_length, cut_length_of, prefix_length}
use Rattle.language.specs.Order.{digits_stand, is_digit48}
use Rattle.language.specs.Value.{cut_length, repeat_length}
use Rattle.about_images.specs.Back.{is_digit}
use Rattle.about_images.specs.Whole.{both_left, both_right}
use Rattle.image_records.proofs.NodeBack.{Half}
use Rattle.about_images.specs.Counted.{count, count_add, count-more, count-one}
use Rattle.about_images.specs.Depth.{depth-leaf, depth_at}
use Rattle.language.specs.Encode.{node_size}
use Rattle.language.specs.Kinds.{at_least_sign, at_most_sign, con_word, difference_sign, exclusive_sign, ext_word, greater_sign, hash, head_word, less_sign, minus, plus, same_sign, star, sum_sign, tail_word}

-- ---- Sane records: what they name stands before them.

abbrev pub Sane : Description → ℕ → Node → Type 0
Sane d n (D.constant v) = (1 ≤ v.length) × (v.length ≤ 256) × (v.number < 2 ^ v.length)
    × (digits_stand d (further_digits v.length) n (v.number / 2 ^ 48) ≡ true)
Sane d n (D.more m) = m < 2 ^ 48
Sane d n (D.whole f) = f < 256
Sane d n (D.one f e) = (f < 256) × (e < n)
Sane d n (D.part f b) = (f < 256) × Half b.first × Half b.last
Sane d n (D.two f e g) = (f < 256) × (e < n) × (g < n)
Sane d n (D.word_part f e b) = (f < 256) × (e < n) × Half b.first × Half b.last
Sane d n (D.binary k a b) = (k < 64) × (a < n) × (b < n)
Sane d n (D.prefix k a) = (k < 64) × (a < n)
Sane d n (D.cut k a c) = (k < 64) × (a < n) × Half c
Sane d n (D.first_arm e) = e < n
Sane d n (D.next_arm a e) = (a < n) × (e < n)
Sane d n (D.choice e a m) = (e < n) × (a < n) × Half m
Sane d n D.Node.broken = Unit {0}

-- ---- A tree: its records are sane and no deeper than its root; there are few for what it counts and the root is not deep, less so for an expression proper.

abbrev pub counts : Description → ℕ → ℕ
counts d n = node_count (node_at d n)

pub record Tree (d : Description) (n s arms : ℕ) : Type 0 where
  pub many : ℕ
  pub ends : s + many ≡ suc n
  pub sane : (m : ℕ) → s ≤ m → m ≤ n → Sane d m (node_at d m)
  pub few : many + 1 ≤ node_size * count (counts d) s many
  pub fewer : arms ≡ 0 → many + 2 ≤ node_size * count (counts d) s many
  pub under : (m : ℕ) → s ≤ m → m ≤ n → depth_at d m ≤ depth_at d n
  pub deep : depth_at d n ≤ 2 * count (counts d) s many
  pub deeper : arms ≡ 0 → depth_at d n + 1 ≤ 2 * count (counts d) s many

-- What holds of the records up to the one before n, and of n.
with-own : (P : ℕ → Type 0) (n : ℕ) → P n → (s a : ℕ) → a + 1 ≡ n → ((m : ℕ) → s ≤ m → m ≤ a → P m) → (m : ℕ) → s ≤ m → m ≤ n → P m
with-own P n own s a h f m l r = by-test (eqb m n) refl
  where
    by-test : (b : Bool) → eqb m n ≡ b → P m
    by-test true e = subst P (sym (eqb-true m n e)) own
    by-test false e = f m l (omega (arith, eqb-false m n e))

-- What holds of two trees one after the other, and of n.
with-both : (P : ℕ → Type 0) (n : ℕ) → P n → (s a m b : ℕ) → a + 1 ≡ m → b + 1 ≡ n → ((k : ℕ) → s ≤ k → k ≤ a → P k) → ((k : ℕ) → m ≤ k → k ≤ b → P k)
    → (k : ℕ) → s ≤ k → k ≤ n → P k
with-both P n own s a m b next last f g = with-own P n own s b last (λ k l r. by-test k l r (leb k a) refl)
  where
    by-test : (k : ℕ) → s ≤ k → k ≤ b → (y : Bool) → leb k a ≡ y → P k
    by-test k l r true z = f k l (leb-true k a z)
    by-test k l r false z = g k (omega (arith, leb-false k a z)) r

module _ (d : Description) (n : ℕ) (own : Sane d n (node_at d n)) where
  abbrev SaneAt : ℕ → Type 0
  SaneAt m = Sane d m (node_at d m)

  abbrev Under : ℕ → Type 0
  Under m = depth_at d m ≤ depth_at d n

  pub leaf : depth_at d n ≡ 1 → node_count (node_at d n) ≡ 1 → (arms : ℕ) → Tree d n n arms
  leaf q c arms = record {
    many = 1;
    ends = omega arith;
    sane = λ m l r. let e : n ≡ m = omega arith in subst SaneAt e own;
    few = omega (arith, count-one (counts d) n);
    fewer = λ z. omega (arith, count-one (counts d) n);
    under = λ m l r. let e : m ≡ n = omega arith in rw e (omega arith);
    deep = omega (arith, count-one (counts d) n);
    deeper = λ z. omega (arith, count-one (counts d) n);
  }

  module _ (a s : ℕ) (last : a + 1 ≡ n) (q : depth_at d n ≡ suc (depth_at d a)) (arms : ℕ) (t : Tree d a s arms) where
    total-one : count (counts d) s (t.many + 1) ≡ count (counts d) s t.many + node_count (node_at d n)
    total-one = count-more (counts d) s t.many n (omega (arith, t.ends))

    under_one : (m : ℕ) → s ≤ m → m ≤ n → Under m
    under_one = with-own Under n (omega arith) s a last (λ m l r. omega (arith, t.under m l r))

    -- An operator with one operand.
    pub over-one : node_count (node_at d n) ≡ 1 → (arms' : ℕ) → Tree d n s arms'
    over-one c arms' = record {
      many = t.many + 1;
      ends = omega (arith, t.ends);
      sane = with-own SaneAt n own s a last t.sane;
      few = omega (arith, total-one, t.few);
      fewer = λ z. omega (arith, total-one, t.few);
      under = under_one;
      deep = omega (arith, total-one, t.deep);
      deeper = λ z. omega (arith, total-one, t.deep);
    }

    -- The first arm of a list.
    pub over-arm : arms ≡ 0 → (k : ℕ) → Tree d n s (suc k)
    over-arm z k = record {
      many = t.many + 1;
      ends = omega (arith, t.ends);
      sane = with-own SaneAt n own s a last t.sane;
      few = omega (arith, total-one, t.fewer z);
      fewer = λ y. absurd (omega arith);
      under = under_one;
      deep = omega (arith, total-one, t.deeper z);
      deeper = λ y. absurd (omega arith);
    }

  module _ (a b s m : ℕ) (next : a + 1 ≡ m) (last : b + 1 ≡ n) (w : depth_at d n ≡ suc (max (depth_at d a) (depth_at d b))) (p q : ℕ) (t : Tree d a s p) (u : Tree d b m q) where
    pair-sane : (k : ℕ) → s ≤ k → k ≤ n → SaneAt k
    pair-sane = with-both SaneAt n own s a m b next last t.sane u.sane

    pair_under : (k : ℕ) → s ≤ k → k ≤ n → Under k
    pair_under = with-both Under n (omega arith) s a m b next last (λ k l r. omega (arith, t.under k l r)) (λ k l r. omega (arith, u.under k l r))

    total-two : count (counts d) s (t.many + u.many + 1) ≡ count (counts d) s t.many + count (counts d) m u.many + node_count (node_at d n)
    total-two =
        let e : s + t.many ≡ m = omega (arith, t.ends) in
        let f : s + (t.many + u.many) ≡ n = omega (arith, t.ends, u.ends) in
        count-more (counts d) s (t.many + u.many) n f ∙ rw (count_add (counts d) s t.many u.many, e)

    pub over-two : node_count (node_at d n) ≡ 1 → (arms : ℕ) → Tree d n s arms
    over-two c arms = record {
      many = t.many + u.many + 1;
      ends = omega (arith, t.ends, u.ends);
      sane = pair-sane;
      few = omega (arith, total-two, t.few, u.few);
      fewer = λ z. omega (arith, total-two, t.few, u.few);
      under = pair_under;
      deep = omega (arith, total-two, t.deep, u.deep);
      deeper = λ z. omega (arith, total-two, t.deep, u.deep);
    }

    -- A further arm.
    pub over-next : q ≡ 0 → (k : ℕ) → Tree d n s (suc k)
    over-next z k = record {
      many = t.many + u.many + 1;
      ends = omega (arith, t.ends, u.ends);
      sane = pair-sane;
      few = omega (arith, total-two, t.few, u.fewer z);
      fewer = λ y. absurd (omega arith);
      under = pair_under;
      deep = omega (arith, total-two, t.deep, u.deeper z);
      deeper = λ y. absurd (omega arith);
    }

-- ---- Kinds and counts of operators.

below-so : (k m : ℕ) → (m ≤ k → ⊥) → k < m
below-so k m h = by-test (ltb k m) refl
  where
    by-test : (b : Bool) → ltb k m ≡ b → k < m
    by-test true e = ltb-true k m e
    by-test false e = absurd (h (ltb-false k m e))

pub binary-kind : (k m n : ℕ) → 1 ≤ binary_length k m n → k < 64
unfolding binary_length
binary-kind k m n h = below-so k 64 (λ g.
    let z : 1 ≤ 0 = rw (
      ne_eqb k sum_sign (λ e. omega arith),
      ne_eqb k difference_sign (λ e. omega arith),
      ne_eqb k con_word (λ e. omega arith),
      ne_eqb k plus (λ e. omega arith),
      ne_eqb k star (λ e. omega arith),
      ne_eqb k exclusive_sign (λ e. omega arith),
      ne_eqb k same_sign (λ e. omega arith),
      ne_eqb k hash (λ e. omega arith),
      ne_eqb k less_sign (λ e. omega arith),
      ne_eqb k greater_sign (λ e. omega arith),
      ne_eqb k at_most_sign (λ e. omega arith),
      ne_eqb k at_least_sign (λ e. omega arith),
    ) at h in
    omega arith)

pub prefix-kind : (k m : ℕ) → 1 ≤ prefix_length k m → k < 64
unfolding prefix_length
prefix-kind k m h = below-so k 64 (λ g.
    let z : 1 ≤ 0 = rw (
      ne_eqb k minus (λ e. omega arith),
      ne_eqb k difference_sign (λ e. omega arith),
      ne_eqb k sum_sign (λ e. omega arith),
      ne_eqb k plus (λ e. omega arith),
      ne_eqb k star (λ e. omega arith),
      ne_eqb k exclusive_sign (λ e. omega arith),
    ) at h in
    omega arith)

pub cut-kind : (k m c : ℕ) → 1 ≤ cut_length_of k m c → k < 64
unfolding cut_length_of
cut-kind k m c h = below-so k 64 (λ g.
    let z : 1 ≤ 0 = rw (ne_eqb k head_word (λ e. omega arith), ne_eqb k tail_word (λ e. omega arith), ne_eqb k ext_word (λ e. omega arith)) at h in
    omega arith)

repeat-count : (m c : ℕ) → 1 ≤ m * c → c ≤ m * c
repeat-count zero c h = absurd (omega arith)
repeat-count (suc m) c h = omega (arith, suc-mul m c)

-- A result of up to 256 bits has a count of up to 256.
pub cut-count : (k m c : ℕ) → 1 ≤ cut_length_of k m c → cut_length_of k m c ≤ 256 → c ≤ 256
unfolding cut_length_of cut_length repeat_length
cut-count k m c h g = by_kind (eqb k head_word || eqb k tail_word) (eqb k ext_word) h g
  where
    by-fit : (b : Bool) → 1 ≤ cond b c 0 → cond b c 0 ≤ 256 → c ≤ 256
    by-fit true p q = q
    by-fit false p q = absurd (omega arith)

    by_kind : (a b : Bool) → 1 ≤ cond a (cond (leb c m) c 0) (cond b (m * c) 0) → cond a (cond (leb c m) c 0) (cond b (m * c) 0) ≤ 256 → c ≤ 256
    by_kind true b p q = by-fit (leb c m) p q
    by_kind false true p q = omega (arith, repeat-count m c p)
    by_kind false false p q = absurd (omega arith)

-- A condition selects among 64 arms at most.
pub selects-few : (l m : ℕ) → selects l m ≡ true → m ≤ 64
unfolding selects longest_selector
selects-few l m e =
    let h : l ≤ 6 = leb-true l 6 (both_left (leb l 6) (eqb m (2 ^ l)) e) in
    let g : m ≡ 2 ^ l = eqb-true m (2 ^ l) (both_right (leb l 6) (eqb m (2 ^ l)) e) in
    let k : 2 ^ l ≤ 2 ^ 6 = pow_mono h in
    omega arith

-- A number within bounds is no larger than they are.
pub within-bounds : (b : Bounds) (x : ℕ) → Half b.first → Half b.last → in_bounds b x ≡ true → Half x
unfolding in_bounds
within-bounds b x p q e = by-test (leb b.first b.last) e
  where
    upper : (a c : Bool) → cond a c false ≡ true → c ≡ true
    upper true c k = k
    upper false c k = absurd (true≢false (sym k))

    by-test : (t : Bool) → cond t (cond (leb b.first x) (leb x b.last) false) (cond (leb b.last x) (leb x b.first) false) ≡ true → Half x
    by-test true k = omega (arith, leb-true x b.last (upper (leb b.first x) _ k))
    by-test false k = omega (arith, leb-true x b.first (upper (leb b.last x) _ k))

-- ---- Digits.

-- A record before a constant, which is one of its digits.
abbrev pub Digit : Description → ℕ → Type 0
Digit d m = Sane d m (node_at d m) × (depth_at d m ≡ 1)

pub digits-sane : (d : Description) (k n x : ℕ) → digits_stand d k n x ≡ true → (k ≤ n) × ((m : ℕ) → n ≤ m + k → m < n → Digit d m)
unfolding digits_stand digit_length
digits-sane d zero n x e = (omega arith, λ m l r. absurd (omega arith))
digits-sane d (suc k) zero x e = absurd (true≢false (sym e))
digits-sane d (suc k) (suc n) x e =
    let y = x % 2 ^ 48 in
    let here : node_at d n ≡ D.more y = is_digit d (node_at d n) y (both_left (is_digit48 d (node_at d n) y) (digits_stand d k n (x / 2 ^ 48)) e) in
    let rest = digits-sane d k n (x / 2 ^ 48) (both_right (is_digit48 d (node_at d n) y) (digits_stand d k n (x / 2 ^ 48)) e) in
    (omega (arith, rest.0), λ m l r. by-test here rest.1 m l r (eqb m n) refl)
  where
    by-test : node_at d n ≡ D.more (x % 2 ^ 48) → ((m : ℕ) → n ≤ m + k → m < n → Digit d m) → (m : ℕ) → suc n ≤ m + suc k → m < suc n → (b : Bool) → eqb m n ≡ b → Digit d m
    by-test here f m l r true t = rw (eqb-true m n t) (rw here (mod-lt x (omega arith)), depth-leaf d n _ here (λ f. refl))
    by-test here f m l r false t = f m (omega arith) (omega (arith, eqb-false m n t))
