-- A node that was written is read back.
use mathlib.Core.Bool.{true}
use mathlib.Core.List.{List}
use mathlib.Core.Path.{◌≡◌, ◌∙◌}
use Prim.Native.Nat.{ℕ, suc, ◌+◌, ◌-◌, ◌*◌, ◌/◌, ◌%◌, ◌^◌, ◌<◌, ◌≤◌}
use native.Mathlib.Nat.{mod-eq_of_lt, mod-lt}
use native.Mathlib.Omega.{arith}
use borrow.Author.Tests.{ne_eqb}
use lib.ListN.{length, get_or}
use Rattle.language.specs.Decode.{constant_at, digits_before, digits_marked, node_of, number_at, operator_of, plain_node}
use Rattle.language.specs.Description as D
use Rattle.language.specs.Description.{Node, digit_length, further_digits}
use Rattle.language.specs.Encode.{digit_record, little, node_bytes, node_record, node_size}
use Rattle.language.specs.Value.{Value}
use Rattle.image_records.proofs.ByteLaws.{placed-in, placed-length}
use Rattle.image_records.proofs.NodeLaws.{node-whole}
use Rattle.image_records.proofs.NumberLaws.{number-back, number-two}
use Rattle.image_records.proofs.WrittenNodes.{node-length}
use Rattle.image_records.specs.Placed.{placed}

-- ---- Fields that fit.

abbrev pub Half : ℕ → Type 0
Half a = a < 65536

-- A node whose fields fit its record; a constant's further digits are to stand before it.
abbrev pub Fits : List ℕ → ℕ → Node → Type 0
Fits s n (D.constant v) = (1 ≤ v.length) × (v.length ≤ 256) × (digits_marked (further_digits v.length) n s ≡ true)
    × (v.number % 2 ^ 48 + digits_before (further_digits v.length) n s ≡ v.number)
Fits s n (D.more d) = d < 2 ^ 48
Fits s n (D.whole f) = f < 256
Fits s n (D.one f e) = (f < 256) × Half e
Fits s n (D.part f b) = (f < 256) × Half b.first × Half b.last
Fits s n (D.two f e g) = (f < 256) × Half e × Half g
Fits s n (D.word_part f e b) = (f < 256) × Half e × Half b.first × Half b.last
Fits s n (D.binary k a b) = (k < 64) × Half a × Half b
Fits s n (D.prefix k a) = (k < 64) × Half a
Fits s n (D.cut k a c) = (k < 64) × Half a × Half c
Fits s n (D.first_arm e) = Half e
Fits s n (D.next_arm a e) = Half a × Half e
Fits s n (D.choice e a m) = Half e × Half a × Half m
Fits s n D.Node.broken = Unit {0}

-- ---- Fields back from bytes.

pub half_back : (t : List ℕ) (at a : ℕ) → Half a → get_or t at 0 ≡ a % 256 → get_or t (at + 1) 0 ≡ a / 256 % 256 → number_at 2 at t ≡ a
half_back t at a h p q = number-two at t ∙ rw (p, q) (omega arith)

operator-plain : (m x a b c : ℕ) → 10 < m → plain_node m x a b c ≡ operator_of m a b
unfolding plain_node
operator-plain m x a b c h =
    rw (
      ne_eqb m 3 (λ e. omega arith),
      ne_eqb m 4 (λ e. omega arith),
      ne_eqb m 5 (λ e. omega arith),
      ne_eqb m 6 (λ e. omega arith),
      ne_eqb m 7 (λ e. omega arith),
      ne_eqb m 8 (λ e. omega arith),
      ne_eqb m 9 (λ e. omega arith),
      ne_eqb m 10 (λ e. omega arith),
    )

operator-binary : (k a b : ℕ) → k < 64 → operator_of (64 + k) a b ≡ D.binary k a b
unfolding operator_of
operator-binary k a b h = let p : (64 + k) / 64 ≡ 1 = omega arith in let q : (64 + k) % 64 ≡ k = omega arith in rw (p, q)

operator-prefix : (k a b : ℕ) → k < 64 → operator_of (128 + k) a b ≡ D.prefix k a
unfolding operator_of
operator-prefix k a b h = let p : (128 + k) / 64 ≡ 2 = omega arith in let q : (128 + k) % 64 ≡ k = omega arith in rw (p, q)

operator-cut : (k a b : ℕ) → k < 64 → operator_of (192 + k) a b ≡ D.cut k a b
unfolding operator_of
operator-cut k a b h = let p : (192 + k) / 64 ≡ 3 = omega arith in let q : (192 + k) % 64 ≡ k = omega arith in rw (p, q)

module _ (t : List ℕ) (n : ℕ) (h : n < length t / node_size) where
  -- These eight bytes stand at record n.
  abbrev Stand : List ℕ → Type 0
  Stand bs = (i : ℕ) → i < node_size → get_or t (node_size * n + i) 0 ≡ get_or bs i 0

  first_back : (bs : List ℕ) → Stand bs → get_or t (node_size * n) 0 ≡ get_or bs 0 0
  first_back bs f = let e : node_size * n + 0 ≡ node_size * n = omega arith in rw e at (f 0 (omega arith))

  six-back : (mark x d : ℕ) → d < 2 ^ 48 → Stand (digit_record mark x d) → number_at 6 (node_size * n + 2) t ≡ d
  six-back mark x d g f =
      number-back 6 (node_size * n + 2) d t g (λ i l. let e : node_size * n + 2 + i ≡ node_size * n + suc (suc i) = omega arith in rw e (f (suc (suc i)) (omega arith)))

  plain_back : (mark x a b c : ℕ) → 2 < mark → mark < 256 → x < 256 → Half a → Half b → Half c → Stand (node_record mark x a b c)
      → node_of t n ≡ plain_node mark x a b c
  unfolding little
  plain_back mark x a b c p q r ha hb hc f =
      let m : get_or t (node_size * n) 0 ≡ mark = first_back (node_record mark x a b c) f ∙ mod-eq_of_lt q in
      let y : get_or t (node_size * n + 1) 0 ≡ x = f 1 (omega arith) ∙ mod-eq_of_lt r in
      let e3 : node_size * n + 2 + 1 ≡ node_size * n + 3 = omega arith in
      let e5 : node_size * n + 4 + 1 ≡ node_size * n + 5 = omega arith in
      let e7 : node_size * n + 6 + 1 ≡ node_size * n + 7 = omega arith in
      let u : number_at 2 (node_size * n + 2) t ≡ a = half_back t (node_size * n + 2) a ha (f 2 (omega arith)) (rw e3 (f 3 (omega arith))) in
      let v : number_at 2 (node_size * n + 4) t ≡ b = half_back t (node_size * n + 4) b hb (f 4 (omega arith)) (rw e5 (f 5 (omega arith))) in
      let w : number_at 2 (node_size * n + 6) t ≡ c = half_back t (node_size * n + 6) c hc (f 6 (omega arith)) (rw e7 (f 7 (omega arith))) in
      node-whole t n h ∙ rw (m, y, u, v, w, ne_eqb mark 1 (λ e. omega arith), ne_eqb mark 2 (λ e. omega arith))

  constant-back : (v : Value) → Fits t n (D.constant v) → Stand (node_bytes (D.constant v)) → node_of t n ≡ D.constant v
  unfolding node_bytes constant_at digit_length
  constant-back v g f =
      let l : v.length - 1 < 256 = omega (arith, g.0, g.1) in
      let m : get_or t (node_size * n) 0 ≡ 1 = first_back (node_bytes (D.constant v)) f in
      let y : get_or t (node_size * n + 1) 0 ≡ v.length - 1 = f 1 (omega arith) ∙ mod-eq_of_lt l in
      let e : v.length - 1 + 1 ≡ v.length = omega (arith, g.0) in
      let d : number_at 6 (node_size * n + 2) t ≡ v.number % 2 ^ 48 = six-back 1 (v.length - 1) (v.number % 2 ^ 48) (mod-lt v.number (omega arith)) f in
      node-whole t n h ∙ rw (m, y, e, d, g.2, g.3)

  more-back : (d : ℕ) → d < 2 ^ 48 → Stand (node_bytes (D.more d)) → node_of t n ≡ D.more d
  unfolding node_bytes
  more-back d g f =
      let m : get_or t (node_size * n) 0 ≡ 2 = first_back (node_bytes (D.more d)) f in
      node-whole t n h ∙ rw (m, six-back 2 0 d g f)

  broken-back : Stand (node_bytes D.Node.broken) → node_of t n ≡ D.Node.broken
  unfolding node_bytes plain_node operator_of
  broken-back f =
      let m : get_or t (node_size * n) 0 ≡ 0 = first_back (node_bytes D.Node.broken) f in
      node-whole t n h ∙ rw m

  -- What stands at record n with the bytes of x is x.
  pub node-back : (x : Node) → Fits t n x → Stand (node_bytes x) → node_of t n ≡ x
  unfolding node_bytes plain_node
  node-back (D.constant v) g f = constant-back v g f
  node-back (D.more d) g f = more-back d g f
  node-back (D.whole a) g f = plain_back 3 a 0 0 0 (omega arith) (omega arith) g (omega arith) (omega arith) (omega arith) f
  node-back (D.one a e) g f = plain_back 4 a e 0 0 (omega arith) (omega arith) g.0 g.1 (omega arith) (omega arith) f
  node-back (D.part a b) g f = plain_back 5 a b.first b.last 0 (omega arith) (omega arith) g.0 g.1 g.2 (omega arith) f
  node-back (D.two a e c) g f = plain_back 6 a e c 0 (omega arith) (omega arith) g.0 g.1 g.2 (omega arith) f
  node-back (D.word_part a e b) g f = plain_back 7 a e b.first b.last (omega arith) (omega arith) g.0 g.1 g.2 g.3 f
  node-back (D.binary k a b) g f =
      plain_back (64 + k) 0 a b 0 (omega arith) (omega (arith, g.0)) (omega arith) g.1 g.2 (omega arith) f
      ∙ operator-plain (64 + k) 0 a b 0 (omega arith) ∙ operator-binary k a b g.0
  node-back (D.prefix k a) g f =
      plain_back (128 + k) 0 a 0 0 (omega arith) (omega (arith, g.0)) (omega arith) g.1 (omega arith) (omega arith) f
      ∙ operator-plain (128 + k) 0 a 0 0 (omega arith) ∙ operator-prefix k a 0 g.0
  node-back (D.cut k a c) g f =
      plain_back (192 + k) 0 a c 0 (omega arith) (omega (arith, g.0)) (omega arith) g.1 g.2 (omega arith) f
      ∙ operator-plain (192 + k) 0 a c 0 (omega arith) ∙ operator-cut k a c g.0
  node-back (D.first_arm e) g f = plain_back 8 0 e 0 0 (omega arith) (omega arith) (omega arith) g (omega arith) (omega arith) f
  node-back (D.next_arm a e) g f = plain_back 9 0 a e 0 (omega arith) (omega arith) (omega arith) g.0 g.1 (omega arith) f
  node-back (D.choice e a m) g f = plain_back 10 0 e a m (omega arith) (omega arith) (omega arith) g.0 g.1 g.2 f
  node-back D.Node.broken g f = broken-back f

-- ---- A record that was written.

module _ (s : List ℕ) (n : ℕ) (x : Node) where
  abbrev pub written : List ℕ
  written = placed s (node_size * n) (node_bytes x)

  pub node-written : n < length s / node_size → Fits written n x → node_of written n ≡ x
  node-written h g =
      let l = node-length x in
      let p : length written ≡ length s = placed-length s (node_bytes x) (node_size * n) in
      let q : n < length written / node_size = rw p h in
      let r : node_size * n + length (node_bytes x) ≤ length s = omega arith in
      node-back written n q x g (λ i j. placed-in s (node_bytes x) (node_size * n) r i (omega arith))
