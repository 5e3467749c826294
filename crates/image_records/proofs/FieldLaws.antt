-- Records compared field by field: the bytes of a record are those of its fields, and two records are the same where each field is.
use mathlib.Core.Bool.{Bool, true, false, ◌&&◌}
use mathlib.Core.List.{List, ◌∷◌, ◌++◌}
use mathlib.Core.Path.{◌≡◌, refl, sym, ap, ◌∙◌}
use Prim.Native.Nat.{ℕ, zero, suc, ◌+◌, ◌-◌, ◌*◌, ◌/◌, ◌%◌, ◌^◌, ◌<◌, ◌≤◌}
use native.Mathlib.Nat.{mod-eq_of_lt, pow-succ', pow-zero}
use native.Mathlib.Numerals.{add-one}
use native.Mathlib.Omega.{arith}
use borrow.Author.Rules.{rules}
use borrow.Author.Tests.{eq-eqb, ne_eqb, eqb-true, eqb-false}
use lib.Dec.{eqb}
use lib.ListN.{length, get_or, take, drop}
use lib.Seq.{drop-cons, drop-drop, take-add}
use Rattle.language.specs.Decode.{digits_marked, node_of, number_at}
use Rattle.language.specs.Description.{digit_length}
use Rattle.language.specs.Encode.{action_record, action_size, digit_record, little, node_bytes, node_record, node_size}
use Rattle.language.specs.Scan.{same}
use Rattle.language.specs.Tests.{both}
use Rattle.image_records.proofs.ByteLaws.{same_refl}
use Rattle.image_records.proofs.NodeBack.{Half}
use Rattle.image_records.proofs.NodeLaws.{node-constant, node-more, node-unmarked}
use Rattle.image_records.proofs.WrittenNodes.{constant-low}
use Rattle.image_records.specs.Nodes.{constant_number}

-- ---- The bytes of a record.

module _ (s : List ℕ) (bytes : (i : ℕ) → get_or s i 0 < 256) where
  number_small : (k at : ℕ) → number_at k at s < 256 ^ k
  unfolding number_at
  number_small zero at = omega (arith, pow-zero 256)
  number_small (suc k) at =
      let b = bytes at in
      let r = number_small k (suc at) in
      omega (arith, pow-succ' 256 k)

  pub number-bytes : (k at : ℕ) → at + k ≤ length s → take k (drop at s) ≡ little k (number_at k at s)
  unfolding little number_at
  number-bytes zero at h = refl
  number-bytes (suc k) at h =
      let b = bytes at in
      let p : (get_or s at 0 + number_at k (suc at) s * 256) % 256 ≡ get_or s at 0 = omega arith in
      let q : (get_or s at 0 + number_at k (suc at) s * 256) / 256 ≡ number_at k (suc at) s = omega arith in
      rw (drop-cons s at 0 (omega arith), p, q, number-bytes k (suc at) (omega arith))

  pub next-byte : (at k : ℕ) → at < length s → take (suc k) (drop at s) ≡ get_or s at 0 ∷ take k (drop (at + 1) s)
  next-byte at k h = rw (drop-cons s at 0 h, ← add-one at)

  pub two-halves : (at : ℕ) → at + 4 ≤ length s → take 4 (drop at s) ≡ little 2 (number_at 2 at s) ++ little 2 (number_at 2 (at + 2) s)
  two-halves at h = rw (take-add 2 2 (drop at s), drop-drop 2 at s, number-bytes 2 at (omega arith), number-bytes 2 (at + 2) (omega arith))

  three_halves : (at : ℕ) → at + 6 ≤ length s
      → take 6 (drop at s) ≡ little 2 (number_at 2 at s) ++ (little 2 (number_at 2 (at + 2) s) ++ little 2 (number_at 2 (at + 4) s))
  three_halves at h =
      let e : at + 2 + 2 ≡ at + 4 = omega arith in
      rw (take-add 2 4 (drop at s), drop-drop 2 at s, two-halves (at + 2) (omega arith), e, number-bytes 2 at (omega arith))

  pub digit-bytes : (n : ℕ) → n < length s / node_size
      → take node_size (drop (node_size * n) s) ≡ digit_record (get_or s (node_size * n) 0) (get_or s (node_size * n + 1) 0) (number_at 6 (node_size * n + 2) s)
  digit-bytes n h =
      let e : node_size * n + 1 + 1 ≡ node_size * n + 2 = omega arith in
      rw (next-byte (node_size * n) 7 (omega arith), next-byte (node_size * n + 1) 6 (omega arith), e, number-bytes 6 (node_size * n + 2) (omega arith), mod-eq_of_lt (bytes (node_size * n + 1)))

  pub node-fields : (n : ℕ) → n < length s / node_size
      → take node_size (drop (node_size * n) s)
      ≡ node_record (get_or s (node_size * n) 0) (get_or s (node_size * n + 1) 0) (number_at 2 (node_size * n + 2) s) (number_at 2 (node_size * n + 4) s) (number_at 2 (node_size * n + 6) s)
  node-fields n h =
      let e : node_size * n + 1 + 1 ≡ node_size * n + 2 = omega arith in
      let f : node_size * n + 2 + 2 ≡ node_size * n + 4 = omega arith in
      let g : node_size * n + 2 + 4 ≡ node_size * n + 6 = omega arith in
      rw (
        next-byte (node_size * n) 7 (omega arith),
        next-byte (node_size * n + 1) 6 (omega arith),
        e,
        three_halves (node_size * n + 2) (omega arith),
        f,
        g,
        mod-eq_of_lt (bytes (node_size * n)),
        mod-eq_of_lt (bytes (node_size * n + 1)),
      )

  pub action-fields : (n : ℕ) → n < length s / action_size
      → take action_size (drop (action_size * n) s)
      ≡ action_record (get_or s (action_size * n) 0) (number_at 2 (action_size * n + 1) s) (number_at 2 (action_size * n + 3) s) (number_at 2 (action_size * n + 5) s)
  action-fields n h =
      let f : action_size * n + 1 + 2 ≡ action_size * n + 3 = omega arith in
      let g : action_size * n + 1 + 4 ≡ action_size * n + 5 = omega arith in
      rw (next-byte (action_size * n) 6 (omega arith), three_halves (action_size * n + 1) (omega arith), f, g)

-- ---- Two records.

byte-same : (x y : ℕ) → x < 256 → y < 256 → eqb (x % 256) (y % 256) ≡ eqb x y
byte-same x y p q = rw (mod-eq_of_lt p, mod-eq_of_lt q)

half-same : (a b : ℕ) (t : Bool) → Half a → Half b → eqb (a % 256) (b % 256) && (eqb (a / 256 % 256) (b / 256 % 256) && t) ≡ both (eqb a b) t
half-same a b t p q = by-test (eqb (a % 256) (b % 256)) (eqb (a / 256 % 256) (b / 256 % 256)) refl refl
  where
    by-test : (u v : Bool) → eqb (a % 256) (b % 256) ≡ u → eqb (a / 256 % 256) (b / 256 % 256) ≡ v → u && (v && t) ≡ both (eqb a b) t
    by-test true true e f =
        let low : a % 256 ≡ b % 256 = eqb-true _ _ e in
        let high : a / 256 % 256 ≡ b / 256 % 256 = eqb-true _ _ f in
        let h : a ≡ b = omega arith in
        rw (eq-eqb a b h)
    by-test true false e f = rw (ne_eqb a b (λ h. eqb-false _ _ f (ap (λ (x : ℕ). x / 256 % 256) h)))
    by-test false v e f = rw (ne_eqb a b (λ h. eqb-false _ _ e (ap (λ (x : ℕ). x % 256) h)))

pub alone : (t : Bool) → both t true ≡ t
alone true = refl
alone false = refl

-- Of a number that has no room in two bytes the low ones are written.
pub low_same : (a b : ℕ) → Half a → same (little 2 a) (little 2 b) ≡ eqb a (b % 65536)
unfolding same little
low_same a b h =
    let p : b % 256 ≡ b % 65536 % 256 = omega arith in
    let e : b / 256 ≡ b / 65536 * 256 + b % 65536 / 256 = omega arith in
    let q : b / 256 % 256 ≡ b % 65536 / 256 % 256 = rw e (omega arith) in
    rw (p, q) (half-same a (b % 65536) true h (omega arith) ∙ alone (eqb a (b % 65536)))

-- The numbers of two records.
halves-same : (a b c a' b' c' : ℕ) → Half a → Half b → Half c → Half a' → Half b' → Half c'
    → same (little 2 a ++ (little 2 b ++ little 2 c)) (little 2 a' ++ (little 2 b' ++ little 2 c')) ≡ both (eqb a a') (both (eqb b b') (eqb c c'))
unfolding same little
halves-same a b c a' b' c' ha hb hc ha' hb' hc' =
    half-same a a' _ ha ha' ∙ ap (both (eqb a a')) (half-same b b' _ hb hb' ∙ ap (both (eqb b b')) (half-same c c' true hc hc' ∙ alone (eqb c c')))

pub together : (t u : Bool) → t && u ≡ both t u
together true u = refl
together false u = refl

-- ---- A record of expressions, and one that has zero in each field without use.

pub record Fields (m x a b c : ℕ) : Type 0 where
  pub mark : m < 256
  pub byte : x < 256
  pub first : Half a
  pub second : Half b
  pub third : Half c

module _ (m x a b c : ℕ) (h : Fields m x a b c) where
  fields-same : (k y a' b' c' : ℕ) → Fields k y a' b' c'
      → same (node_record m x a b c) (node_record k y a' b' c') ≡ both (eqb m k) (both (eqb x y) (both (eqb a a') (both (eqb b b') (eqb c c'))))
  unfolding same
  fields-same k y a' b' c' g =
      rw (byte-same m k h.mark g.mark, byte-same x y h.byte g.byte, halves-same a b c a' b' c' h.first h.second h.third g.first g.second g.third)
      (together (eqb m k) _ ∙ ap (both (eqb m k)) (together (eqb x y) _))

  -- Records that begin with a facility.
  pub names-no-more : same (node_record m x a b c) (node_record m x 0 0 0) ≡ both (eqb a 0) (both (eqb b 0) (eqb c 0))
  names-no-more = fields-same m x 0 0 0 (search rules) ∙ rw (eq-eqb m m refl, eq-eqb x x refl)

  pub names-one-more : same (node_record m x a b c) (node_record m x a 0 0) ≡ both (eqb b 0) (eqb c 0)
  names-one-more = fields-same m x a 0 0 (search rules) ∙ rw (eq-eqb m m refl, eq-eqb x x refl, eq-eqb a a refl)

  pub names-two-more : same (node_record m x a b c) (node_record m x a b 0) ≡ eqb c 0
  names-two-more = fields-same m x a b 0 (search rules) ∙ rw (eq-eqb m m refl, eq-eqb x x refl, eq-eqb a a refl, eq-eqb b b refl)

  -- Records without one.
  pub has_one : (k : ℕ) → m ≡ k → same (node_record m x a b c) (node_record k 0 a 0 0) ≡ both (eqb x 0) (both (eqb b 0) (eqb c 0))
  has_one k e = fields-same k 0 a 0 0 (search rules) ∙ rw (eq-eqb m k e, eq-eqb a a refl)

  pub has-two : (k : ℕ) → m ≡ k → same (node_record m x a b c) (node_record k 0 a b 0) ≡ both (eqb x 0) (eqb c 0)
  has-two k e = fields-same k 0 a b 0 (search rules) ∙ rw (eq-eqb m k e, eq-eqb a a refl, eq-eqb b b refl)

  pub has-three : same (node_record m x a b c) (node_record m 0 a b c) ≡ eqb x 0
  has-three = fields-same m 0 a b c (search rules) ∙ rw (eq-eqb m m refl, eq-eqb a a refl, eq-eqb b b refl, eq-eqb c c refl) (alone (eqb x 0))

  pub all-zero : same (node_record m x a b c) (node_record 0 0 0 0 0) ≡ both (eqb m 0) (both (eqb x 0) (both (eqb a 0) (both (eqb b 0) (eqb c 0))))
  all-zero = fields-same 0 0 0 0 0 (search rules)

-- ---- The same of actions.

module _ (m a b c : ℕ) (ha : Half a) (hb : Half b) (hc : Half c) where
  action-same : (k a' b' c' : ℕ) → Half a' → Half b' → Half c'
      → same (action_record m a b c) (action_record k a' b' c') ≡ both (eqb m k) (both (eqb a a') (both (eqb b b') (eqb c c')))
  unfolding same
  action-same k a' b' c' ha' hb' hc' = rw (halves-same a b c a' b' c' ha hb hc ha' hb' hc') (together (eqb m k) _)

  pub action-none : same (action_record m a b c) (action_record m 0 0 0) ≡ both (eqb a 0) (both (eqb b 0) (eqb c 0))
  action-none = action-same m 0 0 0 (omega arith) (omega arith) (omega arith) ∙ rw (eq-eqb m m refl)

  pub action-one : same (action_record m a b c) (action_record m a 0 0) ≡ both (eqb b 0) (eqb c 0)
  action-one = action-same m a 0 0 ha (omega arith) (omega arith) ∙ rw (eq-eqb m m refl, eq-eqb a a refl)

  pub action-two : same (action_record m a b c) (action_record m a b 0) ≡ eqb c 0
  action-two = action-same m a b 0 ha hb (omega arith) ∙ rw (eq-eqb m m refl, eq-eqb a a refl, eq-eqb b b refl)

  pub action-zero : same (action_record m a b c) (action_record 0 0 0 0) ≡ both (eqb m 0) (both (eqb a 0) (both (eqb b 0) (eqb c 0)))
  action-zero = action-same 0 0 0 0 (omega arith) (omega arith) (omega arith)

-- ---- Record n of a section.

module _ (s : List ℕ) (bytes : (i : ℕ) → get_or s i 0 < 256) (n : ℕ) (h : n < length s / node_size) where
  pub constant-right : get_or s (node_size * n) 0 ≡ 1
      → digits_marked (get_or s (node_size * n + 1) 0 / 48) n s ≡ same (take node_size (drop (node_size * n) s)) (node_bytes (node_of s n))
  unfolding node_bytes digit_length same
  constant-right m = by-test (digits_marked (get_or s (node_size * n + 1) 0 / 48) n s) refl
    where
      by-test : (t : Bool) → digits_marked (get_or s (node_size * n + 1) 0 / 48) n s ≡ t → t ≡ same (take node_size (drop (node_size * n) s)) (node_bytes (node_of s n))
      by-test true e =
          let x = get_or s (node_size * n + 1) 0 in
          let l : x + 1 - 1 ≡ x = omega arith in
          let f : number_at 6 (node_size * n + 2) s < 2 ^ 48 = number_small s bytes 6 (node_size * n + 2) in
          let v : constant_number n s % 2 ^ 48 ≡ number_at 6 (node_size * n + 2) s = sym (constant-low n s) ∙ mod-eq_of_lt f in
          rw (node-constant s n h m e, digit-bytes s bytes n h, m, l, v) (sym (same_refl (digit_record 1 x (number_at 6 (node_size * n + 2) s))))
      by-test false e = rw (node-unmarked s n h m e, digit-bytes s bytes n h, m)

  pub more-right : get_or s (node_size * n) 0 ≡ 2
      → eqb (get_or s (node_size * n + 1) 0) 0 ≡ same (take node_size (drop (node_size * n) s)) (node_bytes (node_of s n))
  unfolding node_bytes same
  more-right m =
      rw (node-more s n h m, digit-bytes s bytes n h, m, mod-eq_of_lt (bytes (node_size * n + 1)), same_refl (little 6 (number_at 6 (node_size * n + 2) s))) (beside (eqb (get_or s (node_size * n + 1) 0) 0))
    where
      beside : (t : Bool) → t ≡ t && true
      beside true = refl
      beside false = refl
