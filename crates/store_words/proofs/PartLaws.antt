-- The laws of parts of words among bytes, and one turn of the loops that read and write them. Assumes nothing.
use mathlib.Core.Path.{◌≡◌, refl, sym, ap, ap₂, ◌∙◌, subst}
use mathlib.Core.Logic.{◌⊎◌, ⊎_elim, ⊎_swap}
use mathlib.Core.List.{List}
use mathlib.Core.Bool.{Bool, true, false}
use Prim.Native.Nat.{ℕ, ◌+◌, ◌-◌, ◌*◌, ◌/◌, ◌%◌, ◌^◌, ◌≤◌, ◌<◌, min}
use native.Mathlib.Nat.{mod-eq_of_lt, mod-lt}
use native.Mathlib.Omega.{arith}
use borrow.Author.Tests.{le-leb, leb-true}
use lib.Dec.{leb}
use lib.ListN.{get_or, length, set}
use lib.Pow.{mod-pow-add, pow_pos, shr-shr, split}
use Rattle.language.specs.Layout.{word_bytes}
use Rattle.language.specs.Value.{replaced, value}
use Rattle.language.specs.Ceilings.{longest}
use Rattle.value_limbs.specs.Limbs.{cat, number}
use Rattle.value_limbs.proofs.Laws.{Below}
use Rattle.store_layout.specs.Layout.{Bytes, position, with_word, word_in}
use Rattle.store_layout.specs.Parts.{inside, loaded, low_of, part_in, saved, with_part}
use Rattle.store_words.specs.Runs.{Cuts, InRuns}
use Rattle.store_words.specs.declared.parts.Runs.{Runs}
use Rattle.store_layout.proofs.ByteOrder.{word_room}
use Rattle.store_layout.proofs.Numbers.{Apart, bit-low, part_apart, part-limb, part-replaced, part_same, replaced-cat, replaced-commute, replaced-in-digit, replaced-limb, replaced-lt, replaced-none}
use Rattle.store_layout.proofs.Words.{bytes-with, digit-in, length-with, set-digit, with-apart, with-with, with-word, word-apart, word_lt, word-with}
use Rattle.language.specs.Tests.{both}

pub part-lt : (B : List ℕ) (at l low c : ℕ) → part_in B at l low c < 2 ^ c
unfolding part_in
part-lt B at l low c = mod-lt (word_in B at l / 2 ^ low) (pow_pos c)

-- A part in two parts.
pub part-cat : (B : List ℕ) (at l low c n : ℕ) → part_in B at l low (c + n) ≡ part_in B at l (low + n) c * 2 ^ n + part_in B at l low n
unfolding part_in
part-cat B at l low c n =
    mod-pow-add (word_in B at l / 2 ^ low) c n ∙ ap (λ (x : ℕ). (x % 2 ^ c) * 2 ^ n + word_in B at l / 2 ^ low % 2 ^ n) (shr-shr (word_in B at l) low n)

module _ (B : List ℕ) (at l : ℕ) (fits : at + word_bytes l ≤ length B) (bytes : Bytes B) where
  -- ---- What is saved, and what is kept.

  module _ (low c v : ℕ) (in-word : low + c ≤ 8 * word_bytes l) where
    -- The word's number has its part replaced.
    pub word-saved : word_in (with_part B at l low c v) at l ≡ replaced (word_in B at l) low c v
    unfolding with_part
    word-saved =
        word-with B at l fits (replaced (word_in B at l) low c v) ∙ mod-eq_of_lt (replaced-lt (word_in B at l) low c v (8 * word_bytes l) in-word (word_lt B at l fits bytes))

    pub load-after-save : part_in (with_part B at l low c v) at l low c ≡ v % 2 ^ c
    unfolding part_in
    load-after-save = ap (λ (x : ℕ). x / 2 ^ low % 2 ^ c) word-saved ∙ part-replaced (word_in B at l) low c v

    pub load_apart : (low' c' : ℕ) → Apart low c low' c' → part_in (with_part B at l low c v) at l low' c' ≡ part_in B at l low' c'
    unfolding part_in
    load_apart low' c' p = ap (λ (x : ℕ). x / 2 ^ low' % 2 ^ c') word-saved ∙ part_apart (word_in B at l) low c v low' c' p

    -- A word without spare bits keeps none, where the part is of its l bits.
    pub spare-kept : low + c ≤ l → word_in B at l < 2 ^ l → word_in (with_part B at l low c v) at l < 2 ^ l
    spare-kept h n = rw word-saved (replaced-lt (word_in B at l) low c v l h n)

    pub saves-commute : (low' c' v' : ℕ) → low' + c' ≤ 8 * word_bytes l → Apart low c low' c'
        → with_part (with_part B at l low c v) at l low' c' v' ≡ with_part (with_part B at l low' c' v') at l low c v
    unfolding with_part
    saves-commute low' c' v' h p = again word-saved (replaced-commute (word_in B at l) low c v low' c' p v')
      where
        W : ℕ
        W = word_in B at l

        lt : replaced W low' c' v' < 2 ^ (8 * word_bytes l)
        lt = replaced-lt W low' c' v' (8 * word_bytes l) h (word_lt B at l fits bytes)

        again : word_in (with_word B at l (replaced W low c v)) at l ≡ replaced W low c v → replaced (replaced W low c v) low' c' v' ≡ replaced (replaced W low' c' v') low c v
            → with_word (with_word B at l (replaced W low c v)) at l (replaced (word_in (with_word B at l (replaced W low c v)) at l) low' c' v')
            ≡ with_word (with_word B at l (replaced W low' c' v')) at l (replaced (word_in (with_word B at l (replaced W low' c' v')) at l) low c v)
        again e f =
            with-with B at l fits (replaced W low c v) (replaced (word_in (with_word B at l (replaced W low c v)) at l) low' c' v')
            ∙ ap (with_word B at l) (ap (λ (x : ℕ). replaced x low' c' v') e ∙ f ∙ ap (λ (x : ℕ). replaced x low c v) (sym (word-with B at l fits (replaced W low' c' v') ∙ mod-eq_of_lt lt)))
            ∙ sym (with-with B at l fits (replaced W low' c' v') (replaced (word_in (with_word B at l (replaced W low' c' v')) at l) low c v))

    -- A part in two parts, the upper one first.
    pub save-cat : (n : ℕ) (u : ℕ) → low + (c + n) ≤ 8 * word_bytes l → u / 2 ^ c ≡ v → with_part (with_part B at l (low + c) n v) at l low c u ≡ with_part B at l low (c + n) u
    unfolding with_part
    save-cat n u h e =
        let W : ℕ = word_in B at l in
        let x : ℕ = replaced W (low + c) n v in
        let f : word_in (with_word B at l x) at l ≡ x = word-with B at l fits x ∙ mod-eq_of_lt (replaced-lt W (low + c) n v (8 * word_bytes l) (omega arith) (word_lt B at l fits bytes)) in
        with-with B at l fits x (replaced (word_in (with_word B at l x) at l) low c u)
        ∙ ap (with_word B at l) (ap (λ (y : ℕ). replaced y low c u) f ∙ ap (λ (y : ℕ). replaced (replaced W (low + c) n y) low c u) (sym e) ∙ replaced-cat W low c n u)

  pub length-saved : (low c v : ℕ) → length (with_part B at l low c v) ≡ length B
  unfolding with_part
  length-saved low c v = length-with B at l fits (replaced (word_in B at l) low c v)

  pub bytes-saved : (low c v : ℕ) → Bytes (with_part B at l low c v)
  unfolding with_part
  bytes-saved low c v = bytes-with B at l fits bytes (replaced (word_in B at l) low c v)

  pub saved-none : (low v : ℕ) → with_part B at l low 0 v ≡ B
  unfolding with_part
  saved-none low v = ap (with_word B at l) (replaced-none (word_in B at l) low v) ∙ with-word B at l fits bytes

  -- A word elsewhere is as it was.
  pub load-elsewhere : (low c v at' l' low' c' : ℕ) → (at + word_bytes l ≤ at') ⊎ (at' + word_bytes l' ≤ at) → part_in (with_part B at l low c v) at' l' low' c' ≡ part_in B at' l' low' c'
  unfolding part_in with_part
  load-elsewhere low c v at' l' low' c' p = ap (λ (x : ℕ). x / 2 ^ low' % 2 ^ c') (word-apart B at l fits (replaced (word_in B at l) low c v) at' l' p)

  -- Two words that lie apart are saved to in either order.
  pub saves-apart : (low c v at' l' low' c' v' : ℕ) → at' + word_bytes l' ≤ length B → (at + word_bytes l ≤ at') ⊎ (at' + word_bytes l' ≤ at)
      → with_part (with_part B at l low c v) at' l' low' c' v' ≡ with_part (with_part B at' l' low' c' v') at l low c v
  unfolding with_part
  saves-apart low c v at' l' low' c' v' fits' p =
      let x : ℕ = replaced (word_in B at l) low c v in
      let y : ℕ = replaced (word_in B at' l') low' c' v' in
      ap (λ (w : ℕ). with_word (with_word B at l x) at' l' (replaced w low' c' v')) (word-apart B at l fits x at' l' p)
      ∙ with-apart B at l at' l' x y fits fits' p
      ∙ ap (λ (w : ℕ). with_word (with_word B at' l' y) at l (replaced w low c v)) (sym (word-apart B at' l' fits' y at l (⊎_swap p)))

  -- ---- Limbs: the lowest, and then those above it.

  save-limb : (low n Y : ℕ) {c x : ℕ} → c ≡ min n 64 → x < 2 ^ 64 → low + n ≤ 8 * word_bytes l
      → with_part B at l low n (Y * 2 ^ 64 + x) ≡ with_part (with_part B at l low c x) at l (low + c) (n - c) Y
  unfolding with_part
  save-limb low n Y {c} {x} e h g =
      let W : ℕ = word_in B at l in
      let y : ℕ = replaced W low c x in
      let f : word_in (with_word B at l y) at l ≡ y = word-with B at l fits y ∙ mod-eq_of_lt (replaced-lt W low c x (8 * word_bytes l) (omega arith) (word_lt B at l fits bytes)) in
      let r : replaced W low n (Y * 2 ^ 64 + x) ≡ replaced y (low + c) (n - c) Y = rw e (replaced-limb 64 W low n Y h) in
      ap (with_word B at l) (r ∙ ap (λ (z : ℕ). replaced z (low + c) (n - c) Y) (sym f)) ∙ sym (with-with B at l fits y (replaced (word_in (with_word B at l y) at l) (low + c) (n - c) Y))

  -- ---- A word as one number, one byte more.

  pub word-turn : (j : ℕ) → j < word_bytes l → word_in B at l / 2 ^ (8 * j) ≡ word_in B at l / 2 ^ (8 * (j + 1)) * 2 ^ 8 + get_or B (at + position l j) 0
  word-turn j h =
      let W : ℕ = word_in B at l in
      let e : 8 * j + 8 ≡ 8 * (j + 1) = omega arith in
      sym (split (W / 2 ^ (8 * j)) 8) ∙ ap₂ (λ (x y : ℕ). x * 2 ^ 8 + y) (shr-shr W (8 * j) 8 ∙ ap (λ (m : ℕ). W / 2 ^ m) e) (sym (digit-in B at l fits bytes j h))

  -- ---- One turn: the bits that lie in one byte.

  module _ (low left : ℕ) {j s n : ℕ} (cut : Cuts low left j s n) (in-word : low + left ≤ 8 * word_bytes l) where
    j-lt : j < word_bytes l
    j-lt = omega (arith, cut.place, cut.some, in-word)

    pub byte-part : get_or B (at + position l j) 0 / 2 ^ s % 2 ^ n ≡ part_in B at l (low + (left - n)) n
    unfolding part_in
    byte-part =
        let x : ℕ = word_in B at l / 2 ^ (8 * j) in
        let e : 8 * j + s ≡ low + (left - n) = omega (arith, cut.place, cut.few) in
        ap (λ (y : ℕ). y / 2 ^ s % 2 ^ n) (digit-in B at l fits bytes j j-lt)
        ∙ part_same (x % 2 ^ 8) x s n (λ k p q. bit-low x 8 k (omega (arith, cut.in-byte)))
        ∙ ap (λ (y : ℕ). y % 2 ^ n) (shr-shr (word_in B at l) (8 * j) s ∙ ap (λ (m : ℕ). word_in B at l / 2 ^ m) e)

    pub load-turn : (count : ℕ) → left ≤ count
        → part_in B at l (low + (left - n)) (count - (left - n)) ≡ part_in B at l (low + left) (count - left) * 2 ^ n + get_or B (at + position l j) 0 / 2 ^ s % 2 ^ n
    load-turn count h =
        let f = cut.few in
        let e : count - (left - n) ≡ (count - left) + n = omega arith in
        let g : low + (left - n) + n ≡ low + left = omega arith in
        ap (part_in B at l (low + (left - n))) e ∙ part-cat B at l (low + (left - n)) (count - left) n
        ∙ ap₂ (λ (x y : ℕ). part_in B at l x (count - left) * 2 ^ n + y) g (sym byte-part)

    pub byte-saved : (v : ℕ) → set B (at + position l j) (replaced (get_or B (at + position l j) 0) s n v) ≡ with_part B at l (low + (left - n)) n v
    unfolding with_part
    byte-saved v =
        let W : ℕ = word_in B at l in
        let e : 8 * j + s ≡ low + (left - n) = omega (arith, cut.place, cut.few) in
        let y : ℕ = replaced (get_or B (at + position l j) 0) s n v in
        set-digit B at l fits bytes j y j-lt (replaced-lt (get_or B (at + position l j) 0) s n v 8 cut.in-byte (bytes (at + position l j)))
        ∙ ap (with_word B at l) (ap (λ (b : ℕ). replaced W (8 * j) 8 (replaced b s n v)) (digit-in B at l fits bytes j j-lt) ∙ replaced-in-digit W (8 * j) 8 s n v cut.in-byte ∙ ap (λ (p : ℕ). replaced W p n v) e)

    pub save-turn : (v : ℕ) → with_part (set B (at + position l j) (replaced (get_or B (at + position l j) 0) s n (v / 2 ^ (left - n)))) at l low (left - n) v ≡ with_part B at l low left v
    save-turn v =
        let f = cut.few in
        let e : (left - n) + n ≡ left = omega arith in
        ap (λ (A : List ℕ). with_part A at l low (left - n) v) (byte-saved (v / 2 ^ (left - n)))
        ∙ save-cat low (left - n) (v / 2 ^ (left - n)) (omega arith) n v (omega arith) refl ∙ ap (λ (m : ℕ). with_part B at l low m v) e

-- ---- Four limbs.

load-limb : (B : List ℕ) (at l low n : ℕ) {c : ℕ} → c ≡ min n 64 → part_in B at l low n ≡ cat (part_in B at l (low + c) (n - c)) (part_in B at l low c)
unfolding part_in
load-limb B at l low n {c} e =
    rw e (part-limb 64 (word_in B at l / 2 ^ low) n
    ∙ ap (λ (x : ℕ). cat (x % 2 ^ (n - min n 64)) (word_in B at l / 2 ^ low % 2 ^ min n 64)) (shr-shr (word_in B at l) low (min n 64)))

module _ (B : List ℕ) (at l low n : ℕ) (r : Runs) (runs : InRuns low n r) where
  pub load-four : {l₀ l₁ l₂ l₃ : ℕ} → l₀ ≡ part_in B at l low r.c0 → l₁ ≡ part_in B at l r.p1 r.c1 → l₂ ≡ part_in B at l r.p2 r.c2 → l₃ ≡ part_in B at l r.p3 r.c3
      → cat (cat (cat l₃ l₂) l₁) l₀ ≡ part_in B at l low n
  load-four q₀ q₁ q₂ q₃ =
      let at-run : ℕ → ℕ → ℕ = part_in B at l in
      ap₂ cat (ap₂ cat (ap₂ cat (q₃ ∙ ap₂ at-run runs.p3 runs.c3) (q₂ ∙ ap (λ (p : ℕ). at-run p r.c2) runs.p2) ∙ sym (load-limb B at l (low + r.c0 + r.c1) (n - r.c0 - r.c1) runs.c2))
      (q₁ ∙ ap (λ (p : ℕ). at-run p r.c1) runs.p1) ∙ sym (load-limb B at l (low + r.c0) (n - r.c0) runs.c1)) q₀ ∙ sym (load-limb B at l low n runs.c0)

  pub save-four : (x : List ℕ) {B₁ B₂ B₃ B₄ : List ℕ} → at + word_bytes l ≤ length B → Bytes B → low + n ≤ 8 * word_bytes l → Below x
      → B₁ ≡ with_part B at l low r.c0 (get_or x 0 0) → B₂ ≡ with_part B₁ at l r.p1 r.c1 (get_or x 1 0) → B₃ ≡ with_part B₂ at l r.p2 r.c2 (get_or x 2 0) → B₄ ≡ with_part B₃ at l r.p3 r.c3 (get_or x 3 0)
      → B₄ ≡ with_part B at l low n (number x)
  unfolding number
  save-four x {B₁} {B₂} {B₃} fits bytes h b q₁ q₂ q₃ q₄ =
      let f₁ : at + word_bytes l ≤ length B₁ = omega (arith, ap length q₁ ∙ length-saved B at l fits bytes low r.c0 (get_or x 0 0)) in
      let b₁ : Bytes B₁ = subst Bytes (sym q₁) (bytes-saved B at l fits bytes low r.c0 (get_or x 0 0)) in
      let f₂ : at + word_bytes l ≤ length B₂ = omega (arith, ap length q₂ ∙ length-saved B₁ at l f₁ b₁ r.p1 r.c1 (get_or x 1 0)) in
      let b₂ : Bytes B₂ = subst Bytes (sym q₂) (bytes-saved B₁ at l f₁ b₁ r.p1 r.c1 (get_or x 1 0)) in
      let e₀ = runs.c0 in
      let e₁ = runs.c1 in
      q₄ ∙ ap (λ (A : List ℕ). with_part A at l r.p3 r.c3 (get_or x 3 0)) q₃
      ∙ ap₂ (λ (p c : ℕ). with_part (with_part B₂ at l r.p2 r.c2 (get_or x 2 0)) at l p c (get_or x 3 0)) runs.p3 runs.c3
      ∙ ap (λ (p : ℕ). with_part (with_part B₂ at l p r.c2 (get_or x 2 0)) at l (low + r.c0 + r.c1 + r.c2) (n - r.c0 - r.c1 - r.c2) (get_or x 3 0)) runs.p2
      ∙ sym (save-limb B at l fits bytes low n (cat (cat (get_or x 3 0) (get_or x 2 0)) (get_or x 1 0)) runs.c0 b.b0 h
      ∙ ap (λ (A : List ℕ). with_part A at l (low + r.c0) (n - r.c0) (cat (cat (get_or x 3 0) (get_or x 2 0)) (get_or x 1 0))) (sym q₁)
      ∙ save-limb B₁ at l f₁ b₁ (low + r.c0) (n - r.c0) (cat (get_or x 3 0) (get_or x 2 0)) runs.c1 b.b1 (omega arith)
      ∙ ap (λ (A : List ℕ). with_part A at l (low + r.c0 + r.c1) (n - r.c0 - r.c1) (cat (get_or x 3 0) (get_or x 2 0))) (sym (q₂ ∙ ap (λ (p : ℕ). with_part B₁ at l p r.c1 (get_or x 1 0)) runs.p1))
      ∙ save-limb B₂ at l f₂ b₂ (low + r.c0 + r.c1) (n - r.c0 - r.c1) (get_or x 3 0) runs.c2 b.b2 (omega arith))

-- Where no more than a limb is put, the limbs above it count for nothing.
pub save-lowest : (B : List ℕ) (at l low n : ℕ) (x : List ℕ) → at + word_bytes l ≤ length B → Bytes B → low + n ≤ 8 * word_bytes l → n ≤ 64 → Below x
    → with_part B at l low n (number x) ≡ with_part B at l low n (get_or x 0 0)
unfolding number
save-lowest B at l low n x fits bytes g h b =
    let e : n ≡ min n 64 = omega arith in
    let z : n - n ≡ 0 = omega arith in
    let Y : ℕ = cat (cat (get_or x 3 0) (get_or x 2 0)) (get_or x 1 0) in
    let B₁ : List ℕ = with_part B at l low n (get_or x 0 0) in
    save-limb B at l fits bytes low n Y e b.b0 g ∙ ap (λ (m : ℕ). with_part B₁ at l (low + n) m Y) z
    ∙ saved-none B₁ at l (omega (arith, length-saved B at l fits bytes low n (get_or x 0 0))) (bytes-saved B at l fits bytes low n (get_or x 0 0)) (low + n) Y

-- ---- Parts by their first bit.

pub inside-true : (n at l from c : ℕ) {r : Bool} → r ≡ inside n at l from c → r ≡ true → (at + word_bytes l ≤ n) × (from + c ≤ l) × (c ≤ 256)
unfolding inside longest
inside-true n at l from c e t = go (leb (at + word_bytes l) n) (leb (from + c) l) (leb c 256) refl refl refl (sym e ∙ t)
  where
    go : (p q r : Bool) → leb (at + word_bytes l) n ≡ p → leb (from + c) l ≡ q → leb c 256 ≡ r → both p (both q r) ≡ true → (at + word_bytes l ≤ n) × (from + c ≤ l) × (c ≤ 256)
    go true true true e f g t = (leb-true _ _ e, leb-true _ _ f, leb-true _ _ g)
    go true true false e f g t = absurd (let z : ◌≡◌ {A = ℕ} 0 1 = cc in omega arith)
    go true false r e f g t = absurd (let z : ◌≡◌ {A = ℕ} 0 1 = cc in omega arith)
    go false q r e f g t = absurd (let z : ◌≡◌ {A = ℕ} 0 1 = cc in omega arith)

pub inside_is : (n at l from c : ℕ) → at + word_bytes l ≤ n → from + c ≤ l → c ≤ 256 → inside n at l from c ≡ true
unfolding inside longest
inside_is n at l from c p q r = simp (le-leb (at + word_bytes l) n p, le-leb (from + c) l q, le-leb c 256 r)

module _ (B : List ℕ) (at l from c : ℕ) where
  pub loaded-inside : inside (length B) at l from c ≡ true → loaded B at l from c ≡ value c (part_in B at l (low_of l from c) c)
  unfolding loaded
  loaded-inside h = rw h refl

  pub loaded-outside : inside (length B) at l from c ≡ false → loaded B at l from c ≡ value 0 0
  unfolding loaded
  loaded-outside h = rw h refl

  pub saved-inside : (v : ℕ) → inside (length B) at l from c ≡ true → saved B at l from c v ≡ with_part B at l (low_of l from c) c v
  unfolding saved
  saved-inside v h = rw h refl

  pub saved-outside : (v : ℕ) → inside (length B) at l from c ≡ false → saved B at l from c v ≡ B
  unfolding saved
  saved-outside v h = rw h refl

-- ---- Loading after saving.

module _ (B : List ℕ) (bytes : Bytes B) (at l from c v : ℕ) (here : inside (length B) at l from c ≡ true) where
  abbrev new : List ℕ
  new = saved B at l from c v

  size : (at + word_bytes l ≤ length B) × (from + c ≤ l) × (c ≤ 256)
  size = inside-true (length B) at l from c refl here

  in_bytes : low_of l from c + c ≤ 8 * word_bytes l
  in_bytes = omega (arith, size.1, word_room l)

  pub length-kept : length new ≡ length B
  length-kept = ap length (saved-inside B at l from c v here) ∙ length-saved B at l size.0 bytes (low_of l from c) c v

  still : (at' l' from' c' : ℕ) → inside (length B) at' l' from' c' ≡ true → inside (length new) at' l' from' c' ≡ true
  still at' l' from' c' h = ap (λ (n : ℕ). inside n at' l' from' c') length-kept ∙ h

  -- At the same part.
  pub loaded-back : loaded new at l from c ≡ value c (v % 2 ^ c)
  loaded-back =
      loaded-inside new at l from c (still at l from c here)
      ∙ ap (value c) (ap (λ (A : List ℕ). part_in A at l (low_of l from c) c) (saved-inside B at l from c v here) ∙ load-after-save B at l size.0 bytes (low_of l from c) c v in_bytes)

  -- At another part of the word.
  pub loaded-apart : (from' c' : ℕ) → inside (length B) at l from' c' ≡ true → (from + c ≤ from') ⊎ (from' + c' ≤ from) → loaded new at l from' c' ≡ loaded B at l from' c'
  loaded-apart from' c' h p =
      let s = inside-true (length B) at l from' c' refl h in
      loaded-inside new at l from' c' (still at l from' c' h)
      ∙ ap (value c') (ap (λ (A : List ℕ). part_in A at l (low_of l from' c') c') (saved-inside B at l from c v here)
      ∙ load_apart B at l size.0 bytes (low_of l from c) c v in_bytes (low_of l from' c') c' (λ k a b a' b'. ⊎_elim (λ q. omega (arith, size.1, s.1)) (λ q. omega (arith, size.1, s.1)) p))
      ∙ sym (loaded-inside B at l from' c' h)

  -- At another word.
  pub loaded-elsewhere : (at' l' from' c' : ℕ) → inside (length B) at' l' from' c' ≡ true → (at + word_bytes l ≤ at') ⊎ (at' + word_bytes l' ≤ at) → loaded new at' l' from' c' ≡ loaded B at' l' from' c'
  loaded-elsewhere at' l' from' c' h p =
      loaded-inside new at' l' from' c' (still at' l' from' c' h)
      ∙ ap (value c') (ap (λ (A : List ℕ). part_in A at' l' (low_of l' from' c') c') (saved-inside B at l from c v here)
      ∙ load-elsewhere B at l size.0 bytes (low_of l from c) c v at' l' (low_of l' from' c') c' p)
      ∙ sym (loaded-inside B at' l' from' c' h)
