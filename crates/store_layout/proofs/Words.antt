-- A word among bytes: found as it was put, kept by what is put elsewhere. Only laws of ByteOrder are used. Assumes nothing.
use mathlib.Core.Path.{◌≡◌, refl, sym, ap, ap₂, ◌∙◌, subst}
use mathlib.Core.Logic.{⊎_elim, ◌⊎◌}
use mathlib.Core.Bool.{Bool, true, false}
use mathlib.Core.List.{List, ◌++◌}
use Prim.Native.Nat.{ℕ, ◌+◌, ◌-◌, ◌*◌, ◌/◌, ◌%◌, ◌^◌, ◌≤◌, ◌<◌}
use native.Mathlib.Nat.{eq-zero-or-pos, mod-lt}
use native.Mathlib.Omega.{arith}
use borrow.Author.Tests.{eqb-true, eqb-false}
use lib.Dec.{eqb}
use lib.ListN.{get_or-append, get_or-eq_default, drop, get_or, length, length-append, length-drop, length-set, length-take, set, take, take-append-drop}
use lib.Pow.{pow_pos}
use lib.Seq.{drop_at, drop-drop, ext_get_or, get_or-append-add, get_or-drop, get_or-set_other, get_or-set_same, get_or-take, length-take-le, set-append_left, take_at}
use Rattle.language.specs.Layout.{word_bytes, word_from_bytes, word_to_bytes}
use Rattle.language.specs.Value.{replaced}
use Rattle.store_layout.specs.Bits.{bit_of}
use Rattle.store_layout.specs.Layout.{Bytes, position, with_word, word_in}
use Rattle.store_layout.proofs.ByteLists.{bytes-append, bytes_drop, bytes-set, bytes_take, set-append-add}
use Rattle.store_layout.proofs.ByteOrder.{from-digit, from-lt, length-word, position-lt, position-twice, to-digit}
use Rattle.store_layout.proofs.Numbers.{Spot, bit-low, bit-none, bit-outside, bit-within, outside, part-bit, replaced-lt, same_bits, spot, within}

-- ---- The bytes of one word.

-- A bit of the number is a bit of the byte that has it.
pub word-bit : (l : ℕ) (bs : List ℕ) (k : ℕ) → Bytes bs → length bs ≡ word_bytes l → k < 8 * word_bytes l → bit_of (word_from_bytes bs) k ≡ bit_of (get_or bs (position l (k / 8)) 0) (k % 8)
word-bit l bs k b e h =
    let s : k ≡ 8 * (k / 8) + k % 8 = omega arith in
    ap (bit_of (word_from_bytes bs)) s ∙ sym (part-bit (word_from_bytes bs) (8 * (k / 8)) 8 (k % 8) (omega arith)) ∙ ap (λ (n : ℕ). bit_of n (k % 8)) (from-digit l bs b e (k / 8) (omega arith))

-- Each byte of a word is one of its digits.
at_position : (l i : ℕ) → i < word_bytes l → (P : ℕ → Type 0) → ((j : ℕ) → j < word_bytes l → P (position l j)) → P i
at_position l i h P f = subst P (position-twice l i h) (f (position l i) (position-lt l i h))

pub bytes_word : (l x : ℕ) → Bytes (word_to_bytes l x)
bytes_word l x i = ⊎_elim
    (λ e. rw (get_or-eq_default (word_to_bytes l x) 0 {n = i} (omega (arith, length-word l x))) (omega arith))
    (λ h. at_position l i (omega (arith, length-word l x)) (λ (n : ℕ). get_or (word_to_bytes l x) n 0 < 256) (λ j g. rw (to-digit l x j g) (mod-lt (x / 2 ^ (8 * j)) (omega arith))))
    (eq-zero-or-pos (length (word_to_bytes l x) - i))

pub from-to : (l x : ℕ) → word_from_bytes (word_to_bytes l x) ≡ x % 2 ^ (8 * word_bytes l)
from-to l x = same_bits _ _ (λ k. go k (spot 0 (8 * word_bytes l) k))
  where
    go : (k : ℕ) → Spot 0 (8 * word_bytes l) k → bit_of (word_from_bytes (word_to_bytes l x)) k ≡ bit_of (x % 2 ^ (8 * word_bytes l)) k
    go k (within p q) =
        let s : 8 * (k / 8) + k % 8 ≡ k = omega arith in
        word-bit l (word_to_bytes l x) k (bytes_word l x) (length-word l x) (omega arith) ∙ ap (λ (n : ℕ). bit_of n (k % 8)) (to-digit l x (k / 8) (omega arith))
        ∙ part-bit x (8 * (k / 8)) 8 (k % 8) (omega arith) ∙ ap (bit_of x) s ∙ sym (bit-low x (8 * word_bytes l) k (omega arith))
    go k (outside n) =
        let h : 8 * word_bytes l ≤ k = ⊎_elim (λ e. omega arith) (λ p. absurd (n (omega arith) (omega arith))) (eq-zero-or-pos (8 * word_bytes l - k)) in
        bit-none (8 * word_bytes l) k (from-lt l (word_to_bytes l x) (bytes_word l x) (length-word l x)) h
        ∙ sym (bit-none (8 * word_bytes l) k (mod-lt x (pow_pos (8 * word_bytes l))) h)

module _ (l : ℕ) (bs : List ℕ) (b : Bytes bs) (e : length bs ≡ word_bytes l) where
  pub to-from : word_to_bytes l (word_from_bytes bs) ≡ bs
  to-from = ext_get_or 0 (word_to_bytes l (word_from_bytes bs)) bs (length-word l (word_from_bytes bs) ∙ sym e)
      (λ i h. at_position l i (omega (arith, length-word l (word_from_bytes bs))) (λ (n : ℕ). get_or (word_to_bytes l (word_from_bytes bs)) n 0 ≡ get_or bs n 0)
      (λ j g. to-digit l (word_from_bytes bs) j g ∙ from-digit l bs b e j g))

  -- A byte put is a digit replaced.
  from-set : (j y : ℕ) → j < word_bytes l → y < 256 → word_from_bytes (set bs (position l j) y) ≡ replaced (word_from_bytes bs) (8 * j) 8 y
  from-set j y h small = same_bits _ _ (λ k. go k (spot 0 (8 * word_bytes l) k))
    where
      cs : List ℕ
      cs = set bs (position l j) y

      f : length cs ≡ word_bytes l
      f = length-set bs (position l j) y ∙ e

      c : Bytes cs
      c = bytes-set bs (position l j) y b small

      digit : (k : ℕ) → k < 8 * word_bytes l → (t : Bool) → eqb (k / 8) j ≡ t → bit_of (get_or cs (position l (k / 8)) 0) (k % 8) ≡ bit_of (replaced (word_from_bytes bs) (8 * j) 8 y) k
      digit k g true q =
          let s : k / 8 ≡ j = eqb-true (k / 8) j q in
          let r : k - 8 * j ≡ k % 8 = omega arith in
          rw s (ap (λ (n : ℕ). bit_of n (k % 8)) (get_or-set_same bs (position l j) y 0 (omega (arith, position-lt l j h, e)))
          ∙ ap (bit_of y) (sym r) ∙ sym (bit-within (word_from_bytes bs) (8 * j) 8 y k (omega arith) (omega arith)))
      digit k g false q =
          let n : k / 8 ≡ j → ⊥ = eqb-false (k / 8) j q in
          let m : position l (k / 8) ≡ position l j → ⊥ = λ r. n (sym (position-twice l (k / 8) (omega arith)) ∙ ap (position l) r ∙ position-twice l j h) in
          ap (λ (i : ℕ). bit_of i (k % 8)) (get_or-set_other bs (position l j) (position l (k / 8)) y 0 m) ∙ sym (word-bit l bs k b e g)
          ∙ sym (bit-outside (word_from_bytes bs) (8 * j) 8 y k (λ u v. n (omega arith)))

      go : (k : ℕ) → Spot 0 (8 * word_bytes l) k → bit_of (word_from_bytes cs) k ≡ bit_of (replaced (word_from_bytes bs) (8 * j) 8 y) k
      go k (within p q) = word-bit l cs k c f (omega arith) ∙ digit k (omega arith) (eqb (k / 8) j) refl
      go k (outside n) =
          let g : 8 * word_bytes l ≤ k = ⊎_elim (λ e. omega arith) (λ p. absurd (n (omega arith) (omega arith))) (eq-zero-or-pos (8 * word_bytes l - k)) in
          bit-none (8 * word_bytes l) k (from-lt l cs c f) g
          ∙ sym (bit-none (8 * word_bytes l) k (replaced-lt (word_from_bytes bs) (8 * j) 8 y (8 * word_bytes l) (omega arith) (from-lt l bs b e)) g)

-- ---- The word at a place among bytes.

-- It is the same where the bytes there are the same.
pub word_same : (A B : List ℕ) (at l : ℕ) → length A ≡ length B → ((i : ℕ) → at ≤ i → i < at + word_bytes l → get_or A i 0 ≡ get_or B i 0) → word_in A at l ≡ word_in B at l
unfolding word_in
word_same A B at l e h =
    ap word_from_bytes (ext_get_or 0 (take (word_bytes l) (drop at A)) (take (word_bytes l) (drop at B))
    (length-take (word_bytes l) (drop at A) ∙ ap (λ (n : ℕ). min' n) (length-drop at A ∙ ap (λ (n : ℕ). n - at) e ∙ sym (length-drop at B)) ∙ sym (length-take (word_bytes l) (drop at B)))
    (λ i g. let s : i < word_bytes l = omega (arith, length-take (word_bytes l) (drop at A)) in
    get_or-take (word_bytes l) (drop at A) i 0 s ∙ get_or-drop at A i 0 ∙ h (at + i) (omega arith) (omega arith) ∙ sym (get_or-take (word_bytes l) (drop at B) i 0 s ∙ get_or-drop at B i 0)))
  where
    min' : ℕ → ℕ
    min' n = Prim.Native.Nat.min (word_bytes l) n

module _ (B : List ℕ) (at l : ℕ) (fits : at + word_bytes l ≤ length B) where
  head-size : length (take at B) ≡ at
  head-size = length-take-le at B (omega arith)

  chunk-size : length (take (word_bytes l) (drop at B)) ≡ word_bytes l
  chunk-size = length-take-le (word_bytes l) (drop at B) (omega (arith, length-drop at B))

  apart : B ≡ take at B ++ (take (word_bytes l) (drop at B) ++ drop (at + word_bytes l) B)
  apart = sym (ap (λ (X : List ℕ). take at B ++ X) (ap (λ (X : List ℕ). take (word_bytes l) (drop at B) ++ X) (sym (drop-drop (word_bytes l) at B)) ∙ take-append-drop (word_bytes l) (drop at B)) ∙ take-append-drop at B)

  pub length-with : (x : ℕ) → length (with_word B at l x) ≡ length B
  unfolding with_word
  length-with x =
      let s = length-word l x in
      let h = head-size in
      rw (length-append (take at B) (word_to_bytes l x ++ drop (at + word_bytes l) B), length-append (word_to_bytes l x) (drop (at + word_bytes l) B), length-drop (at + word_bytes l) B) (omega arith)

  -- The bytes of the word, and those outside.
  pub with-inside : (x i : ℕ) → i < word_bytes l → get_or (with_word B at l x) (at + i) 0 ≡ get_or (word_to_bytes l x) i 0
  unfolding with_word
  with-inside x i h =
      ap (λ (n : ℕ). get_or (take at B ++ (word_to_bytes l x ++ drop (at + word_bytes l) B)) (n + i) 0) (sym head-size)
      ∙ get_or-append-add (take at B) (word_to_bytes l x ++ drop (at + word_bytes l) B) i 0 ∙ get_or-append (word_to_bytes l x) (drop (at + word_bytes l) B) 0 i (omega (arith, length-word l x))

  with-before : (x i : ℕ) → i < at → get_or (with_word B at l x) i 0 ≡ get_or B i 0
  unfolding with_word
  with-before x i h = get_or-append (take at B) (word_to_bytes l x ++ drop (at + word_bytes l) B) 0 i (omega (arith, head-size)) ∙ get_or-take at B i 0 h

  with-after : (x i : ℕ) → at + word_bytes l ≤ i → get_or (with_word B at l x) i 0 ≡ get_or B i 0
  unfolding with_word
  with-after x i h =
      let k : ℕ = i - (at + word_bytes l) in
      let hs = head-size in
      let ws = length-word l x in
      let e : i ≡ length (take at B) + (length (word_to_bytes l x) + k) = omega arith in
      let f : at + word_bytes l + k ≡ i = omega arith in
      ap (λ (n : ℕ). get_or (take at B ++ (word_to_bytes l x ++ drop (at + word_bytes l) B)) n 0) e
      ∙ get_or-append-add (take at B) (word_to_bytes l x ++ drop (at + word_bytes l) B) (length (word_to_bytes l x) + k) 0
      ∙ get_or-append-add (word_to_bytes l x) (drop (at + word_bytes l) B) k 0 ∙ get_or-drop (at + word_bytes l) B k 0 ∙ ap (λ (n : ℕ). get_or B n 0) f

  pub with-outside : (x i : ℕ) → (at ≤ i → i < at + word_bytes l → ⊥) → get_or (with_word B at l x) i 0 ≡ get_or B i 0
  with-outside x i n = ⊎_elim
      (λ e. with-after x i (⊎_elim (λ f. omega arith) (λ p. absurd (n (omega arith) (omega arith))) (eq-zero-or-pos (at + word_bytes l - i))))
      (λ p. with-before x i (omega arith))
      (eq-zero-or-pos (at - i))

  pub word-with : (x : ℕ) → word_in (with_word B at l x) at l ≡ x % 2 ^ (8 * word_bytes l)
  unfolding word_in with_word
  word-with x =
      ap word_from_bytes (ap (take (word_bytes l)) (drop_at (take at B) (word_to_bytes l x ++ drop (at + word_bytes l) B) at head-size)
      ∙ take_at (word_to_bytes l x) (drop (at + word_bytes l) B) (word_bytes l) (length-word l x)) ∙ from-to l x

  pub with-with : (x y : ℕ) → with_word (with_word B at l x) at l y ≡ with_word B at l y
  unfolding with_word
  with-with x y =
      let A : List ℕ = take at B ++ (word_to_bytes l x ++ drop (at + word_bytes l) B) in
      let f : drop (at + word_bytes l) A ≡ drop (at + word_bytes l) B = sym (drop-drop (word_bytes l) at A) ∙ ap (drop (word_bytes l)) (drop_at (take at B) (word_to_bytes l x ++ drop (at + word_bytes l) B) at head-size) ∙ drop_at (word_to_bytes l x) (drop (at + word_bytes l) B) (word_bytes l) (length-word l x) in
      ap₂ (λ (X Y : List ℕ). X ++ (word_to_bytes l y ++ Y)) (take_at (take at B) (word_to_bytes l x ++ drop (at + word_bytes l) B) at head-size) f

  -- A word elsewhere.
  pub word-apart : (x at' l' : ℕ) → (at + word_bytes l ≤ at') ⊎ (at' + word_bytes l' ≤ at) → word_in (with_word B at l x) at' l' ≡ word_in B at' l'
  word-apart x at' l' p = word_same (with_word B at l x) B at' l' (length-with x) (λ i g h. with-outside x i (λ q r. ⊎_elim (λ s. omega arith) (λ s. omega arith) p))

  module _ (bytes : Bytes B) where
    chunk_bytes : Bytes (take (word_bytes l) (drop at B))
    chunk_bytes = bytes_take (drop at B) (word_bytes l) (bytes_drop B at bytes)

    pub word_lt : word_in B at l < 2 ^ (8 * word_bytes l)
    unfolding word_in
    word_lt = from-lt l (take (word_bytes l) (drop at B)) chunk_bytes chunk-size

    pub with-word : with_word B at l (word_in B at l) ≡ B
    unfolding word_in with_word
    with-word = ap (λ (X : List ℕ). take at B ++ (X ++ drop (at + word_bytes l) B)) (to-from l (take (word_bytes l) (drop at B)) chunk_bytes chunk-size) ∙ sym apart

    pub bytes-with : (x : ℕ) → Bytes (with_word B at l x)
    unfolding with_word
    bytes-with x = bytes-append (take at B) (word_to_bytes l x ++ drop (at + word_bytes l) B) (bytes_take B at bytes) (bytes-append (word_to_bytes l x) (drop (at + word_bytes l) B) (bytes_word l x) (bytes_drop B (at + word_bytes l) bytes))

    pub digit-in : (j : ℕ) → j < word_bytes l → get_or B (at + position l j) 0 ≡ word_in B at l / 2 ^ (8 * j) % 2 ^ 8
    unfolding word_in
    digit-in j h =
        sym (from-digit l (take (word_bytes l) (drop at B)) chunk_bytes chunk-size j h ∙ get_or-take (word_bytes l) (drop at B) (position l j) 0 (position-lt l j h) ∙ get_or-drop at B (position l j) 0)

    pub bit_in : (k : ℕ) → k < 8 * word_bytes l → bit_of (word_in B at l) k ≡ bit_of (get_or B (at + position l (k / 8)) 0) (k % 8)
    bit_in k h =
        let s : k ≡ 8 * (k / 8) + k % 8 = omega arith in
        ap (bit_of (word_in B at l)) s ∙ sym (part-bit (word_in B at l) (8 * (k / 8)) 8 (k % 8) (omega arith)) ∙ ap (λ (n : ℕ). bit_of n (k % 8)) (sym (digit-in (k / 8) (omega arith)))

    pub bit-beyond : (k : ℕ) → 8 * word_bytes l ≤ k → bit_of (word_in B at l) k ≡ 0
    bit-beyond k h = bit-none (8 * word_bytes l) k word_lt h

    -- A byte put is a digit of the word replaced.
    pub set-digit : (j y : ℕ) → j < word_bytes l → y < 256 → set B (at + position l j) y ≡ with_word B at l (replaced (word_in B at l) (8 * j) 8 y)
    unfolding word_in with_word
    set-digit j y h small =
        let cs : List ℕ = take (word_bytes l) (drop at B) in
        let tl : List ℕ = drop (at + word_bytes l) B in
        let p : position l j < length cs = omega (arith, position-lt l j h, chunk-size) in
        ap₂ (λ (X : List ℕ) (n : ℕ). set X (n + position l j) y) apart (sym head-size) ∙ set-append-add (take at B) (cs ++ tl) (position l j) y
        ∙ ap (λ (X : List ℕ). take at B ++ X) (set-append_left cs tl (position l j) y p)
        ∙ ap (λ (X : List ℕ). take at B ++ (X ++ tl)) (sym (to-from l (set cs (position l j) y) (bytes-set cs (position l j) y chunk_bytes small) (length-set cs (position l j) y ∙ chunk-size))
        ∙ ap (word_to_bytes l) (from-set l cs chunk_bytes chunk-size j y h small))

    -- Bytes that are zero hold the number zero.
    pub word-zero : ((i : ℕ) → get_or B i 0 ≡ 0) → word_in B at l ≡ 0
    word-zero z = same_bits (word_in B at l) 0 (λ k. ⊎_elim
        (λ e. bit-beyond k (omega arith))
        (λ h. bit_in k (omega arith) ∙ ap (λ (n : ℕ). bit_of n (k % 8)) (z (at + position l (k / 8))) ∙ bit-none 0 (k % 8) (omega arith) (omega arith))
        (eq-zero-or-pos (8 * word_bytes l - k)) ∙ sym (bit-none 0 k (omega arith) (omega arith)))

-- Two words that lie apart are put in either order.
pub with-apart : (B : List ℕ) (at l at' l' x y : ℕ) → at + word_bytes l ≤ length B → at' + word_bytes l' ≤ length B → (at + word_bytes l ≤ at') ⊎ (at' + word_bytes l' ≤ at)
    → with_word (with_word B at l x) at' l' y ≡ with_word (with_word B at' l' y) at l x
with-apart B at l at' l' x y h h' p =
    ext_get_or 0 (with_word A at' l' y) (with_word A' at l x) (length-with A at' l' g' y ∙ long ∙ sym (length-with A' at l g x ∙ long')) (λ i q. go i (spot at (word_bytes l) i) (spot at' (word_bytes l') i))
  where
    A : List ℕ
    A = with_word B at l x

    A' : List ℕ
    A' = with_word B at' l' y

    long : length A ≡ length B
    long = length-with B at l h x

    long' : length A' ≡ length B
    long' = length-with B at' l' h' y

    g' : at' + word_bytes l' ≤ length A
    g' = omega (arith, long)

    g : at + word_bytes l ≤ length A'
    g = omega (arith, long')

    inner : (C : List ℕ) (at l x i : ℕ) → at + word_bytes l ≤ length C → at ≤ i → i < at + word_bytes l → get_or (with_word C at l x) i 0 ≡ get_or (word_to_bytes l x) (i - at) 0
    inner C at l x i f a b =
        let e : i ≡ at + (i - at) = omega arith in
        ap (λ (n : ℕ). get_or (with_word C at l x) n 0) e ∙ with-inside C at l f x (i - at) (omega arith)

    go : (i : ℕ) → Spot at (word_bytes l) i → Spot at' (word_bytes l') i → get_or (with_word A at' l' y) i 0 ≡ get_or (with_word A' at l x) i 0
    go i (within a b) (within c e) = absurd (⊎_elim (λ q. omega arith) (λ q. omega arith) p)
    go i (within a b) (outside n) = with-outside A at' l' g' y i n ∙ inner B at l x i h a b ∙ sym (inner A' at l x i g a b)
    go i (outside n) (within a b) = inner A at' l' y i g' a b ∙ sym (with-outside A' at l g x i n ∙ inner B at' l' y i h' a b)
    go i (outside n) (outside m) = with-outside A at' l' g' y i m ∙ with-outside B at l h x i n ∙ sym (with-outside A' at l g x i n ∙ with-outside B at' l' h' y i m)
