-- StoreWords to bytes and back, and bytes to words and back. Assumes nothing.
use mathlib.Core.Path.{◌≡◌, refl, sym, ap, ap₂, ◌∙◌}
use mathlib.Core.Bool.{Bool, true, false, cond}
use mathlib.Core.List.{List, [], ◌∷◌, ◌++◌, append_assoc}
use Prim.Native.Nat.{ℕ, zero, suc, ◌+◌, ◌*◌, ◌^◌, ◌≤◌, ◌<◌}
use native.Mathlib.Nat.{lt_of_lt_of_le, mod-eq_of_lt, suc-mul, zero-mul}
use native.Mathlib.Omega.{arith}
use borrow.Author.Tests.{ltb-true}
use lib.ListN.{drop, length, length-append, length-drop, take}
use lib.Pow.{pow_mono}
use lib.Seq.{drop_at, length-take-le, take-add, take_at}
use Rattle.language.specs.Description.{Facility, is_computed, word_count, word_length}
use Rattle.language.specs.Layout.{facility_bytes, no_spare_bits, store_size_of, word_bytes, word_from_bytes, word_to_bytes}
use Rattle.language.specs.Store.{StoreWords, all_narrow, facility_words, from_bytes, narrow, to_bytes, words_from, words_to}
use Rattle.store_layout.specs.InBytes.{Shaped, row_length}
use Rattle.store_layout.specs.Layout.{Bytes}
use Rattle.store_layout.proofs.ByteLists.{bytes_drop, bytes_take}
use Rattle.store_layout.proofs.ByteOrder.{length-word, word_room}
use Rattle.store_layout.proofs.Words.{from-to, to-from}
use Rattle.language.specs.Tests.{both}

-- ---- From bytes, and back.

words_back : (n l : ℕ) (B : List ℕ) → Bytes B → n * word_bytes l ≤ length B → words_to l (words_from n l B) ≡ take (n * word_bytes l) B
unfolding words_to words_from
words_back zero l B b h = ap (λ (k : ℕ). take k B) (sym (zero-mul (word_bytes l)))
words_back (suc n) l B b h =
    let e : word_bytes l + n * word_bytes l ≡ suc n * word_bytes l = omega (arith, suc-mul n (word_bytes l)) in
    ap₂ (λ (X Y : List ℕ). X ++ Y)
    (to-from l (take (word_bytes l) B) (bytes_take B (word_bytes l) b) (length-take-le (word_bytes l) B (omega arith)))
    (words_back n l (drop (word_bytes l) B) (bytes_drop B (word_bytes l) b) (omega (arith, length-drop (word_bytes l) B)))
    ∙ sym (take-add (word_bytes l) (n * word_bytes l) B) ∙ ap (λ (k : ℕ). take k B) e

facility-back : (f : Facility) (B : List ℕ) → Bytes B → facility_bytes f ≤ length B → words_to (word_length f) (facility_words f B) ≡ take (facility_bytes f) B
unfolding facility_bytes words_to
facility-back f B b h = go (is_computed f.kind) h
  where
    go : (c : Bool) → cond c 0 (word_count f * word_bytes (word_length f)) ≤ length B
        → words_to (word_length f) (cond c [] (words_from (word_count f) (word_length f) B)) ≡ take (cond c 0 (word_count f * word_bytes (word_length f))) B
    go true g = refl
    go false g = words_back (word_count f) (word_length f) B b g

pub bytes-again : (fs : List Facility) (B : List ℕ) → Bytes B → store_size_of fs ≤ length B → to_bytes fs (from_bytes fs B) ≡ take (store_size_of fs) B
unfolding to_bytes from_bytes store_size_of
bytes-again [] B b h = refl
bytes-again (f ∷ fs) B b h =
    ap₂ (λ (X Y : List ℕ). X ++ Y) (facility-back f B b (omega arith))
    (bytes-again fs (drop (facility_bytes f) B) (bytes_drop B (facility_bytes f) b) (omega (arith, length-drop (facility_bytes f) B)))
    ∙ sym (take-add (facility_bytes f) (store_size_of fs) B)

-- ---- To bytes, and back.

pub both_true : (a b : Bool) → both a b ≡ true → (a ≡ true) × (b ≡ true)
both_true true b h = (refl, h)
both_true false b h = absurd (let z : ◌≡◌ {A = ℕ} 0 1 = cc in omega arith)

length-words-to : (l : ℕ) (ws : List ℕ) → length (words_to l ws) ≡ length ws * word_bytes l
unfolding words_to
length-words-to l [] = sym (zero-mul (word_bytes l))
length-words-to l (x ∷ ws) =
    let ih = length-words-to l ws in
    let e = suc-mul (length ws) (word_bytes l) in
    let w = length-word l x in
    length-append (word_to_bytes l x) (words_to l ws) ∙ omega arith

words-again : (l : ℕ) (ws rest : List ℕ) → all_narrow l ws ≡ true → words_from (length ws) l (words_to l ws ++ rest) ≡ ws
unfolding words_from words_to all_narrow no_spare_bits
words-again l [] rest h = refl
words-again l (x ∷ ws) rest h =
    let t = both_true (no_spare_bits l x) (all_narrow l ws) h in
    let s : (word_to_bytes l x ++ words_to l ws) ++ rest ≡ word_to_bytes l x ++ (words_to l ws ++ rest) = append_assoc (word_to_bytes l x) (words_to l ws) rest in
    let lt : x < 2 ^ (8 * word_bytes l) = lt_of_lt_of_le (ltb-true x (2 ^ l) t.0) (pow_mono (word_room l)) in
    ap₂ (λ (y : ℕ) (ys : List ℕ). y ∷ ys)
    (ap word_from_bytes (ap (take (word_bytes l)) s ∙ take_at (word_to_bytes l x) (words_to l ws ++ rest) (word_bytes l) (length-word l x)) ∙ from-to l x ∙ mod-eq_of_lt lt)
    (ap (words_from (length ws) l) (ap (drop (word_bytes l)) s ∙ drop_at (word_to_bytes l x) (words_to l ws ++ rest) (word_bytes l) (length-word l x)) ∙ words-again l ws rest t.1)

module _ (f : Facility) (ws rest : List ℕ) (size : length ws ≡ row_length f) where
  row-bytes : length (words_to (word_length f) ws) ≡ facility_bytes f
  unfolding facility_bytes row_length
  row-bytes = length-words-to (word_length f) ws ∙ ap (λ (n : ℕ). n * word_bytes (word_length f)) size ∙ go (is_computed f.kind)
    where
      go : (c : Bool) → cond c 0 (word_count f) * word_bytes (word_length f) ≡ cond c 0 (word_count f * word_bytes (word_length f))
      go true = zero-mul (word_bytes (word_length f))
      go false = refl

  row-again : all_narrow (word_length f) ws ≡ true → facility_words f (words_to (word_length f) ws ++ rest) ≡ ws
  unfolding row_length
  row-again h = go (is_computed f.kind) size
    where
      none : (vs : List ℕ) → length vs ≡ 0 → [] ≡ vs
      none [] e = refl
      none (v ∷ vs) e = absurd (omega arith)

      go : (c : Bool) → length ws ≡ cond c 0 (word_count f) → cond c [] (words_from (word_count f) (word_length f) (words_to (word_length f) ws ++ rest)) ≡ ws
      go true e = none ws e
      go false e = ap (λ (n : ℕ). words_from n (word_length f) (words_to (word_length f) ws ++ rest)) (sym e) ∙ words-again (word_length f) ws rest h

pub length_to : (fs : List Facility) (s : StoreWords) → Shaped fs s → length (to_bytes fs s) ≡ store_size_of fs
unfolding to_bytes store_size_of
length_to [] [] h = refl
length_to [] (ws ∷ s) h = absurd h
length_to (f ∷ fs) [] h = absurd h
length_to (f ∷ fs) (ws ∷ s) h = length-append (words_to (word_length f) ws) (to_bytes fs s) ∙ ap₂ (λ (m n : ℕ). m + n) (row-bytes f ws [] h.0) (length_to fs s h.1)

pub words_same : (fs : List Facility) (s : StoreWords) → Shaped fs s → narrow fs s ≡ true → from_bytes fs (to_bytes fs s) ≡ s
unfolding to_bytes from_bytes narrow
words_same [] [] h n = refl
words_same [] (ws ∷ s) h n = absurd h
words_same (f ∷ fs) [] h n = absurd h
words_same (f ∷ fs) (ws ∷ s) h n =
    let t = both_true (all_narrow (word_length f) ws) (narrow fs s) n in
    ap₂ (λ (r : List ℕ) (q : StoreWords). r ∷ q) (row-again f ws (to_bytes fs s) h.0 t.0)
    (ap (from_bytes fs) (drop_at (words_to (word_length f) ws) (to_bytes fs s) (facility_bytes f) (row-bytes f ws [] h.0)) ∙ words_same fs s h.1 t.1)
