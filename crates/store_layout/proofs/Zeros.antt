-- Bytes that are all zero are the store in which every word is zero. Assumes nothing.
use mathlib.Core.Path.{◌≡◌, refl, ap₂, ◌∙◌}
use mathlib.Core.Logic.{⊎_elim}
use mathlib.Core.Bool.{Bool, true, false, cond}
use mathlib.Core.List.{List, [], ◌∷◌}
use Prim.Native.Nat.{ℕ, zero, suc, ◌+◌, ◌-◌, ◌*◌, ◌≤◌}
use native.Mathlib.Nat.{eq-zero-or-pos, le_trans, suc-mul}
use native.Mathlib.Omega.{arith}
use lib.ListN.{get_or-eq_default, drop, get_or, length, length-drop, replicate}
use lib.Seq.{get_or-drop}
use Rattle.language.specs.Description.{Facility, is_computed, word_count, word_length}
use Rattle.language.specs.Layout.{facility_bytes, store_size_of, word_bytes}
use Rattle.language.specs.Store.{StoreWords, facility_words, from_bytes, word_of, words_from, zero_words}
use Rattle.store_layout.specs.Layout.{Bytes, word_in}
use Rattle.store_layout.proofs.ByteLists.{bytes_drop}
use Rattle.store_layout.proofs.StoreWords.{in-store, stored_of, word-from}
use Rattle.store_layout.proofs.Words.{word-zero}

abbrev pub Zeros : List ℕ → Type 0
Zeros B = (i : ℕ) → get_or B i 0 ≡ 0

zeros-drop : (B : List ℕ) (n : ℕ) → Zeros B → Zeros (drop n B)
zeros-drop B n z i = get_or-drop n B i 0 ∙ z (n + i)

words-zero : (n l : ℕ) (B : List ℕ) → Bytes B → Zeros B → n * word_bytes l ≤ length B → words_from n l B ≡ replicate n 0
unfolding words_from word_in
words-zero zero l B b z h = refl
words-zero (suc n) l B b z h =
    let e = suc-mul n (word_bytes l) in
    ap₂ (λ (x : ℕ) (xs : List ℕ). x ∷ xs) (word-zero B 0 l (omega arith) b z)
    (words-zero n l (drop (word_bytes l) B) (bytes_drop B (word_bytes l) b) (zeros-drop B (word_bytes l) z) (omega (arith, length-drop (word_bytes l) B)))

facility-zero : (f : Facility) (B : List ℕ) → Bytes B → Zeros B → facility_bytes f ≤ length B → facility_words f B ≡ cond (is_computed f.kind) [] (replicate (word_count f) 0)
unfolding facility_bytes
facility-zero f B b z h = go (is_computed f.kind) h
  where
    go : (c : Bool) → cond c 0 (word_count f * word_bytes (word_length f)) ≤ length B → cond c [] (words_from (word_count f) (word_length f) B) ≡ cond c [] (replicate (word_count f) 0)
    go true g = refl
    go false g = words-zero (word_count f) (word_length f) B b z g

pub store-zero : (fs : List Facility) (B : List ℕ) → Bytes B → Zeros B → store_size_of fs ≤ length B → from_bytes fs B ≡ zero_words fs
unfolding from_bytes store_size_of zero_words
store-zero [] B b z h = refl
store-zero (f ∷ fs) B b z h =
    ap₂ (λ (r : List ℕ) (s : StoreWords). r ∷ s) (facility-zero f B b z (omega arith))
    (store-zero fs (drop (facility_bytes f) B) (bytes_drop B (facility_bytes f) b) (zeros-drop B (facility_bytes f) z) (omega (arith, length-drop (facility_bytes f) B)))

-- Each word is zero, even one that is not there.
pub zero_word : (fs : List Facility) (B : List ℕ) → Bytes B → Zeros B → store_size_of fs ≤ length B → (f w : ℕ) → word_of (from_bytes fs B) f w ≡ 0
unfolding word_of
zero_word fs B b z room f w = ⊎_elim
    (λ o. get_or-eq_default (get_or (from_bytes fs B) f []) 0 {n = w} (omega arith))
    (λ h. let s = stored_of fs B f w (omega arith) in word-from fs B f w s ∙ word-zero B _ _ (le_trans (in-store fs f w s) room) b z)
    (eq-zero-or-pos (length (get_or (from_bytes fs B) f []) - w))
