-- The store as words: by its elements, and by the bytes that hold them. Assumes nothing.
use mathlib.Core.Path.{◌≡◌, refl, sym, ap, ◌∙◌, subst}
use mathlib.Core.Logic.{⊎_elim, ◌⊎◌, inl, inr}
use mathlib.Core.Bool.{Bool, true, false, cond}
use mathlib.Core.List.{List, [], ◌∷◌}
use Prim.Native.Nat.{ℕ, zero, suc, ◌+◌, ◌-◌, ◌*◌, ◌≤◌, ◌<◌}
use native.Mathlib.Nat.{eq-zero-or-pos, mul-le-mul_right, suc-mul, zero-mul}
use native.Mathlib.Omega.{arith}
use borrow.Author.Tests.{eqb-true, eqb-false}
use lib.Dec.{eqb}
use lib.ListN.{drop, get_or, length, length-set, set, take}
use lib.Seq.{drop-drop, ext_get_or, get_or-set_other, get_or-set_same}
use Rattle.language.specs.Description.{Facility, is_computed, no_facility, word_count, word_length}
use Rattle.language.specs.Layout.{facility_bytes, place_in, store_size_of, word_bytes, word_from_bytes}
use Rattle.language.specs.Store.{StoreWords, facility_words, from_bytes, set_word, word_of, words_from}
use Rattle.store_layout.specs.InBytes.{Shaped, Stored, place_of_word, row_length}
use Rattle.store_layout.specs.Layout.{word_in}

-- ---- StoreWords by their elements.

-- As many facilities, and as many words in each.
pub record Same (s t : StoreWords) : Type 0 where
  pub rows : length s ≡ length t
  pub words : (f : ℕ) → length (get_or s f []) ≡ length (get_or t f [])

pub words-ext : (s t : StoreWords) → Same s t → ((f w : ℕ) → w < length (get_or s f []) → word_of s f w ≡ word_of t f w) → s ≡ t
unfolding word_of
words-ext s t e h = ext_get_or [] s t e.rows (λ f g. ext_get_or 0 (get_or s f []) (get_or t f []) (e.words f) (λ w l. h f w l))

module _ (s : StoreWords) (f w x : ℕ) where
  row-set : f < length s → get_or (set_word s f w x) f [] ≡ set (get_or s f []) w x
  unfolding set_word
  row-set h = get_or-set_same s f (set (get_or s f []) w x) [] h

  row_other : (g : ℕ) → (g ≡ f → ⊥) → get_or (set_word s f w x) g [] ≡ get_or s g []
  unfolding set_word
  row_other g n = get_or-set_other s f g (set (get_or s f []) w x) [] n

  set-rows : length (set_word s f w x) ≡ length s
  unfolding set_word
  set-rows = length-set s f (set (get_or s f []) w x)

  pub same_set : f < length s → Same (set_word s f w x) s
  same_set h = record { rows = set-rows; words = λ g. go g (eqb g f) refl }
    where
      go : (g : ℕ) (b : Bool) → eqb g f ≡ b → length (get_or (set_word s f w x) g []) ≡ length (get_or s g [])
      go g true e = rw (eqb-true g f e) (ap length (row-set h) ∙ length-set (get_or s f []) w x)
      go g false e = ap length (row_other g (eqb-false g f e))

  pub word_set : f < length s → w < length (get_or s f []) → word_of (set_word s f w x) f w ≡ x
  unfolding word_of
  word_set h l = ap (λ (r : List ℕ). get_or r w 0) (row-set h) ∙ get_or-set_same (get_or s f []) w x 0 l

  pub word-other : f < length s → (g v : ℕ) → (g ≡ f → v ≡ w → ⊥) → word_of (set_word s f w x) g v ≡ word_of s g v
  unfolding word_of
  word-other h g v n = go (eqb g f) refl
    where
      go : (b : Bool) → eqb g f ≡ b → get_or (get_or (set_word s f w x) g []) v 0 ≡ get_or (get_or s g []) v 0
      go true e =
          let p : g ≡ f = eqb-true g f e in
          rw p (ap (λ (r : List ℕ). get_or r v 0) (row-set h) ∙ get_or-set_other (get_or s f []) w v x 0 (λ q. n p q))
      go false e = ap (λ (r : List ℕ). get_or r v 0) (row_other g (eqb-false g f e))

-- ---- StoreWords by their bytes.

word-drop : (B : List ℕ) (k at l : ℕ) → word_in (drop k B) at l ≡ word_in B (k + at) l
unfolding word_in
word-drop B k at l = ap (λ (X : List ℕ). word_from_bytes (take (word_bytes l) X)) (drop-drop at k B)

pub length-words : (n l : ℕ) (B : List ℕ) → length (words_from n l B) ≡ n
unfolding words_from
length-words zero l B = refl
length-words (suc n) l B = ap suc (length-words n l (drop (word_bytes l) B))

words-at : (n l : ℕ) (B : List ℕ) (w : ℕ) → w < n → get_or (words_from n l B) w 0 ≡ word_in B (w * word_bytes l) l
unfolding words_from word_in
words-at zero l B w h = absurd (omega arith)
words-at (suc n) l B zero h = ap (λ (k : ℕ). word_in B k l) (sym (zero-mul (word_bytes l)))
words-at (suc n) l B (suc w) h =
    let e : word_bytes l + w * word_bytes l ≡ suc w * word_bytes l = omega (arith, suc-mul w (word_bytes l)) in
    words-at n l (drop (word_bytes l) B) w (omega arith) ∙ word-drop B (word_bytes l) (w * word_bytes l) l ∙ ap (λ (k : ℕ). word_in B k l) e

facility-length : (f : Facility) (B : List ℕ) → length (facility_words f B) ≡ row_length f
unfolding row_length
facility-length f B = go (is_computed f.kind)
  where
    go : (b : Bool) → length (cond b [] (words_from (word_count f) (word_length f) B)) ≡ cond b 0 (word_count f)
    go true = refl
    go false = length-words (word_count f) (word_length f) B

pub length_from : (fs : List Facility) (B : List ℕ) → length (from_bytes fs B) ≡ length fs
unfolding from_bytes
length_from [] B = refl
length_from (f ∷ fs) B = ap suc (length_from fs (drop (facility_bytes f) B))

pub row_at : (fs : List Facility) (B : List ℕ) (n : ℕ) → n < length fs → get_or (from_bytes fs B) n [] ≡ facility_words (get_or fs n no_facility) (drop (place_in fs n) B)
unfolding from_bytes place_in
row_at [] B n h = absurd (omega arith)
row_at (f ∷ fs) B zero h = refl
row_at (f ∷ fs) B (suc n) h =
    row_at fs (drop (facility_bytes f) B) n (omega arith) ∙ ap (facility_words (get_or fs n no_facility)) (drop-drop (place_in fs n) (facility_bytes f) B)

pub shaped_from : (fs : List Facility) (B : List ℕ) → Shaped fs (from_bytes fs B)
unfolding from_bytes
shaped_from [] B = tt
shaped_from (f ∷ fs) B = (facility-length f B, shaped_from fs (drop (facility_bytes f) B))

no_row : (fs : List Facility) (B : List ℕ) (n : ℕ) → length fs ≤ n → get_or (from_bytes fs B) n [] ≡ []
unfolding from_bytes
no_row [] B n h = refl
no_row (f ∷ fs) B zero h = absurd (omega arith)
no_row (f ∷ fs) B (suc n) h = no_row fs (drop (facility_bytes f) B) n (omega arith)

pub row-length : (fs : List Facility) (B : List ℕ) (n : ℕ) → n < length fs → length (get_or (from_bytes fs B) n []) ≡ row_length (get_or fs n no_facility)
row-length fs B n h = ap length (row_at fs B n h) ∙ facility-length (get_or fs n no_facility) (drop (place_in fs n) B)

-- The shape is the facilities', whatever the bytes.
pub same_from : (fs : List Facility) (A B : List ℕ) → Same (from_bytes fs A) (from_bytes fs B)
same_from fs A B = record {
  rows = length_from fs A ∙ sym (length_from fs B);
  words = λ n. ⊎_elim
      (λ e. ap length (no_row fs A n (omega arith) ∙ sym (no_row fs B n (omega arith))))
      (λ l. row-length fs A n (omega arith) ∙ sym (row-length fs B n (omega arith)))
      (eq-zero-or-pos (length fs - n));
}

stored-length : (fs : List Facility) (B : List ℕ) (f w : ℕ) → Stored fs f w → w < length (get_or (from_bytes fs B) f [])
unfolding row_length
stored-length fs B f w s =
    subst (λ (n : ℕ). w < n) (sym (row-length fs B f s.there ∙ ap (λ (b : Bool). cond b 0 (word_count (get_or fs f no_facility))) s.kept)) s.below

pub in_row : (fs : List Facility) (B : List ℕ) (f w : ℕ) → Stored fs f w → (f < length (from_bytes fs B)) × (w < length (get_or (from_bytes fs B) f []))
in_row fs B f w s = (omega (arith, length_from fs B, s.there), stored-length fs B f w s)

pub stored_of : (fs : List Facility) (B : List ℕ) (f w : ℕ) → w < length (get_or (from_bytes fs B) f []) → Stored fs f w
unfolding row_length
stored_of fs B f w h = ⊎_elim
    (λ e. absurd (let z = ap length (no_row fs B f (omega arith)) in omega arith))
    (λ l. go (omega arith) (is_computed (get_or fs f no_facility).kind) refl)
    (eq-zero-or-pos (length fs - f))
  where
    go : f < length fs → (b : Bool) → is_computed (get_or fs f no_facility).kind ≡ b → Stored fs f w
    go l true e = absurd (let z = row-length fs B f l ∙ ap (λ (b : Bool). cond b 0 (word_count (get_or fs f no_facility))) e in omega arith)
    go l false e = record { there = l; kept = e; below = let z = row-length fs B f l ∙ ap (λ (b : Bool). cond b 0 (word_count (get_or fs f no_facility))) e in omega arith }

pub word-from : (fs : List Facility) (B : List ℕ) (f w : ℕ) → Stored fs f w → word_of (from_bytes fs B) f w ≡ word_in B (place_of_word fs f w) (word_length (get_or fs f no_facility))
unfolding word_of place_of_word
word-from fs B f w s =
    let g : Facility = get_or fs f no_facility in
    let l : ℕ = word_length g in
    ap (λ (r : List ℕ). get_or r w 0) (row_at fs B f s.there ∙ ap (λ (b : Bool). cond b [] (words_from (word_count g) l (drop (place_in fs f) B))) s.kept)
    ∙ words-at (word_count g) l (drop (place_in fs f) B) w s.below ∙ word-drop B (place_in fs f) (w * word_bytes l) l

-- ---- StoreWords lie apart, and in the store.

stored_bytes : (fs : List Facility) (f w : ℕ) → Stored fs f w → facility_bytes (get_or fs f no_facility) ≡ word_count (get_or fs f no_facility) * word_bytes (word_length (get_or fs f no_facility))
unfolding facility_bytes
stored_bytes fs f w s = ap (λ (b : Bool). cond b 0 (word_count (get_or fs f no_facility) * word_bytes (word_length (get_or fs f no_facility)))) s.kept

place_end : (fs : List Facility) (f : ℕ) → f < length fs → place_in fs f + facility_bytes (get_or fs f no_facility) ≤ store_size_of fs
unfolding place_in store_size_of
place_end [] f h = absurd (omega arith)
place_end (c ∷ fs) zero h = omega arith
place_end (c ∷ fs) (suc f) h = let k = place_end fs f (omega arith) in omega arith

place-apart : (fs : List Facility) (f g : ℕ) → f < g → g < length fs → place_in fs f + facility_bytes (get_or fs f no_facility) ≤ place_in fs g
unfolding place_in
place-apart [] f g h l = absurd (omega arith)
place-apart (c ∷ fs) zero zero h l = absurd (omega arith)
place-apart (c ∷ fs) (suc f) zero h l = absurd (omega arith)
place-apart (c ∷ fs) zero (suc g) h l = omega arith
place-apart (c ∷ fs) (suc f) (suc g) h l = let k = place-apart fs f g (omega arith) (omega arith) in omega arith

next_word : (k i j : ℕ) → i < j → i * k + k ≤ j * k
next_word k i j h = rw suc-mul at (mul-le-mul_right {m = suc i} {n = j} k h)

module _ (fs : List Facility) where
  pub in-store : (f w : ℕ) → Stored fs f w → place_of_word fs f w + word_bytes (word_length (get_or fs f no_facility)) ≤ store_size_of fs
  unfolding place_of_word
  in-store f w s =
      let a = place_end fs f s.there in
      let b = next_word (word_bytes (word_length (get_or fs f no_facility))) w (word_count (get_or fs f no_facility)) s.below in
      let e = stored_bytes fs f w s in
      omega arith

  same-facility : (f i j : ℕ) → i < j → place_of_word fs f i + word_bytes (word_length (get_or fs f no_facility)) ≤ place_of_word fs f j
  unfolding place_of_word
  same-facility f i j h = let b = next_word (word_bytes (word_length (get_or fs f no_facility))) i j h in omega arith

  two-facilities : (f i g j : ℕ) → f < g → Stored fs f i → Stored fs g j → place_of_word fs f i + word_bytes (word_length (get_or fs f no_facility)) ≤ place_of_word fs g j
  unfolding place_of_word
  two-facilities f i g j h s t =
      let a = place-apart fs f g h t.there in
      let b = next_word (word_bytes (word_length (get_or fs f no_facility))) i (word_count (get_or fs f no_facility)) s.below in
      let e = stored_bytes fs f i s in
      omega arith

  -- Of two different words one ends before the other begins.
  pub words-apart : (f i g j : ℕ) → Stored fs f i → Stored fs g j → (g ≡ f → j ≡ i → ⊥)
      → (place_of_word fs f i + word_bytes (word_length (get_or fs f no_facility)) ≤ place_of_word fs g j) ⊎ (place_of_word fs g j + word_bytes (word_length (get_or fs g no_facility)) ≤ place_of_word fs f i)
  words-apart f i g j s t n = ⊎_elim
      (λ e. ⊎_elim (λ e'. within-one (omega arith)) (λ l. inl (two-facilities f i g j (omega arith) s t)) (eq-zero-or-pos (g - f)))
      (λ l. inr (two-facilities g j f i (omega arith) t s))
      (eq-zero-or-pos (f - g))
    where
      within-one : g ≡ f → (place_of_word fs f i + word_bytes (word_length (get_or fs f no_facility)) ≤ place_of_word fs g j) ⊎ (place_of_word fs g j + word_bytes (word_length (get_or fs g no_facility)) ≤ place_of_word fs f i)
      within-one e = rw e (⊎_elim
          (λ p. inl (same-facility f i j (⊎_elim (λ q. absurd (n e (omega arith))) (λ q. omega arith) (eq-zero-or-pos (j - i)))))
          (λ l. inr (same-facility f j i (omega arith)))
          (eq-zero-or-pos (i - j)))

-- ---- Where one word alone has changed, that word is set.

module _ (fs : List Facility) (A B : List ℕ) (f w x : ℕ) (here : Stored fs f w) (put : word_of (from_bytes fs A) f w ≡ x)
    (kept : (g j : ℕ) → Stored fs g j → (g ≡ f → j ≡ w → ⊥) → word_of (from_bytes fs A) g j ≡ word_of (from_bytes fs B) g j) where
  pub one_set : from_bytes fs A ≡ set_word (from_bytes fs B) f w x
  one_set = words-ext (from_bytes fs A) after shape (λ g j h. word g j (stored_of fs A g j h) (eqb g f) refl (eqb j w) refl)
    where
      after : StoreWords
      after = set_word (from_bytes fs B) f w x

      row : (f < length (from_bytes fs B)) × (w < length (get_or (from_bytes fs B) f []))
      row = in_row fs B f w here

      shape : Same (from_bytes fs A) after
      shape =
          let s = same_from fs A B in
          let t = same_set (from_bytes fs B) f w x row.0 in
          record { rows = s.rows ∙ sym t.rows; words = λ g. s.words g ∙ sym (t.words g) }

      other : (g j : ℕ) → Stored fs g j → (g ≡ f → j ≡ w → ⊥) → word_of (from_bytes fs A) g j ≡ word_of after g j
      other g j s n = kept g j s n ∙ sym (word-other (from_bytes fs B) f w x row.0 g j n)

      word : (g j : ℕ) → Stored fs g j → (a : Bool) → eqb g f ≡ a → (b : Bool) → eqb j w ≡ b → word_of (from_bytes fs A) g j ≡ word_of after g j
      word g j s true p true q = rw (eqb-true g f p, eqb-true j w q) (put ∙ sym (word_set (from_bytes fs B) f w x row.0 row.1))
      word g j s true p false q = other g j s (λ h k. eqb-false j w q k)
      word g j s false p b q = other g j s (λ h k. eqb-false g f p h)
