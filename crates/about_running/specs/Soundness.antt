-- A store and record that the test finds sound are sound, and a stimulus of the right form fits. Assumes nothing.
use Rattle.std.specs.Prelude.{Bool, false, cond, List, [], ◌∷◌, ◌≡◌, refl, ℕ, zero, suc, ◌+◌, ◌^◌, ◌≤◌, ◌<◌, eqb, drop, get_or, length}
use Rattle.std.proofs.Math.Bool.{true}
use Rattle.std.proofs.Common.{ap, arith}
use borrow.Author.Tests.{eqb-true, leb-true, ltb-true}
use Rattle.std.proofs.Math.Dec.{leb, ltb}
use Rattle.language.specs.Description.{Description, Facility, is_computed, word_count, word_length}
use Rattle.language.specs.Layout.{no_spare_bits, word_bytes, facility_bytes}
use Rattle.language.specs.RecordBytes.{record_from, returns_from, returns_sound, sound}
use Rattle.language.specs.Step.{Record}
use Rattle.language.specs.Ceilings.{most_returns}
use Rattle.language.specs.Store.{StoreWords, all_narrow, facility_words, from_bytes, narrow, words_from}
use Rattle.about_running.specs.Cycle.{Sound}
use Rattle.about_running.specs.Fitting.{AllBelow, Fit, stored}
use Rattle.about_running.specs.LegalForm.{left-of, right_of}

-- ---- StoreWords.

pub narrow_below : (l : ℕ) (ws : List ℕ) → all_narrow l ws ≡ true → AllBelow (2 ^ l) ws
unfolding all_narrow no_spare_bits
narrow_below l [] e = tt
narrow_below l (x ∷ xs) e = (ltb-true x (2 ^ l) (left-of (ltb x (2 ^ l)) _ e), narrow_below l xs (right_of (ltb x (2 ^ l)) _ e))

words_count : (n l : ℕ) (bs : List ℕ) → length (words_from n l bs) ≡ n
unfolding words_from
words_count zero l bs = refl
words_count (suc n) l bs = ap suc (words_count n l (drop (word_bytes l) bs))

row_count : (f : Facility) (bs : List ℕ) → length (facility_words f bs) ≡ stored f
unfolding stored
row_count f bs = go (is_computed f.kind)
  where
    go : (b : Bool) → length (cond b [] (words_from (word_count f) (word_length f) bs)) ≡ cond b 0 (word_count f)
    go true = refl
    go false = words_count (word_count f) (word_length f) bs

pub bytes_fit : (fs : List Facility) (bs : List ℕ) → narrow fs (from_bytes fs bs) ≡ true → Fit fs (from_bytes fs bs)
unfolding narrow from_bytes
bytes_fit [] bs e = tt
bytes_fit (f ∷ fs) bs e =
    let row = all_narrow (word_length f) (facility_words f bs) in (
      record { count = row_count f bs; small = narrow_below (word_length f) (facility_words f bs) (left-of row _ e) },
      bytes_fit fs (drop (facility_bytes f) bs) (right_of row _ e),
    )

-- ---- Return states.

held_in : (n k : ℕ) (rs : List ℕ) (i : ℕ) → returns_sound n k rs ≡ true → i < k → i < length rs → get_or rs i 0 < n
unfolding returns_sound
held_in n k [] i e h l = absurd (omega arith)
held_in n zero (x ∷ xs) i e h l = absurd (omega arith)
held_in n (suc k) (x ∷ xs) zero e h l = ltb-true x n (left-of (ltb x n) _ e)
held_in n (suc k) (x ∷ xs) (suc i) e h l = held_in n k xs i (right_of (ltb x n) _ e) (omega arith) (omega arith)

unused-zero : (n k : ℕ) (rs : List ℕ) (i : ℕ) → returns_sound n k rs ≡ true → k ≤ i → get_or rs i 0 ≡ 0
unfolding returns_sound
unused-zero n k [] i e h = refl
unused-zero n zero (x ∷ xs) zero e h = eqb-true x 0 (left-of (eqb x 0) _ e)
unused-zero n zero (x ∷ xs) (suc i) e h = unused-zero n zero xs i (right_of (eqb x 0) _ e) (omega arith)
unused-zero n (suc k) (x ∷ xs) zero e h = absurd (omega arith)
unused-zero n (suc k) (x ∷ xs) (suc i) e h = unused-zero n k xs i (right_of (ltb x n) _ e) (omega arith)

returns-count : (k at : ℕ) (bs : List ℕ) → length (returns_from k at bs) ≡ k
unfolding returns_from
returns-count zero at bs = refl
returns-count (suc k) at bs = ap suc (returns-count k (at + 4) bs)

module _ (d : Description) (store bytes : List ℕ) (is-sound : sound d (from_bytes d.facilities store) (record_from bytes) ≡ true) where
  abbrev there : Record
  there = record_from bytes

  abbrev words : StoreWords
  words = from_bytes d.facilities store

  places-so : length there.returns ≡ most_returns
  unfolding record_from
  places-so = returns-count most_returns 16 bytes

  pub sound-so : Sound d (from_bytes d.facilities store) (record_from bytes)
  unfolding sound
  sound-so =
      let state = ltb there.state (length d.states) in
      let most = leb there.held most_returns in
      let returns = returns_sound (length d.states) there.held there.returns in
      let e1 = right_of state _ is-sound in
      let e2 = right_of most _ e1 in
      let e3 = right_of returns _ e2 in
      let m : there.held ≤ most_returns = leb-true _ _ (left-of most _ e1) in
      let rs : returns_sound (length d.states) there.held there.returns ≡ true = left-of returns _ e2 in
      record {
        words = bytes_fit d.facilities store (left-of (narrow d.facilities words) _ e3);
        state-in = ltb-true there.state (length d.states) (left-of state _ is-sound);
        returns-in = record {
          places = places-so;
          most = m;
          states = λ i h. held_in (length d.states) there.held there.returns i rs h (omega (arith, places-so, m));
          zero-beyond = λ i h. unused-zero (length d.states) there.held there.returns i rs h;
        };
        register-so = right_of (narrow d.facilities words) _ e3;
      }
