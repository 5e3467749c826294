-- The bytes that a cycle begins with are those of the words that it begins with. Assumes nothing.
use mathlib.Core.Bool.{Bool, true, false, cond}
use mathlib.Core.List.{List, [], ◌∷◌, ◌++◌}
use mathlib.Core.Path.{◌≡◌, refl, sym, ap, ap₂, ◌∙◌, subst}
use Prim.Native.Nat.{ℕ, zero, suc, ◌+◌, ◌*◌, ◌≤◌}
use native.Mathlib.Nat.{suc-mul}
use native.Mathlib.Omega.{arith}
use lib.ListN.{drop, length, length-append, length-drop, length-replicate, replicate, take, take-append-drop}
use lib.Seq.{drop-append-le, drop_at, drop-drop, length-take-le, take-append-le}
use Rattle.language.specs.Calls.{over}
use Rattle.language.specs.Description.{Facility, is_computed, word_count, word_length}
use Rattle.language.specs.Layout.{facility_bytes, store_size_of, word_bytes, word_from_bytes}
use Rattle.language.specs.Store.{StoreWords, begin, begun, facility_words, from_bytes, head_of, inputs_of, is_input, to_bytes, words_from, zero_words}
use Rattle.language.specs.Tree.{Kind, computed, input, memory, plain, register, sequencing}
use Rattle.store_layout.proofs.ByteLists.{bytes-append, bytes_drop}
use Rattle.store_layout.proofs.Inverse.{bytes-again}
use Rattle.store_layout.proofs.Zeros.{store-zero}
use Rattle.store_layout.specs.Layout.{Bytes}
use Rattle.run_begin.proofs.BeginLaws.{Room, begun-bytes, begun-length, bytes-zeros, zeros}
use Rattle.run_begin.proofs.SizeLaws.{input-not, input-whole}
use Rattle.run_begin.specs.InBytes.{begin_bytes, bytes_begun, input_bytes}

-- ---- The words of one facility.

-- What lies behind its bytes does not matter.
words-front : (m l : ℕ) (A rest : List ℕ) → m * word_bytes l ≤ length A → words_from m l (A ++ rest) ≡ words_from m l A
unfolding words_from
words-front zero l A rest h = refl
words-front (suc m) l A rest h =
    let e = suc-mul m (word_bytes l) in
    let a : word_bytes l ≤ length A = omega (arith, h, e) in
    ap₂ (λ (x : ℕ) (xs : List ℕ). x ∷ xs) (ap word_from_bytes (take-append-le (word_bytes l) A rest a))
    (ap (words_from m l) (drop-append-le (word_bytes l) A rest a) ∙ words-front m l (drop (word_bytes l) A) rest (omega (arith, h, e, length-drop (word_bytes l) A)))

facility-front : (f : Facility) (A rest : List ℕ) → facility_bytes f ≤ length A → facility_words f (A ++ rest) ≡ facility_words f A
unfolding facility_bytes
facility-front f A rest h = by_kind (is_computed f.kind) h
  where
    by_kind : (b : Bool) → cond b 0 (word_count f * word_bytes (word_length f)) ≤ length A
        → cond b [] (words_from (word_count f) (word_length f) (A ++ rest)) ≡ cond b [] (words_from (word_count f) (word_length f) A)
    by_kind true g = refl
    by_kind false g = words-front (word_count f) (word_length f) A rest g

facility-taken : (f : Facility) (B : List ℕ) → facility_bytes f ≤ length B → facility_words f (take (facility_bytes f) B) ≡ facility_words f B
facility-taken f B h =
    let n = facility_bytes f in
    sym (facility-front f (take n B) (drop n B) (omega (arith, length-take-le n B h))) ∙ ap (facility_words f) (take-append-drop n B)

facility-cleared : (f : Facility) → is_computed f.kind ≡ false → facility_words f (replicate (facility_bytes f) 0) ≡ replicate (word_count f) 0
unfolding from_bytes store_size_of zero_words
facility-cleared f e =
    let n = facility_bytes f in
    let Z : List ℕ = replicate n 0 in
    let l : length Z ≡ n = length-replicate n 0 in
    ap head_of (store-zero (f ∷ []) Z (bytes-zeros n) (zeros n) (omega (arith, l))) ∙ ap (λ (b : Bool). cond b [] (replicate (word_count f) 0)) e

facility-begun : (f : Facility) (B S : List ℕ) (ins : StoreWords) → Room f.kind (facility_bytes f) B S → (is_input f.kind ≡ true → head_of ins ≡ facility_words f S)
    → facility_words f (bytes_begun f.kind (facility_bytes f) B S) ≡ begun f.kind f (facility_words f B) ins
facility-begun f B S ins = by_kind f.kind refl
  where
    by_kind : (k : Kind) → f.kind ≡ k → Room k (facility_bytes f) B S → (is_input k ≡ true → head_of ins ≡ facility_words f S)
        → facility_words f (bytes_begun k (facility_bytes f) B S) ≡ begun k f (facility_words f B) ins
    by_kind register e r i = facility-taken f B r.store
    by_kind sequencing e r i = facility-taken f B r.store
    by_kind memory e r i = facility-taken f B r.store
    by_kind plain e r i = facility-cleared f (ap is_computed e)
    by_kind input e r i = facility-taken f S (r.stimulus refl) ∙ sym (i refl)
    by_kind computed e r i = facility-taken f B r.store

-- ---- The stimulus, facility by facility.

module _ (f : Facility) (fs : List Facility) where
  inputs_in : is_input f.kind ≡ true → inputs_of (f ∷ fs) ≡ f ∷ inputs_of fs
  unfolding inputs_of
  inputs_in e = rw e refl

  inputs-out : is_input f.kind ≡ false → inputs_of (f ∷ fs) ≡ inputs_of fs
  unfolding inputs_of
  inputs-out e = rw e refl

  pub inputs-size : store_size_of (inputs_of (f ∷ fs)) ≡ input_bytes f + store_size_of (inputs_of fs)
  unfolding store_size_of
  inputs-size = by_kind (is_input f.kind) refl
    where
      by_kind : (b : Bool) → is_input f.kind ≡ b → store_size_of (inputs_of (f ∷ fs)) ≡ input_bytes f + store_size_of (inputs_of fs)
      by_kind true e = ap store_size_of (inputs_in e) ∙ ap (λ (n : ℕ). n + store_size_of (inputs_of fs)) (sym (input-whole f e))
      by_kind false e = let z = input-not f e in ap store_size_of (inputs-out e) ∙ omega (arith, z)

  module _ (S : List ℕ) where
    inputs-head : is_input f.kind ≡ true → head_of (from_bytes (inputs_of (f ∷ fs)) S) ≡ facility_words f S
    unfolding from_bytes
    inputs-head e = ap (λ (gs : List Facility). head_of (from_bytes gs S)) (inputs_in e)

    inputs-tail : from_bytes (inputs_of fs) (drop (input_bytes f) S) ≡ cond (is_input f.kind) (drop 1 (from_bytes (inputs_of (f ∷ fs)) S)) (from_bytes (inputs_of (f ∷ fs)) S)
    unfolding from_bytes
    inputs-tail = by_kind (is_input f.kind) refl
      where
        by_kind : (b : Bool) → is_input f.kind ≡ b → from_bytes (inputs_of fs) (drop (input_bytes f) S) ≡ cond b (drop 1 (from_bytes (inputs_of (f ∷ fs)) S)) (from_bytes (inputs_of (f ∷ fs)) S)
        by_kind true e = ap (λ (n : ℕ). from_bytes (inputs_of fs) (drop n S)) (input-whole f e) ∙ sym (ap (λ (gs : List Facility). drop 1 (from_bytes gs S)) (inputs_in e))
        by_kind false e = ap (λ (n : ℕ). from_bytes (inputs_of fs) (drop n S)) (sym (input-not f e)) ∙ sym (ap (λ (gs : List Facility). from_bytes gs S) (inputs-out e))

-- ---- All facilities.

-- Store and stimulus have room for them.
pub record Rooms (fs : List Facility) (B S : List ℕ) : Type 0 where
  pub store : store_size_of fs ≤ length B
  pub stimulus : store_size_of (inputs_of fs) ≤ length S

module _ (f : Facility) (fs : List Facility) (B S : List ℕ) (r : Rooms (f ∷ fs) B S) where
  room-first : Room f.kind (facility_bytes f) B S
  unfolding store_size_of
  room-first = record { store = omega (arith, r.store); stimulus = λ e. omega (arith, r.stimulus, inputs-size f fs, input-whole f e) }

  rooms-more : Rooms fs (drop (facility_bytes f) B) (drop (input_bytes f) S)
  unfolding store_size_of
  rooms-more = record {
    store = omega (arith, r.store, length-drop (facility_bytes f) B);
    stimulus = omega (arith, r.stimulus, inputs-size f fs, length-drop (input_bytes f) S);
  }

  abbrev X : List ℕ
  X = bytes_begun f.kind (facility_bytes f) B S

  first-length : length X ≡ facility_bytes f
  first-length = begun-length f.kind (facility_bytes f) B S room-first

  first-words : (rest : List ℕ) → facility_words f (X ++ rest) ≡ begun f.kind f (facility_words f B) (from_bytes (inputs_of (f ∷ fs)) S)
  first-words rest = facility-front f X rest (omega (arith, first-length)) ∙ facility-begun f B S (from_bytes (inputs_of (f ∷ fs)) S) room-first (inputs-head f fs S)

  first_rest : (rest : List ℕ) → drop (facility_bytes f) (X ++ rest) ≡ rest
  first_rest rest = drop_at X rest (facility_bytes f) first-length

pub begin-words : (fs : List Facility) (B S : List ℕ) → Rooms fs B S → from_bytes fs (begin_bytes fs B S) ≡ begin fs (from_bytes fs B) (from_bytes (inputs_of fs) S)
unfolding from_bytes begin_bytes begin
begin-words [] B S r = refl
begin-words (f ∷ fs) B S r =
    let rest = begin_bytes fs (drop (facility_bytes f) B) (drop (input_bytes f) S) in
    ap₂ (λ (x : List ℕ) (xs : StoreWords). x ∷ xs) (first-words f fs B S r rest)
    (ap (from_bytes fs) (first_rest f fs B S r rest)
    ∙ (begin-words fs (drop (facility_bytes f) B) (drop (input_bytes f) S) (rooms-more f fs B S r)
    ∙ ap (begin fs (from_bytes fs (drop (facility_bytes f) B))) (inputs-tail f fs S)))

pub begin-length : (fs : List Facility) (B S : List ℕ) → Rooms fs B S → length (begin_bytes fs B S) ≡ length B
unfolding begin_bytes
begin-length [] B S r = refl
begin-length (f ∷ fs) B S r =
    let rest = begin_bytes fs (drop (facility_bytes f) B) (drop (input_bytes f) S) in
    let i = begin-length fs (drop (facility_bytes f) B) (drop (input_bytes f) S) (rooms-more f fs B S r) in
    length-append (X f fs B S r) rest ∙ omega (arith, i, first-length f fs B S r, length-drop (facility_bytes f) B, (room-first f fs B S r).store)

pub begin-bytes : (fs : List Facility) (B S : List ℕ) → Bytes B → Bytes S → Bytes (begin_bytes fs B S)
unfolding begin_bytes
begin-bytes [] B S b s = b
begin-bytes (f ∷ fs) B S b s =
    bytes-append (bytes_begun f.kind (facility_bytes f) B S) (begin_bytes fs (drop (facility_bytes f) B) (drop (input_bytes f) S)) (begun-bytes f.kind (facility_bytes f) B S b s)
    (begin-bytes fs (drop (facility_bytes f) B) (drop (input_bytes f) S) (bytes_drop B (facility_bytes f) b) (bytes_drop S (input_bytes f) s))

begin-rest : (fs : List Facility) (B S : List ℕ) → Rooms fs B S → drop (store_size_of fs) (begin_bytes fs B S) ≡ drop (store_size_of fs) B
unfolding begin_bytes store_size_of
begin-rest [] B S r = refl
begin-rest (f ∷ fs) B S r =
    let n = facility_bytes f in
    let rest = begin_bytes fs (drop n B) (drop (input_bytes f) S) in
    sym (drop-drop (store_size_of fs) n (X f fs B S r ++ rest))
    ∙ (ap (drop (store_size_of fs)) (first_rest f fs B S r rest) ∙ (begin-rest fs (drop n B) (drop (input_bytes f) S) (rooms-more f fs B S r) ∙ drop-drop (store_size_of fs) n B))

module _ (fs : List Facility) (B S : List ℕ) (b : Bytes B) (s : Bytes S) (r : Rooms fs B S) where
  -- The words that the cycle begins with.
  abbrev pub words_begun : StoreWords
  words_begun = begin fs (from_bytes fs B) (from_bytes (inputs_of fs) S)

  -- Their bytes, in front of what lies beyond the store.
  pub begin-over : begin_bytes fs B S ≡ over (to_bytes fs words_begun) B
  begin-over =
      let Y = begin_bytes fs B S in
      let m = store_size_of fs in
      let l : m ≤ length Y = omega (arith, begin-length fs B S r, r.store) in
      let t : to_bytes fs words_begun ≡ take m Y = ap (to_bytes fs) (sym (begin-words fs B S r)) ∙ bytes-again fs Y (begin-bytes fs B S b s) l in
      let o : drop m Y ≡ drop (length (take m Y)) B = begin-rest fs B S r ∙ ap (λ (k : ℕ). drop k B) (sym (length-take-le m Y l)) in
      sym (take-append-drop m Y) ∙ (ap (λ (Z : List ℕ). take m Y ++ Z) o ∙ ap (λ (T : List ℕ). T ++ drop (length T) B) (sym t))

  -- So the bytes left stand for those words.
  pub begun-means : from_bytes fs (over (to_bytes fs words_begun) B) ≡ words_begun
  begun-means = ap (from_bytes fs) (sym begin-over) ∙ begin-words fs B S r

  pub begun-are-bytes : Bytes (over (to_bytes fs words_begun) B)
  begun-are-bytes = subst Bytes begin-over (begin-bytes fs B S b s)

  pub begun-as-long : length (over (to_bytes fs words_begun) B) ≡ length B
  begun-as-long = ap length (sym begin-over) ∙ begin-length fs B S r
