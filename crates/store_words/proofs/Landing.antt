-- Pending bytes and a mask give what the list of delayed stores says: the same store, and the same count of conflicts. Assumes nothing.
use mathlib.Core.Path.{◌≡◌, refl, sym, ap, ap₂, ◌∙◌, subst}
use mathlib.Core.Bool.{Bool, true, false, ◌||◌, or-false, or-true}
use mathlib.Core.List.{List, [], ◌∷◌, ◌++◌, append_assoc, append-nil}
use Prim.Native.Nat.{ℕ, ◌+◌, ◌-◌, ◌*◌, ◌/◌, ◌%◌, ◌^◌, ◌≤◌, ◌<◌}
use native.Mathlib.Nat.{add_assoc, add-zero, le_trans, zero-add, zero-div, zero-mod}
use native.Mathlib.Omega.{arith}
use borrow.Author.Tests.{eqb-true, eqb-false, ltb-false}
use lib.Dec.{eqb, ltb}
use lib.ListN.{get_or, length}
use lib.Pow.{high, ones_lt, ones_split, pow-add, pow_pos}
use Rattle.language.specs.Description.{Description, no_facility, word_length}
use Rattle.language.specs.Layout.{store_size_of}
use Rattle.language.specs.Meaning.{Place, Write}
use Rattle.language.specs.Store.{StoreWords, any_meets, conflicts, from_bytes, land_all, load_part, low_of, meets_any, put_part, put_parts, set_word, word_of}
use Rattle.language.specs.Value.{bit, replaced}
use Rattle.store_layout.specs.Bits.{bit_of}
use Rattle.store_layout.specs.InBytes.{Stored, There, Waiting, any_marked, delayed, delayed_all, load_bytes, mark_all, ones, place_of_word, put_all, put_bytes, waiting}
use Rattle.store_layout.specs.Layout.{Bytes}
use Rattle.store_layout.specs.Slices.{land_bits, landed}
use Rattle.store_layout.proofs.LandBits.{choose, land-bit, word-landed}
use Rattle.store_layout.proofs.Naming.{AllThere, Either, GroupsThere, Names, free, hits, meets-either, named, named-append, names, names-false, names-true}
use Rattle.store_layout.proofs.Numbers.{bit-none, bit-outside, bit-within, part-bit, part_same, same_bits}
use Rattle.store_words.proofs.SameStore.{bytes-put, length-put, load_same, save-same}
use Rattle.store_layout.proofs.StoreWords.{Same, in_row, in-store, same_from, same_set, stored_of, word-from, word-other, word_set, words-ext}
use Rattle.store_layout.proofs.Zeros.{Zeros, zero_word}

-- ---- Bits after a put.

module _ (d : Description) (s : StoreWords) (w : Write) (row_in : w.at.facility < length s) (word_in : w.at.word < length (get_or s w.at.facility [])) where
  abbrev new : ℕ
  new = replaced (word_of s w.at.facility w.at.word) (low_of d w.at) w.at.count w.number

  put-named : (f i k : ℕ) → Names d w.at f i k → bit_of (word_of (put_part d s w) f i) k ≡ bit_of w.number (k - low_of d w.at)
  unfolding put_part
  put-named f i k n =
      rw (n.facility, n.word) (ap (λ (x : ℕ). bit_of x k) (word_set s w.at.facility w.at.word new row_in word_in)
      ∙ bit-within (word_of s w.at.facility w.at.word) (low_of d w.at) w.at.count w.number k n.first n.last)

  put-kept : (f i k : ℕ) → (Names d w.at f i k → ⊥) → bit_of (word_of (put_part d s w) f i) k ≡ bit_of (word_of s f i) k
  unfolding put_part
  put-kept f i k n = go (eqb f w.at.facility) refl (eqb i w.at.word) refl
    where
      go : (b : Bool) → eqb f w.at.facility ≡ b → (c : Bool) → eqb i w.at.word ≡ c → bit_of (word_of (set_word s w.at.facility w.at.word new) f i) k ≡ bit_of (word_of s f i) k
      go true e true h =
          let p = eqb-true f w.at.facility e in
          let q = eqb-true i w.at.word h in
          rw (p, q) (ap (λ (x : ℕ). bit_of x k) (word_set s w.at.facility w.at.word new row_in word_in)
          ∙ bit-outside (word_of s w.at.facility w.at.word) (low_of d w.at) w.at.count w.number k (λ a b. n (record { facility = p; word = q; first = a; last = b })))
      go true e false h = ap (λ (x : ℕ). bit_of x k) (word-other s w.at.facility w.at.word new row_in f i (λ p q. eqb-false i w.at.word h q))
      go false e c h = ap (λ (x : ℕ). bit_of x k) (word-other s w.at.facility w.at.word new row_in f i (λ p q. eqb-false f w.at.facility e p))

  put-shape : Same (put_part d s w) s
  unfolding put_part
  put-shape = same_set s w.at.facility w.at.word new row_in

-- ---- Every bit of the mask's number is set.

ones_bit : (k : ℕ) → k < 256 → bit_of (2 ^ 256 - 1) k ≡ 1
unfolding bit_of
ones_bit k h =
    let i : ℕ = 255 - k in
    let e : 256 ≡ (i + 1) + k = omega arith in
    let o : 2 ^ 256 - 1 ≡ (2 ^ (i + 1) - 1) * 2 ^ k + (2 ^ k - 1) = ap (λ (n : ℕ). 2 ^ n - 1) e ∙ ones_split (i + 1) k in
    ap (λ (n : ℕ). n / 2 ^ k % 2) o ∙ ap (λ (n : ℕ). n % 2) (high (2 ^ (i + 1) - 1) k (ones_lt k)) ∙ odd i
  where
    odd : (i : ℕ) → (2 ^ (i + 1) - 1) % 2 ≡ 1
    odd i = let p : 2 ^ (i + 1) ≡ 2 ^ i * 2 = pow-add 2 i 1 in omega (arith, pow_pos i)

-- ---- A part is zero exactly where its bits are.

part-zero : (x first c : ℕ) → ((k : ℕ) → first ≤ k → k < first + c → bit_of x k ≡ 0) → x / 2 ^ first % 2 ^ c ≡ 0
part-zero x first c h =
    part_same x 0 first c (λ k p q. h k p q ∙ sym (bit-none 0 k (omega arith) (omega arith))) ∙ ap (λ (n : ℕ). n % 2 ^ c) (zero-div (2 ^ first)) ∙ zero-mod (2 ^ c)

part-some : (x first c k : ℕ) → first ≤ k → k < first + c → bit_of x k ≡ 1 → ltb 0 (x / 2 ^ first % 2 ^ c) ≡ true
part-some x first c k p q e = go (ltb 0 (x / 2 ^ first % 2 ^ c)) refl
  where
    go : (b : Bool) → ltb 0 (x / 2 ^ first % 2 ^ c) ≡ b → b ≡ true
    go true h = refl
    go false h =
        let z : x / 2 ^ first % 2 ^ c ≡ 0 = omega (arith, ltb-false 0 (x / 2 ^ first % 2 ^ c) h) in
        let s : first + (k - first) ≡ k = omega arith in
        let o : bit_of x k ≡ 0 = ap (bit_of x) (sym s) ∙ sym (part-bit x first c (k - first) (omega arith)) ∙ ap (λ (n : ℕ). bit_of n (k - first)) z ∙ bit-none 0 (k - first) (omega arith) (omega arith) in
        absurd (omega arith)

land-three : {a b c x y z : ℕ} → a ≡ x → b ≡ y → c ≡ z → land_bits a b c ≡ land_bits x y z
land-three {a} {b} {c} {x} {y} {z} e f g = ap (λ (n : ℕ). land_bits n b c) e ∙ ap (λ (n : ℕ). land_bits x n c) f ∙ ap (land_bits x y) g

-- ---- While delayed stores wait.

module _ (d : Description) (B : List ℕ) where
  abbrev words : List ℕ → StoreWords
  words A = from_bytes d.facilities A

  -- s is what the writes so far make of the words of B; P and M hold them and the bits that they named.
  pub record Tracks (s : StoreWords) (P M : List ℕ) (earlier : List Write) : Type 0 where
    pub shape : Same s (words B)
    pub bytes-P : Bytes P
    pub bytes-M : Bytes M
    pub size-P : length P ≡ length B
    pub size-M : length M ≡ length B
    pub marks : (f w k : ℕ) → bit_of (word_of (words M) f w) k ≡ bit (named d earlier f w k)
    pub shows : (f w k : ℕ) → bit_of (word_of s f w) k ≡ choose (bit_of (word_of (words M) f w) k) (bit_of (word_of (words P) f w) k) (bit_of (word_of (words B) f w) k)

  record Ran (s : StoreWords) (a : Waiting) (n : ℕ) : Type 0 where
    pub writes : List Write
    pub tracks : Tracks s a.pending a.mask writes
    pub counted : a.conflicts ≡ n

  module _ (room : store_size_of d.facilities ≤ length B) where
    module _ (s : StoreWords) (P M : List ℕ) (earlier : List Write) (t : Tracks s P M earlier) (w : Write) (here : There d w.at) where
      room-P : store_size_of d.facilities ≤ length P
      room-P = omega (arith, t.size-P)

      room-M : store_size_of d.facilities ≤ length M
      room-M = omega (arith, t.size-M)

      in_words : (A : List ℕ) → (w.at.facility < length (words A)) × (w.at.word < length (get_or (words A) w.at.facility []))
      in_words A = in_row d.facilities A w.at.facility w.at.word here.word

      in-s : (w.at.facility < length s) × (w.at.word < length (get_or s w.at.facility []))
      in-s = (omega (arith, t.shape.rows, (in_words B).0), omega (arith, t.shape.words w.at.facility, (in_words B).1))

      P-is : words (put_bytes d P w) ≡ put_part d (words P) w
      P-is = save-same d P t.bytes-P room-P w.at here w.number

      M-is : words (put_bytes d M (ones w)) ≡ put_part d (words M) (ones w)
      M-is = save-same d M t.bytes-M room-M w.at here (2 ^ 256 - 1)

      at-bit : {A C : StoreWords} → A ≡ C → (f i k : ℕ) → bit_of (word_of A f i) k ≡ bit_of (word_of C f i) k
      at-bit e f i k = ap (λ (x : StoreWords). bit_of (word_of x f i) k) e

      later : (f i k : ℕ) → named d (earlier ++ w ∷ []) f i k ≡ (named d earlier f i k || names d w.at f i k)
      unfolding named
      later f i k = named-append d earlier (w ∷ []) f i k ∙ ap (λ (b : Bool). named d earlier f i k || b) (or-false (names d w.at f i k))

      mask-named : (f i k : ℕ) → Names d w.at f i k → bit_of (word_of (words (put_bytes d M (ones w))) f i) k ≡ 1
      mask-named f i k n =
          at-bit M-is f i k ∙ put-named d (words M) (ones w) (in_words M).0 (in_words M).1 f i k n
          ∙ ones_bit (k - low_of d w.at) (omega (arith, n.first, n.last, here.few))

      mask-kept : (f i k : ℕ) → (Names d w.at f i k → ⊥) → bit_of (word_of (words (put_bytes d M (ones w))) f i) k ≡ bit_of (word_of (words M) f i) k
      mask-kept f i k n = at-bit M-is f i k ∙ put-kept d (words M) (ones w) (in_words M).0 (in_words M).1 f i k n

      marks-more : (f i k : ℕ) (b : Bool) → names d w.at f i k ≡ b → bit_of (word_of (words (put_bytes d M (ones w))) f i) k ≡ bit (named d earlier f i k || b)
      marks-more f i k true e = mask-named f i k (names-true d w.at f i k e) ∙ sym (ap bit (or-true (named d earlier f i k)))
      marks-more f i k false e = mask-kept f i k (names-false d w.at f i k e) ∙ t.marks f i k ∙ sym (ap bit (or-false (named d earlier f i k)))

      shows_more : (f i k : ℕ) (b : Bool) → names d w.at f i k ≡ b
          → bit_of (word_of (put_part d s w) f i) k
          ≡ choose (bit_of (word_of (words (put_bytes d M (ones w))) f i) k) (bit_of (word_of (words (put_bytes d P w)) f i) k) (bit_of (word_of (words B) f i) k)
      shows_more f i k true e =
          let n = names-true d w.at f i k e in
          rw (mask-named f i k n) (put-named d s w in-s.0 in-s.1 f i k n ∙ sym (at-bit P-is f i k ∙ put-named d (words P) w (in_words P).0 (in_words P).1 f i k n))
      shows_more f i k false e =
          let n = names-false d w.at f i k e in
          put-kept d s w in-s.0 in-s.1 f i k n ∙ t.shows f i k
          ∙ sym (ap₂ (λ (x y : ℕ). choose x y (bit_of (word_of (words B) f i) k)) (mask-kept f i k n) (at-bit P-is f i k ∙ put-kept d (words P) w (in_words P).0 (in_words P).1 f i k n))

      tracks-more : Tracks (put_part d s w) (put_bytes d P w) (put_bytes d M (ones w)) (earlier ++ w ∷ [])
      tracks-more = record {
        shape = let p = put-shape d s w in-s.0 in-s.1 in record { rows = p.rows ∙ t.shape.rows; words = λ f. p.words f ∙ t.shape.words f };
        bytes-P = bytes-put d P t.bytes-P room-P w.at here w.number;
        bytes-M = bytes-put d M t.bytes-M room-M w.at here (2 ^ 256 - 1);
        size-P = length-put d P t.bytes-P room-P w.at here w.number ∙ t.size-P;
        size-M = length-put d M t.bytes-M room-M w.at here (2 ^ 256 - 1) ∙ t.size-M;
        marks = λ f i k. marks-more f i k (names d w.at f i k) refl ∙ sym (ap bit (later f i k));
        shows = λ f i k. shows_more f i k (names d w.at f i k) refl;
      }

    -- A conflict: the mask has a bit of the place exactly where an earlier write meets it.
    marked-meets : (s : StoreWords) (P M : List ℕ) (earlier : List Write) → Tracks s P M earlier → AllThere d earlier → (p : Place) → There d p → ltb 0 (load_bytes d M p) ≡ meets_any p earlier
    unfolding load_part
    marked-meets s P M earlier t all p here =
        ap (ltb 0) (load_same d M t.bytes-M (omega (arith, t.size-M)) p here) ∙ go (meets-either d p earlier here all)
      where
        go : Either d p (named d earlier p.facility p.word) (meets_any p earlier) → ltb 0 (word_of (words M) p.facility p.word / 2 ^ low_of d p % 2 ^ p.count) ≡ meets_any p earlier
        go (hits e c) =
            part-some (word_of (words M) p.facility p.word) (low_of d p) p.count c.bit c.first c.last (t.marks p.facility p.word c.bit ∙ ap bit c.hit) ∙ sym e
        go (free e n) =
            ap (ltb 0) (part-zero (word_of (words M) p.facility p.word) (low_of d p) p.count (λ k a b. t.marks p.facility p.word k ∙ ap bit (n k a b))) ∙ sym e

    any-meets : (s : StoreWords) (P M : List ℕ) (earlier : List Write) → Tracks s P M earlier → AllThere d earlier → (g : List Write) → AllThere d g → any_marked d M g ≡ any_meets g earlier
    unfolding any_marked any_meets
    any-meets s P M earlier t all [] h = refl
    any-meets s P M earlier t all (w ∷ ws) h = ap₂ (λ (a b : Bool). a || b) (marked-meets s P M earlier t all w.at h.0) (any-meets s P M earlier t all ws h.1)

    -- ---- One delayed store, and all of them.

    tracks-group : (g : List Write) (s : StoreWords) (P M : List ℕ) (earlier : List Write) → AllThere d g → Tracks s P M earlier → Tracks (put_parts d s g) (put_all d P g) (mark_all d M g) (earlier ++ g)
    unfolding put_parts put_all mark_all
    tracks-group [] s P M earlier h t = subst (Tracks s P M) (sym (append-nil earlier)) t
    tracks-group (w ∷ ws) s P M earlier h t =
        subst (Tracks (put_parts d (put_part d s w) ws) (put_all d (put_bytes d P w) ws) (mark_all d (put_bytes d M (ones w)) ws)) (append_assoc earlier (w ∷ []) ws)
        (tracks-group ws (put_part d s w) (put_bytes d P w) (put_bytes d M (ones w)) (earlier ++ w ∷ []) h.1 (tracks-more s P M earlier t w h.0))

    all_append : (xs ys : List Write) → AllThere d xs → AllThere d ys → AllThere d (xs ++ ys)
    all_append [] ys h g = g
    all_append (x ∷ xs) ys h g = (h.0, all_append xs ys h.1 g)

    run : (gs : List (List Write)) (earlier : List Write) (s : StoreWords) (a : Waiting) (n : ℕ) → GroupsThere d gs → AllThere d earlier → Tracks s a.pending a.mask earlier → a.conflicts ≡ n
        → Ran (land_all d s gs) (delayed_all d a gs) (n + conflicts earlier gs)
    unfolding land_all delayed_all conflicts
    run [] earlier s a n h all t e = record { writes = earlier; tracks = t; counted = e ∙ sym (add-zero n) }
    run (g ∷ gs) earlier s a n h all t e =
        subst (Ran (land_all d (put_parts d s g) gs) (delayed_all d (delayed d a g) gs)) (add_assoc n (bit (any_meets g earlier)) (conflicts (earlier ++ g) gs))
        (run gs (earlier ++ g) (put_parts d s g) (delayed d a g) (n + bit (any_meets g earlier)) h.1 (all_append earlier g all h.0)
        (tracks-group g s a.pending a.mask earlier h.0 t) (ap₂ (λ (x : ℕ) (b : Bool). x + bit b) e (any-meets s a.pending a.mask earlier t all g h.0)))

    -- ---- From a clear mask.

    module _ (P₀ M₀ : List ℕ) (bytes : Bytes B) (bytes-P : Bytes P₀) (bytes-M : Bytes M₀) (size-P : length P₀ ≡ length B) (size-M : length M₀ ≡ length B)
        (clear : Zeros M₀) (gs : List (List Write)) (there : GroupsThere d gs) where
      abbrev after : Waiting
      after = delayed_all d (waiting P₀ M₀) gs

      clear-bit : (f w k : ℕ) → bit_of (word_of (words M₀) f w) k ≡ 0
      clear-bit f w k = ap (λ (x : ℕ). bit_of x k) (zero_word d.facilities M₀ bytes-M clear (omega arith) f w) ∙ bit-none 0 k (omega arith) (omega arith)

      ran : Ran (land_all d (words B) gs) after (conflicts [] gs)
      unfolding named
      ran = subst (Ran (land_all d (words B) gs) after) (zero-add (conflicts [] gs)) (run gs [] (words B) (waiting P₀ M₀) 0 there tt record {
        shape = record { rows = refl; words = λ f. refl };
        bytes-P = bytes-P;
        bytes-M = bytes-M;
        size-P = size-P;
        size-M = size-M;
        marks = λ f w k. clear-bit f w k;
        shows = λ f w k. rw (clear-bit f w k) refl;
      } refl)

      -- What lands from them is what the delayed stores leave, in order.
      pub lands-same : words (landed B after.pending after.mask) ≡ land_all d (words B) gs
      lands-same = words-ext (words (landed B after.pending after.mask)) (land_all d (words B) gs) same (λ f i h. word f i (stored_of d.facilities (landed B after.pending after.mask) f i h))
        where
          t : Tracks (land_all d (words B) gs) after.pending after.mask ran.writes
          t = ran.tracks

          same : Same (words (landed B after.pending after.mask)) (land_all d (words B) gs)
          same = let e = same_from d.facilities (landed B after.pending after.mask) B in
              record { rows = e.rows ∙ sym t.shape.rows; words = λ f. e.words f ∙ sym (t.shape.words f) }

          word : (f i : ℕ) → Stored d.facilities f i → word_of (words (landed B after.pending after.mask)) f i ≡ word_of (land_all d (words B) gs) f i
          word f i s =
              let l : ℕ = word_length (get_or d.facilities f no_facility) in
              let at : ℕ = place_of_word d.facilities f i in
              word-from d.facilities (landed B after.pending after.mask) f i s
              ∙ word-landed B after.pending after.mask bytes t.bytes-P t.bytes-M t.size-P t.size-M at l (le_trans (in-store d.facilities f i s) room)
              ∙ land-three (sym (word-from d.facilities B f i s)) (sym (word-from d.facilities after.pending f i s)) (sym (word-from d.facilities after.mask f i s))
              ∙ same_bits (land_bits (word_of (words B) f i) (word_of (words after.pending) f i) (word_of (words after.mask) f i)) (word_of (land_all d (words B) gs) f i)
              (λ k. land-bit (word_of (words B) f i) (word_of (words after.pending) f i) (word_of (words after.mask) f i) k ∙ sym (t.shows f i k))

      pub counts_same : after.conflicts ≡ conflicts [] gs
      counts_same = ran.counted
