-- A bit of the store's bytes is a bit of the word that has it; writes put one after the other leave what none of them names, and what the last that names it gave. Assumes nothing.
use Rattle.std.specs.Prelude.{Bool, cond, ◌||◌, refl, drop}
use Rattle.std.proofs.Math.Bool.{true, false}
use mathlib.Core.List.{List, [], ◌∷◌, ◌++◌}
use Rattle.std.proofs.Common.{⊎_elim, ◌∙◌, div-add-mod', div-lt_iff_lt-mul, eq-zero-or-pos, mod-lt, mul-zero, get_or-drop}
use Rattle.std.proofs.Math.Path.{◌≡◌, sym, ap}
use native.Mathlib.Omega.{arith}
use Prim.Native.Nat.{ℕ, suc, ◌+◌, ◌-◌, ◌*◌, ◌/◌, ◌%◌, ◌≤◌, ◌<◌}
use borrow.Author.Tests.{le-leb, leb-true, lt-ltb, ltb-true}
use Rattle.std.proofs.Math.Dec.{leb, ltb}
use Rattle.std.proofs.Math.ListN.{get_or, length, length-drop, length-take, take}
use Rattle.std.proofs.Math.Seq.{get_or-take}
use Rattle.language.specs.Description.{Description, Facility, facility_at, is_computed, no_facility, word_count, word_length}
use Rattle.language.specs.Layout.{facility_bytes, place_in, store_size_of, word_bytes, word_from_bytes}
use Rattle.language.specs.Meaning.{Place, Write}
use Rattle.language.specs.Store.{StoreWords, from_bytes, low_of, put_part, put_parts, word_of}
use Rattle.language.specs.Value.{replaced}
use Rattle.about_bytes.specs.StaysSound.{both_left, both_right}
use Rattle.about_bytes.specs.StoreBack.{both_so}
use Rattle.about_bytes.specs.StoreBits.{any_names, bit_at, byte_bits, first_bit, given, names, rank, spare_bits}
use Rattle.about_running.specs.BitsKept as BitsKept
use Rattle.about_running.specs.BitsKept.{Has, NoneHas, puts-keep}
use Rattle.about_running.specs.Cycle.{row_of}
use Rattle.about_running.specs.CycleWrites.{AllInStore, InStore}
use Rattle.about_running.specs.Fitting.{Fit, fit-put, fit_word, stored}
use Rattle.about_running.specs.Kept.{puts-append}
use Rattle.store_layout.proofs.ByteLists.{bytes_drop, bytes_take}
use Rattle.store_layout.proofs.ByteOrder.{word_room}
use Rattle.store_layout.proofs.Numbers.{bit-none, bit-within}
use Rattle.store_layout.proofs.StoreWords.{in-store, word-from, word_set}
use Rattle.store_layout.proofs.Words.{word-bit}
use Rattle.store_layout.specs.Bits.{bit_of}
use Rattle.store_layout.specs.InBytes.{Stored, place_of_word}
use Rattle.store_layout.specs.Layout.{Bytes, position, word_in}

-- ---- Every byte of the store is a word's.

-- A word of a facility has byte i.
record Holds (fs : List Facility) (i : ℕ) : Type 0 where
  facility : ℕ
  word : ℕ
  is-stored : Stored fs facility word
  from_first : place_of_word fs facility word ≤ i
  before-end : i < place_of_word fs facility word + word_bytes (word_length (get_or fs facility no_facility))

divided : (i n c : ℕ) → i < c * n → (i / n * n ≤ i) × (i < i / n * n + n) × (i / n < c)
divided i n c h = ⊎_elim
    (λ e. absurd (let z : c * n ≡ 0 = rw e (mul-zero c) in omega arith))
    (λ p.
    let a = div-add-mod' i n in
    let m : i % n < n = mod-lt i p in
    (omega (arith, a), omega (arith, a, m), (div-lt_iff_lt-mul p).1 h))
    (eq-zero-or-pos n)

holding : (fs : List Facility) (i : ℕ) → i < store_size_of fs → Holds fs i
unfolding facility_bytes place_in place_of_word store_size_of
holding [] i h = absurd (omega arith)
holding (f ∷ fs) i h = ⊎_elim
    (λ e. later (holding fs (i - facility_bytes f) (omega arith)) (omega arith))
    (λ l. here (is_computed f.kind) refl (omega arith))
    (eq-zero-or-pos (facility_bytes f - i))
  where
    n : ℕ
    n = word_bytes (word_length f)

    here : (c : Bool) → is_computed f.kind ≡ c → i < cond c 0 (word_count f * n) → Holds (f ∷ fs) i
    here true e l = absurd (omega arith)
    here false e l =
        let y = divided i n (word_count f) l in
        record { facility = 0; word = i / n; is-stored = record { there = omega arith; kept = e; below = y.2 }; from_first = omega (arith, y.0); before-end = omega (arith, y.1) }

    later : Holds fs (i - facility_bytes f) → facility_bytes f ≤ i → Holds (f ∷ fs) i
    later y l = record {
      facility = suc y.facility;
      word = y.word;
      is-stored = record { there = let z = y.is-stored.there in omega arith; kept = y.is-stored.kept; below = y.is-stored.below };
      from_first = let z = y.from_first in omega arith;
      before-end = let z = y.before-end in omega arith;
    }

-- ---- A bit of a byte is a bit of the word.

-- How many bits of word w of facility f stand to the right of bit b of byte i.
abbrev height : List Facility → ℕ → ℕ → ℕ → ℕ → ℕ
height fs f w i b = byte_bits * (place_of_word fs f w + word_bytes (word_length (get_or fs f no_facility))) - 1 - rank i b

-- Where that bit stands among the word's n bytes from `at` on.
spot-so : (at n i b : ℕ) → b < byte_bits → at ≤ i → i < at + n
    → (byte_bits * (at + n) - 1 - rank i b < 8 * n) × (n - 1 - (byte_bits * (at + n) - 1 - rank i b) / 8 ≡ i - at) × ((byte_bits * (at + n) - 1 - rank i b) % 8 ≡ byte_bits - 1 - b)
spot-so at n i b l p q = (omega arith, omega arith, omega arith)

module _ (fs : List Facility) (B : List ℕ) (bytes-so : Bytes B) (enough : store_size_of fs ≤ length B) (f w : ℕ) (is-stored : Stored fs f w) where
  bit-of-word : (i b : ℕ) → b < byte_bits → place_of_word fs f w ≤ i → i < place_of_word fs f w + word_bytes (word_length (get_or fs f no_facility))
      → bit_at B i b ≡ bit_of (word_of (from_bytes fs B) f w) (height fs f w i b)
  unfolding bit_at bit_of position word_in
  bit-of-word i b l p q =
      let at : ℕ = place_of_word fs f w in
      let len : ℕ = word_length (get_or fs f no_facility) in
      let n : ℕ = word_bytes len in
      let k : ℕ = height fs f w i b in
      let bs : List ℕ = take n (drop at B) in
      let room : at + n ≤ store_size_of fs = in-store fs f w is-stored in
      let long : length bs ≡ n = let x = length-take n (drop at B) in let y = length-drop at B in omega arith in
      let spot = spot-so at n i b l p q in
      let bit-so : bit_of (word_from_bytes bs) k ≡ bit_of (get_or bs (position len (k / 8)) 0) (k % 8) = word-bit len bs k (bytes_take (drop at B) n (bytes_drop B at bytes-so)) long spot.0 in
      let there : at + (i - at) ≡ i = omega (arith, p) in
      let byte-so : get_or bs (i - at) 0 ≡ get_or B i 0 = get_or-take n (drop at B) (i - at) 0 (omega (arith, p, q)) ∙ (get_or-drop at B (i - at) 0 ∙ ap (λ (x : ℕ). get_or B x 0) there) in
      sym (ap (λ (x : ℕ). bit_of x k) (word-from fs B f w is-stored) ∙ (bit-so
      ∙ (ap (λ (x : ℕ). bit_of (get_or bs x 0) (k % 8)) spot.1 ∙ (ap (λ (x : ℕ). bit_of (get_or bs (i - at) 0) x) spot.2 ∙ ap (λ (x : ℕ). bit_of x (byte_bits - 1 - b)) byte-so))))

-- ---- What a part names.

-- From the part's right end as from its word's: s spare bits, l bits of the word, `low` of them behind the part.
end-so : (at n l s low from count r : ℕ) → s + l ≡ byte_bits * n → low + (from + count) ≡ l → r < byte_bits * at + s + from + count
    → byte_bits * (at + n) - 1 - r - low ≡ byte_bits * at + s + from + count - 1 - r
end-so at n l s low from count r x y z = omega arith

module _ (d : Description) where
  -- Bit b of byte i is a bit of the part's word, and one of the part's.
  record Within (p : Place) (i b : ℕ) : Type 0 where
    from_first : place_of_word d.facilities p.facility p.word ≤ i
    before-end : i < place_of_word d.facilities p.facility p.word + word_bytes (word_length (get_or d.facilities p.facility no_facility))
    from_low : low_of d p ≤ height d.facilities p.facility p.word i b
    below-high : height d.facilities p.facility p.word i b < low_of d p + p.count

  -- Such a bit the part names.
  names-so : (p : Place) (i b : ℕ) → InStore d p → b < byte_bits → Within p i b → names d p i b ≡ true
  unfolding facility_at first_bit names
  names-so p i b h z y =
      let room = word_room (word_length (facility_at d p.facility)) in
      let inside = h.there.part_in in
      let low : first_bit d p ≤ rank i b = omega (arith, room) in
      let high : rank i b < first_bit d p + p.count = omega (arith, room) in
      both_so (le-leb (first_bit d p) (rank i b) low) (lt-ltb (rank i b) (first_bit d p + p.count) high)

  -- And no other; it is as far from the part's right end as it is from the word's, less what stands behind the part.
  within-so : (p : Place) (i b : ℕ) → InStore d p → b < byte_bits → names d p i b ≡ true
      → Within p i b × (height d.facilities p.facility p.word i b - low_of d p ≡ first_bit d p + p.count - 1 - rank i b)
  unfolding facility_at first_bit names
  within-so p i b h z e =
      let at : ℕ = place_of_word d.facilities p.facility p.word in
      let l : ℕ = word_length (facility_at d p.facility) in
      let room = word_room l in
      let inside = h.there.part_in in
      let from_low = leb (first_bit d p) (rank i b) in
      let to_high = ltb (rank i b) (first_bit d p + p.count) in
      let low : first_bit d p ≤ rank i b = leb-true (first_bit d p) (rank i b) (both_left from_low to_high e) in
      let high : rank i b < first_bit d p + p.count = ltb-true (rank i b) (first_bit d p + p.count) (both_right from_low to_high e) in (
        record { from_first = omega (arith, room); before-end = omega (arith, room); from_low = omega (arith, room); below-high = omega (arith, room) },
        end-so at (word_bytes l) l (spare_bits l) (low_of d p) p.from p.count (rank i b) (omega (arith, room)) (omega (arith, inside)) high,
      )

  -- What names no bit of a byte has none of the word's that stand there.
  none_has : (f w i b : ℕ) → b < byte_bits → place_of_word d.facilities f w ≤ i → i < place_of_word d.facilities f w + word_bytes (word_length (get_or d.facilities f no_facility))
      → (ws : List Write) → AllInStore d ws → any_names d ws i b ≡ false → NoneHas d f w (height d.facilities f w i b) ws
  unfolding any_names
  none_has f w i b z x y [] h e = tt
  none_has f w i b z x y (o ∷ ws) h e =
      let p : Place = o.at in
      let apart = neither (names d p i b) (any_names d ws i b) e in
      (λ has. clash apart.0 (names-so p i b h.0 z (here p has)), none_has f w i b z x y ws h.1 apart.1)
    where
      neither : (a c : Bool) → (a || c) ≡ false → (a ≡ false) × (c ≡ false)
      neither false c q = (refl, q)
      neither true c q = absurd (let o : ◌≡◌ {A = ℕ} 0 1 = cc in omega arith)

      clash : {a : Bool} → a ≡ false → a ≡ true → ⊥
      clash p q = let o : ◌≡◌ {A = ℕ} 0 1 = cc in omega arith

      here : (p : Place) → Has d f w (height d.facilities f w i b) p → Within p i b
      here p has = record {
        from_first = rw (has.facility-so, has.word-so) x;
        before-end = rw (has.facility-so, has.word-so) y;
        from_low = rw (← has.facility-so, ← has.word-so) at has.from_low;
        below-high = rw (← has.facility-so, ← has.word-so) at has.below-high;
      }

  -- A bit that neither of two lists names, the two together do not.
  pub none_named : (i b : ℕ) (xs ys : List Write) → any_names d xs i b ≡ false → any_names d ys i b ≡ false → any_names d (xs ++ ys) i b ≡ false
  unfolding any_names
  none_named i b [] ys h k = k
  none_named i b (x ∷ xs) ys h k = go (λ q. none_named i b xs ys q k) (names d x.at i b) h
    where
      go : (any_names d xs i b ≡ false → any_names d (xs ++ ys) i b ≡ false) → (t : Bool) → (t || any_names d xs i b) ≡ false → (t || any_names d (xs ++ ys) i b) ≡ false
      go later false q = later q
      go later true q = q

  -- ---- Writes one after the other.

  puts-fit : (s : StoreWords) (ws : List Write) → AllInStore d ws → Fit d.facilities s → Fit d.facilities (put_parts d s ws)
  unfolding put_parts
  puts-fit s [] h k = k
  puts-fit s (w ∷ ws) h k = puts-fit (put_part d s w) ws h.1 (fit-put d s w h.0.there k)

  -- What is put there is found there.
  put-lands : (s : StoreWords) (x : Write) (k : ℕ) → InStore d x.at → Fit d.facilities s → low_of d x.at ≤ k → k < low_of d x.at + x.at.count
      → bit_of (word_of (put_part d s x) x.at.facility x.at.word) k ≡ bit_of x.number (k - low_of d x.at)
  unfolding facility_at put_part stored
  put-lands s x k h fit low high =
      let p : Place = x.at in
      let row = row_of d.facilities s p.facility fit h.there.facility-in in
      let here : p.word < length (get_or s p.facility []) = rw (row.1, h.kept) h.there.word-in in
      let new : ℕ = replaced (word_of s p.facility p.word) (low_of d p) p.count x.number in
      ap (λ (o : ℕ). bit_of o k) (word_set s p.facility p.word new row.0 here) ∙ bit-within (word_of s p.facility p.word) (low_of d p) p.count x.number k low high

  in-front : (xs ys : List Write) → AllInStore d (xs ++ ys) → AllInStore d xs × AllInStore d ys
  in-front [] ys h = (tt, h)
  in-front (x ∷ xs) ys h = let y = in-front xs ys h.1 in ((h.0, y.0), y.1)

  -- The last write that has a bit gives it.
  last-lands : (s : StoreWords) (xs : List Write) (x : Write) (ys : List Write) (k : ℕ) → AllInStore d (xs ++ x ∷ ys) → Fit d.facilities s → low_of d x.at ≤ k → k < low_of d x.at + x.at.count
      → NoneHas d x.at.facility x.at.word k ys
      → bit_of (word_of (put_parts d s (xs ++ x ∷ ys)) x.at.facility x.at.word) k ≡ bit_of x.number (k - low_of d x.at)
  unfolding bit_of BitsKept.bit_of put_parts
  last-lands s xs x ys k h fit low high later =
      let y = in-front xs (x ∷ ys) h in
      let before : StoreWords = put_parts d s xs in
      ap (λ (o : StoreWords). bit_of (word_of o x.at.facility x.at.word) k) (puts-append d s xs (x ∷ ys))
      ∙ (puts-keep d x.at.facility x.at.word k (put_part d before x) ys later ∙ put-lands before x k y.1.0 (puts-fit s xs y.0 fit) low high)

  -- ---- The same in bytes: A holds what the writes leave of the store in B.

  module _ (A B : List ℕ) (bytes-a : Bytes A) (bytes-b : Bytes B) (enough-a : store_size_of d.facilities ≤ length A) (enough-b : store_size_of d.facilities ≤ length B)
      (ws : List Write) (places-in : AllInStore d ws) (words-so : from_bytes d.facilities A ≡ put_parts d (from_bytes d.facilities B) ws) where
    pub bits-kept : (i b : ℕ) → b < byte_bits → i < store_size_of d.facilities → any_names d ws i b ≡ false → bit_at A i b ≡ bit_at B i b
    unfolding bit_of BitsKept.bit_of
    bits-kept i b l z e =
        let y = holding d.facilities i z in
        let f : ℕ = y.facility in
        let w : ℕ = y.word in
        let k : ℕ = height d.facilities f w i b in
        bit-of-word d.facilities A bytes-a enough-a f w y.is-stored i b l y.from_first y.before-end
        ∙ (ap (λ (o : StoreWords). bit_of (word_of o f w) k) words-so
        ∙ (puts-keep d f w k (from_bytes d.facilities B) ws (none_has f w i b l y.from_first y.before-end ws places-in e)
        ∙ sym (bit-of-word d.facilities B bytes-b enough-b f w y.is-stored i b l y.from_first y.before-end)))

    pub bits-land : Fit d.facilities (from_bytes d.facilities B) → (xs : List Write) (w : Write) (ys : List Write) → ws ≡ xs ++ w ∷ ys
        → (i b : ℕ) → b < byte_bits → names d w.at i b ≡ true → any_names d ys i b ≡ false → bit_at A i b ≡ given d w i b
    unfolding bit_of facility_at given
    bits-land fit xs w ys split i b l e later =
        let p : Place = w.at in
        let all : AllInStore d (xs ++ w ∷ ys) = rw split at places-in in
        let here = (in-front xs (w ∷ ys) all).1 in
        let y = within-so p i b here.0 l e in
        let at-word : Stored d.facilities p.facility p.word = record { there = here.0.there.facility-in; kept = here.0.kept; below = here.0.there.word-in } in
        let k : ℕ = height d.facilities p.facility p.word i b in
        bit-of-word d.facilities A bytes-a enough-a p.facility p.word at-word i b l y.0.from_first y.0.before-end
        ∙ (ap (λ (o : StoreWords). bit_of (word_of o p.facility p.word) k) (words-so ∙ ap (λ (o : List Write). put_parts d (from_bytes d.facilities B) o) split)
        ∙ (last-lands (from_bytes d.facilities B) xs w ys k all fit y.0.from_low y.0.below-high (none_has p.facility p.word i b l y.0.from_first y.0.before-end ys here.1 later)
        ∙ ap (λ (o : ℕ). bit_of w.number o) y.1))

-- Spare bits are zero.
pub spare-zero : (fs : List Facility) (B : List ℕ) → Bytes B → store_size_of fs ≤ length B → Fit fs (from_bytes fs B) → (f w : ℕ) → Stored fs f w → (i b : ℕ) → b < byte_bits
    → byte_bits * place_of_word fs f w ≤ rank i b → rank i b < byte_bits * place_of_word fs f w + spare_bits (word_length (get_or fs f no_facility)) → bit_at B i b ≡ 0
spare-zero fs B bytes-so enough fit f w is-stored i b l low high =
    let room = word_room (word_length (get_or fs f no_facility)) in
    bit-of-word fs B bytes-so enough f w is-stored i b l (omega (arith, l, low)) (omega (arith, high))
    ∙ bit-none (word_length (get_or fs f no_facility)) (height fs f w i b) (fit_word fs (from_bytes fs B) f w fit) (omega (arith, high, room))
