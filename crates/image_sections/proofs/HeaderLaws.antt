-- The header is thirteen numbers of four bytes, one after the other.
use mathlib.Core.Bool.{false}
use mathlib.Core.List.{List, [], ◌∷◌, ◌++◌, append_assoc, append-nil}
use mathlib.Core.Path.{◌≡◌, refl, sym, ◌∙◌}
use Prim.Native.Nat.{ℕ, ◌+◌, ◌*◌, ◌^◌, ◌<◌, ◌≤◌}
use native.Mathlib.Nat.{le_of_lt, lt_of_le_of_lt, lt_trans, mul-le-mul_left, mul-lt-mul_of_pos_right}
use native.Mathlib.Numerals.{add-one}
use native.Mathlib.Omega.{arith}
use borrow.Author.Tests.{eq-eqb, le-leb, lt-leb, ne_eqb}
use mir.Syntax.{w64}
use mir.Val.{Fits}
use lib.ListN.{drop, drop_of_length-le, get_or, length, take}
use lib.Pow.{pow_pos}
use lib.Seq.{length-take-le, take-suc}
use Rattle.language.specs.Decode.{number_at}
use Rattle.language.specs.Encode.{four, header_size, length_field, little}
use Rattle.language.specs.RecordBytes.{fours}
use Rattle.language.specs.Scan.{same}
use Rattle.image_records.proofs.ByteLaws.{placed-more, placed-whole}
use Rattle.image_records.specs.Placed.{placed}
use Rattle.image_sections.specs.Header.{counts_in, header_numbers, header_right, total_of}
use Rattle.image_sections.specs.declared.header.Counts.{Counts}

pub fours-length : (l : List ℕ) → length (fours l) ≡ 4 * length l
unfolding fours little
fours-length [] = refl
fours-length (x ∷ l) = omega (arith, fours-length l)

pub fours-append : (l m : List ℕ) → fours (l ++ m) ≡ fours l ++ fours m
unfolding fours
fours-append [] m = refl
fours-append (x ∷ l) m = rw (fours-append l m) (sym (append_assoc (four x) (fours l) (fours m)))

four-length : (x : ℕ) → length (four x) ≡ 4
unfolding little
four-length x = refl

pub fours-next : (z all : List ℕ) (i : ℕ) → i < length all → 4 * length all ≤ length z
    → placed (placed z 0 (fours (take i all))) (4 * i) (four (get_or all i 0)) ≡ placed z 0 (fours (take (i + 1) all))
unfolding fours
fours-next z all i h g =
    let a = fours (take i all) in
    let l : length a ≡ 4 * i = fours-length (take i all) ∙ rw (length-take-le i all (omega arith)) in
    let k : length (four (get_or all i 0)) ≡ 4 = four-length (get_or all i 0) in
    let e : 4 * i ≡ 0 + length a = omega arith in
    rw (e, add-one i, take-suc all i 0, fours-append (take i all) (get_or all i 0 ∷ []), append-nil (four (get_or all i 0)))
    (placed-more z a 0 (omega arith) (four (get_or all i 0)) (omega arith))

-- Bytes that take the whole place of others.
pub placed-all : (s bs : List ℕ) → length bs ≡ length s → placed s 0 bs ≡ bs
placed-all s bs e =
    let h : 0 + length bs ≤ length s = omega arith in
    let g : length s ≤ 0 + length bs = omega arith in
    placed-whole s bs 0 h ∙ rw (drop_of_length-le s g) (append-nil bs)

pub header-length : (c : Counts) → length (header_numbers c) ≡ 13
unfolding header_numbers
header-length c = refl

pub header-bytes : (c : Counts) → length (fours (header_numbers c)) ≡ header_size
header-bytes c = fours-length (header_numbers c) ∙ rw (header-length c)

pub total_first : (c : Counts) → get_or (header_numbers c) 0 0 ≡ total_of c
unfolding header_numbers
total_first c = refl

-- The bytes of up to 2 to the 32 records of up to 255 bytes.
pub section-fits : {a b : ℕ} → a < 2 ^ 8 → b < 2 ^ 32 → Fits w64 (a * b)
section-fits {a} {b} ha hb =
    record { fits = lt_trans (lt_of_le_of_lt (mul-le-mul_left a (le_of_lt hb)) (mul-lt-mul_of_pos_right {n = 2 ^ 8} {k = 2 ^ 32} ha (pow_pos 32))) (omega arith) }

-- ---- The test, by what holds.

module _ (s : List ℕ) where
  pub right-short : length s < total_of (counts_in s) → header_right s ≡ false
  unfolding header_right
  right-short h = rw (lt-leb _ _ h)

  pub right-other : total_of (counts_in s) ≤ length s → (number_at 4 length_field s ≡ total_of (counts_in s) → ⊥) → header_right s ≡ false
  unfolding header_right
  right-other h d = rw (le-leb _ _ h, ne_eqb _ _ d)

  pub right-same : total_of (counts_in s) ≤ length s → number_at 4 length_field s ≡ total_of (counts_in s)
      → header_right s ≡ same (take header_size (drop 0 s)) (fours (header_numbers (counts_in s)))
  unfolding header_right
  right-same h e = rw (le-leb _ _ h, eq-eqb _ _ e)
