-- Worked examples: the writes of a cycle, the bits that they name, and the bytes before and after.
use Rattle.std.specs.Prelude.{Bool, true, false, cond, List, [], ◌∷◌, ◌≡◌, refl, ℕ, zero, suc, ◌+◌, ◌/◌, ◌%◌, ◌^◌, ◌<◌, leb, ltb}
use Rattle.std.proofs.Common.{arith, leb-true, ltb-true, pow_pos}
use Rattle.language.specs.Calls.{cycled, cycle, open'}
use Rattle.language.specs.Computing.{computing}
use Rattle.language.specs.Decode.{decode}
use Rattle.language.specs.Description.{Description}
use Rattle.language.specs.Layout.{facility_bytes, no_spare_bits, place_in, word_bytes}
use Rattle.language.specs.Meaning.{Write, place}
use Rattle.language.specs.Reading.{read}
use Rattle.language.specs.Scan.{bytes}
use Rattle.language.specs.Store.{all_narrow}
use Rattle.about_running.specs.CycleWrites.{begin_writes, cycle_writes, state_writes, whole_words}
use Rattle.about_running.specs.Fitting.{below_at}
use Rattle.about_running.specs.Kept.{executed, joined, noting}
use Rattle.about_running.specs.Soundness.{narrow_below}
use Rattle.store_layout.specs.InBytes.{place_of_word}
use Rattle.store_layout.specs.Layout.{Bytes}
use Rattle.about_bytes.specs.KeptBytes.{store_after, writes}
use Rattle.about_bytes.proofs.KeptBytes.{kept-bytes}
use Rattle.about_bytes.specs.StoreBits.{any_names, bit_at, byte_bits, first_bit, given, names, rank}
use Rattle.language.specs.Tests.{both}

-- The image of a text, and the record of its opening.
unfoldable image_of : List ℕ → List ℕ
image_of text = (read text 640).image

unfoldable record_of : List ℕ → List ℕ
record_of text = (open' (image_of text) 16 80).record'

-- The ranks of the bits named, among the k from rank r on.
unfoldable named_from : Description → List Write → ℕ → ℕ → List ℕ
named_from d ws zero r = []
named_from d ws (suc k) r =
    let later = named_from d ws k (suc r) in
    cond (any_names d ws (r / byte_bits) (r % byte_bits)) (r ∷ later) later

-- ---- One bit of a memory's word is stored.

unfoldable one_bit : List ℕ
one_bit = bytes "REGISTER A[12]. MEMORY M[0:3,12]. OPERATION X=[M[2,5]=1B1]. CONTROL P: X,->P/."

-- A, the four words of M, and two bytes beyond the store.
abbrev before : List ℕ
before = 0x0a ∷ 0xbc ∷ 0x01 ∷ 0x23 ∷ 0x04 ∷ 0x56 ∷ 0x07 ∷ 0x08 ∷ 0x0d ∷ 0xef ∷ 0xff ∷ 0xee ∷ []

-- The high bit of byte 7, the second byte of M[2]; every other byte is as it was.
one-bit-kept : store_after (image_of one_bit) before (record_of one_bit) [] 40 ≡ 0x0a ∷ 0xbc ∷ 0x01 ∷ 0x23 ∷ 0x04 ∷ 0x56 ∷ 0x07 ∷ 0x88 ∷ 0x0d ∷ 0xef ∷ 0xff ∷ 0xee ∷ []
unfolding computing one_bit image_of record_of
one-bit-kept = refl

one-bit-named : named_from (decode (image_of one_bit)) (writes (image_of one_bit) before (record_of one_bit) [] 40) 96 0 ≡ 56 ∷ []
unfolding computing one_bit image_of record_of named_from writes executed noting cycle_writes begin_writes whole_words joined state_writes any_names names first_bit place_of_word place_in facility_bytes word_bytes
one-bit-named = refl

one-bit-written : writes (image_of one_bit) before (record_of one_bit) [] 40 ≡ record { at = place 1 2 4 1; number = 1 } ∷ []
unfolding computing one_bit image_of record_of writes executed noting cycle_writes begin_writes whole_words joined state_writes
one-bit-written = refl

-- The same by the claim, of every bit but that one.
one-bit-completes : (cycle (image_of one_bit) before (record_of one_bit) [] 40).answer ≡ cycled 0
unfolding computing one_bit image_of record_of
one-bit-completes = refl

before-bytes : Bytes before
unfolding all_narrow no_spare_bits
before-bytes i = below_at (2 ^ byte_bits) before i (pow_pos byte_bits) (narrow_below byte_bits before refl)

not_there : (r n : ℕ) → (r ≡ n → ⊥) → both (leb n r) (ltb r (n + 1)) ≡ false
not_there r n h = go (leb n r) refl (ltb r (n + 1)) refl
  where
    go : (x : Bool) → leb n r ≡ x → (y : Bool) → ltb r (n + 1) ≡ y → both x y ≡ false
    go false p y q = refl
    go true p false q = refl
    go true p true q = absurd (h (let a = leb-true n r p in let b = ltb-true r (n + 1) q in omega (arith, a, b)))

one-bit-first : first_bit (decode (image_of one_bit)) (place 1 2 4 1) ≡ 56
unfolding computing one_bit image_of first_bit place_of_word place_in facility_bytes word_bytes
one-bit-first = refl

every-other-bit : (i b : ℕ) → b < byte_bits → (rank i b ≡ 56 → ⊥) → bit_at (store_after (image_of one_bit) before (record_of one_bit) [] 40) i b ≡ bit_at before i b
unfolding any_names names
every-other-bit i b l h =
    kept-bytes (image_of one_bit) before (record_of one_bit) [] 40 0 one-bit-completes before-bytes i b l
    (rw (one-bit-written, one-bit-first, not_there (rank i b) 56 h) refl)

-- ---- Writes of every kind.

-- Two delayed stores meet in A[7]; the sequencing register enters state Q.
unfoldable every_kind : List ℕ
every_kind =
    bytes "REGISTER #S[2],A[12]. MEMORY M[0:1,4]. TERMINAL G[3]=INPUT(1,G),Y[3].\nOPERATION X=[M[1,2:3]=2B11,A[5:7]<-G,A[7:8]<-2B01].\nCONTROL P(1): X,Y[2]@,->Q/ Q(2): ->P/."

-- S, A, the two words of M, G, Y, and a byte beyond the store.
abbrev standing : List ℕ
standing = 0x01 ∷ 0x0a ∷ 0xbc ∷ 0x09 ∷ 0x01 ∷ 0x05 ∷ 0x06 ∷ 0xff ∷ []

abbrev delayed_first : Write
delayed_first = record { at = place 1 0 4 3; number = 3 }

abbrev delayed_last : Write
delayed_last = record { at = place 1 0 6 2; number = 1 }

-- G takes the stimulus and Y is cleared; M[1] and Y[2] at once; A twice; then S.
every-kind-written : writes (image_of every_kind) standing (record_of every_kind) (3 ∷ []) 28
    ≡ record { at = place 3 0 0 3; number = 3 } ∷ record { at = place 4 0 0 3; number = 0 } ∷ record { at = place 2 1 1 2; number = 3 } ∷ record { at = place 4 0 1 1; number = 1 }
    ∷ delayed_first ∷ delayed_last ∷ record { at = place 0 0 0 2; number = 2 } ∷ []
unfolding computing every_kind image_of record_of writes executed noting cycle_writes begin_writes whole_words joined state_writes
every-kind-written = refl

every-kind-after : store_after (image_of every_kind) standing (record_of every_kind) (3 ∷ []) 28 ≡ 0x02 ∷ 0x0a ∷ 0x5c ∷ 0x09 ∷ 0x07 ∷ 0x03 ∷ 0x02 ∷ 0xff ∷ []
unfolding computing every_kind image_of record_of
every-kind-after = refl

-- S, A[5:8], M[1,2:3], G and Y: no spare bit, nor the byte beyond.
every-kind-named : named_from (decode (image_of every_kind)) (writes (image_of every_kind) standing (record_of every_kind) (3 ∷ []) 28) 64 0
    ≡ 6 ∷ 7 ∷ 16 ∷ 17 ∷ 18 ∷ 19 ∷ 37 ∷ 38 ∷ 45 ∷ 46 ∷ 47 ∷ 53 ∷ 54 ∷ 55 ∷ []
unfolding computing every_kind image_of record_of named_from writes executed noting cycle_writes begin_writes whole_words joined state_writes any_names names first_bit place_of_word place_in facility_bytes word_bytes
every-kind-named = refl

-- A[7] is bit 2 of byte 2: the later of the two delayed stores gives it.
first_gives : given (decode (image_of every_kind)) delayed_first 2 2 ≡ 1
unfolding computing every_kind image_of given first_bit place_of_word place_in facility_bytes word_bytes
first_gives = refl

last-gives : given (decode (image_of every_kind)) delayed_last 2 2 ≡ 0
unfolding computing every_kind image_of given first_bit place_of_word place_in facility_bytes word_bytes
last-gives = refl
