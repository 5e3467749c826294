-- How long numbers and facilities are in print, at most. Assumes nothing.
use mathlib.Core.Bool.{Bool, true, false, cond}
use mathlib.Core.List.{List, [], ◌∷◌, ◌++◌}
use Prim.Native.Nat.{ℕ, zero, suc, ◌+◌, ◌/◌, ◌%◌, ◌^◌, ◌<◌, ◌≤◌}
use native.Mathlib.Omega.{arith}
use lib.Dec.{eqb}
use lib.ListN.{length, length-append}
use Rattle.language.specs.Description.{Description, Facility, state_at, word_length}
use Rattle.language.specs.Scan.{bytes}
use Rattle.language.specs.Store.{StoreWords, from_bytes}
use Rattle.language.specs.Trace.{bits, cycle_line, decimal, decimal_from, facilities_line, first_word, line_end, printed_label, shown}
use Rattle.language.specs.Tree.{Name}
use Rattle.trace_output.specs.Room.{line_room}
use Rattle.trace_output.proofs.BitLaws.{length-bits}
use Rattle.trace_output.proofs.DecimalLaws.{twenty-enough}

digits-short : (k n : ℕ) (tail : List ℕ) → length (decimal_from k n tail) ≤ k + length tail
unfolding decimal_from
digits-short zero n tail = omega arith
digits-short (suc k) n tail = go (eqb (n / 10) 0) (digits-short k (n / 10) ((n % 10 + 48) ∷ tail))
  where
    go : (b : Bool) → length (decimal_from k (n / 10) ((n % 10 + 48) ∷ tail)) ≤ k + suc (length tail) → length (cond b ((n % 10 + 48) ∷ tail) (decimal_from k (n / 10) ((n % 10 + 48) ∷ tail))) ≤ suc k + length tail
    go true i = omega arith
    go false i = omega arith

-- A number of 64 bits.
pub decimal-short : (n : ℕ) → n < 2 ^ 64 → length (decimal n) ≤ 20
decimal-short n h = rw (← twenty-enough n h) (digits-short 20 n [])

pub facilities-short : (fs : List Facility) (s : StoreWords) → length (facilities_line fs s) ≤ line_room fs
unfolding facilities_line line_room bytes
facilities-short [] s = omega arith
facilities-short (f ∷ fs) [] = omega arith
facilities-short (f ∷ fs) (ws ∷ s) = go (shown f) (facilities-short fs s)
  where
    rest : List ℕ
    rest = facilities_line fs s

    word : List ℕ
    word = bits (word_length f) (first_word ws)

    go : (b : Bool) → length rest ≤ line_room fs → length (cond b (32 ∷ (f.name ++ (61 ∷ (word ++ rest)))) rest) ≤ cond b (2 + length f.name + word_length f) 0 + line_room fs
    go true i =
        omega (arith, length-append f.name (61 ∷ (word ++ rest)), length-append word rest, length-bits (word_length f) (first_word ws))
    go false i = omega arith

label-short : (n : Name) → length (printed_label n) ≤ 1 + length n
unfolding bytes
label-short [] = omega arith
label-short (b ∷ n) = omega arith

-- A whole line: at most 20 digits, a blank, the label or a dash, the facilities, and the end.
pub cycle-short : (d : Description) (number state : ℕ) (B : List ℕ) → number < 2 ^ 64 → length (cycle_line d number state B) ≤ 23 + length (state_at d state).name + line_room d.facilities
unfolding cycle_line bytes
cycle-short d number state B h =
    let l = printed_label (state_at d state).name in
    let t = facilities_line d.facilities (from_bytes d.facilities B) in
    omega (arith, decimal-short number h, label-short (state_at d state).name, facilities-short d.facilities (from_bytes d.facilities B), length-append (decimal number) (32 ∷ (l ++ (t ++ line_end))), length-append l (t ++ line_end), length-append t line_end)
