-- What the trace program prints (01, "Cases"), over the public calls alone: reading, opening, and a cycle for each line of input bits.
use Rattle.std.specs.Prelude.{Bool, false, cond, List, [], ◌∷◌, ◌++◌, ℕ, zero, suc, ◌+◌, ◌*◌, ◌/◌, ◌%◌, ◌^◌, eqb, leb, drop}
use Rattle.std.proofs.Math.Option.{Option, none, some}
use Rattle.language.specs.Calls.{CycleAnswer, CycleCall, OpenCall, cycle, cycled, open', refused_for, stopped_for}
use Rattle.language.specs.Decode.{decode}
use Rattle.language.specs.Description.{Description, Facility, is_computed, state_at, word_length}
use Rattle.language.specs.Layout.{store_size}
use Rattle.language.specs.Encode.{encode}
use Rattle.language.specs.InputLines.{lines_of}
use Rattle.language.specs.Reading.{Read, legal, read_text, refused_at}
use Rattle.language.specs.RecordBytes.{record_from, record_size}
use Rattle.language.specs.Refusals.{refusal_number}
use Rattle.language.specs.declared.refusals.Refusal.{Refusal}
use Rattle.language.specs.declared.refusals.Refusal.TheVariants.{BadStimulus}
use Rattle.language.specs.Scan.{bytes}
use Rattle.language.specs.Stops.{stop_number}
use Rattle.language.specs.declared.stops.Stop.{Stop}
use Rattle.language.specs.Store.{StoreWords, from_bytes, inputs_of, to_bytes}
use Rattle.language.specs.Tree.{Name}
use Rattle.language.specs.Words.{fault_number}

-- ---- Numbers and bits in print.

-- n in decimal digits, of at most k digits.
unfoldable pub decimal_from : ℕ → ℕ → List ℕ → List ℕ
decimal_from zero n tail = tail
decimal_from (suc k) n tail =
    let more = decimal_from k (n / 10) ((n % 10 + 48) ∷ tail) in
    cond (eqb (n / 10) 0) ((n % 10 + 48) ∷ tail) more

-- A number n has at most n + 1 digits.
abbrev pub decimal : ℕ → List ℕ
decimal n = decimal_from (suc n) n []

-- The l bits of a number, the most significant first.
unfoldable pub bits : ℕ → ℕ → List ℕ
bits zero x = []
bits (suc l) x = (x / 2 ^ l % 2 + 48) ∷ bits l x

abbrev pub line_end : List ℕ
line_end = 10 ∷ []

-- ---- A line of output: cycle, label, and all stored facilities of at most one dimension.

abbrev pub printed_label : Name → List ℕ
printed_label [] = bytes "-"
printed_label (b ∷ n) = b ∷ n

abbrev pub first_word : List ℕ → ℕ
first_word [] = 0
first_word (x ∷ xs) = x

abbrev pub shown : Facility → Bool
shown f = cond (is_computed f.kind) false (leb f.dimensions 1)

unfoldable pub facilities_line : List Facility → StoreWords → List ℕ
facilities_line [] s = []
facilities_line (f ∷ fs) [] = []
facilities_line (f ∷ fs) (ws ∷ s) =
    let rest = facilities_line fs s in
    let this = bytes " " ++ (f.name ++ (bytes "=" ++ (bits (word_length f) (first_word ws) ++ rest))) in
    cond (shown f) this rest

unfoldable pub cycle_line : Description → ℕ → ℕ → List ℕ → List ℕ
cycle_line d number state store =
    decimal number ++ (bytes " " ++ (printed_label (state_at d state).name ++ (facilities_line d.facilities (from_bytes d.facilities store) ++ line_end)))

-- ---- A line of input: the bits of all input terminals in declared order, nothing between or after them.

unfoldable pub bits_number : ℕ → ℕ → List ℕ → Option ℕ
bits_number zero x bs = some x
bits_number (suc k) x [] = none
bits_number (suc k) x (b ∷ bs) =
    let zero_bit = bits_number k (x * 2) bs in
    let one_bit = bits_number k (x * 2 + 1) bs in
    cond (eqb b 48) zero_bit (cond (eqb b 49) one_bit none)

abbrev pub cons_word : Option ℕ → Option StoreWords → Option StoreWords
cons_word none s = none
cons_word (some x) none = none
cons_word (some x) (some s) = some ((x ∷ []) ∷ s)

unfoldable pub line_words : List Facility → List ℕ → Option StoreWords
line_words [] [] = some []
line_words [] (b ∷ bs) = none
line_words (f ∷ fs) bs = cons_word (bits_number (word_length f) 0 bs) (line_words fs (drop (word_length f) bs))

-- ---- The run. A stop or refusal is the last line printed.

abbrev pub stop_line : Stop → List ℕ
stop_line s = bytes "stop " ++ (decimal (stop_number s) ++ line_end)

abbrev pub refused_line : Refusal → List ℕ
refused_line r = bytes "refused " ++ (decimal (refusal_number r) ++ line_end)

abbrev pub end_line : ℕ → List ℕ
end_line n = bytes "end " ++ (decimal n ++ line_end)

module _ (image : List ℕ) (d : Description) where
  abbrev pub after_call : ℕ → ℕ → (List ℕ → List ℕ → List ℕ) → CycleCall → List ℕ
  after_call number state on c = by_answer c.answer
    where
      by_answer : CycleAnswer → List ℕ
      by_answer (cycled n) = cycle_line d number state c.store ++ on c.store c.record'
      by_answer (stopped_for n) = stop_line n
      by_answer (refused_for n) = refused_line n

  abbrev pub with_input : Option StoreWords → (List ℕ → List ℕ) → List ℕ
  with_input none on = refused_line BadStimulus
  with_input (some s) on = on (to_bytes (inputs_of d.facilities) s)

  -- The lines that are left, after `done` cycles.
  unfoldable pub run_lines : List (List ℕ) → ℕ → List ℕ → List ℕ → List ℕ
  run_lines [] done store rec = end_line done
  run_lines (l ∷ ls) done store rec =
      with_input (line_words (inputs_of d.facilities) l) (λ stimulus.
      after_call (suc done) (record_from rec).state (run_lines ls (suc done)) (cycle image store rec stimulus (4 * store_size d)))

unfoldable pub trace_image : List ℕ → List (List ℕ) → List ℕ
trace_image image lines =
    let d = decode image in
    let o : OpenCall = open' image (store_size d) record_size in
    run_lines image d lines 0 o.store o.record'

-- Reading is given the room it asks for.
abbrev pub after_read : List (List ℕ) → Read → List ℕ
after_read lines (legal d) = trace_image (encode d) lines
after_read lines (refused_at f) = bytes "refused " ++ (decimal (fault_number f) ++ (bytes " " ++ (decimal f.at.place ++ line_end)))

-- The whole output for a text and its lines of input.
unfoldable pub trace : List ℕ → List (List ℕ) → List ℕ
trace text lines = after_read lines (read_text text)

-- The whole output for a text and the bytes of standard input.
abbrev pub printed : List ℕ → List ℕ → List ℕ
printed text input = trace text (lines_of input)
