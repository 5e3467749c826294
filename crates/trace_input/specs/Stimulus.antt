-- A line of input bits as the bytes of a stimulus.
use Rattle.std.specs.Prelude as Code
use Rattle.std.specs.Prelude.{Bool, true, false, cond, List, None, Some, ◌≡◌, ℕ, ◌+◌, ◌≤◌, drop, length}
use Rattle.std.proofs.Math.Option.{Option, none, some}
use Rattle.language.specs.Calls.{over}
use Rattle.language.specs.Description.{Facility, word_length}
use Rattle.language.specs.Layout.{word_bytes}
use Rattle.language.specs.Reading.{zeroes}
use Rattle.language.specs.Store.{StoreWords, is_input, to_bytes}
use Rattle.language.specs.Trace.{bits_number, line_words}
use Rattle.store_layout.specs.Layout.{with_word}

abbrev pub octet_meant : Code.Option ℕ → Option ℕ
octet_meant (Some b) = some b
octet_meant None = none

-- How many bits a line has for a facility.
unfoldable pub input_bits : Facility → ℕ
input_bits f = cond (is_input f.kind) (word_length f) 0

-- A word of l bits, from a line's bits at `at` on.
pub record Words' (l : ℕ) (line : List ℕ) (at : ℕ) (B : List ℕ) (place : ℕ) (C : List ℕ) : Type 0 where
  pub number : ℕ
  pub is : bits_number l 0 (drop at line) ≡ some number
  pub bytes : C ≡ with_word B place l number
  pub in-line : at + l ≤ length line
  pub room : place + word_bytes l ≤ length B

-- Put into B at `place`, whether there is one and room for it.
abbrev pub Worded : ℕ → List ℕ → ℕ → List ℕ → ℕ → Bool → List ℕ → Type 0
Worded l line at B place true C = Words' l line at B place C
Worded l line at B place false C = (length C ≡ length B) × (place + word_bytes l ≤ length B → bits_number l 0 (drop at line) ≡ none)

-- ---- A whole line.

abbrev pub bytes_for : List Facility → Option StoreWords → Option (List ℕ)
bytes_for fs none = none
bytes_for fs (some s) = some (to_bytes fs s)

unfoldable pub line_bytes : List Facility → List ℕ → Option (List ℕ)
line_bytes fs line = bytes_for fs (line_words fs line)

-- What taking a line leaves in the buffer B: the stimulus in front, or nothing.
pub record Took : Type 0 where
  pub count : Option ℕ
  pub bytes : List ℕ

abbrev pub took : Option (List ℕ) → List ℕ → Took
took none B = record { count = none; bytes = zeroes (length B) }
took (some t) B = record { count = some (length t); bytes = over t B }

abbrev pub took_meant : Code.Option ℕ → List ℕ → Took
took_meant (Some n) C = record { count = some n; bytes = C }
took_meant None C = record { count = none; bytes = C }
