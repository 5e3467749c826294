-- What writing makes of a text that was read.
use Rattle.std.specs.Prelude.{List, ◌≡◌, ℕ, ◌≤◌, length}
use Rattle.call_read.specs.Outcomes.{Parses}
use Rattle.language.specs.DescribeText.{describe}
use Rattle.language.specs.Reading.{ReadCall, read_call, rest_of}
use Rattle.parse_held.specs.declared.Holding.{Holding}

-- What is owed of a text that the array holds, in a buffer of n bytes.
abbrev pub Writes : List ℕ → List ℕ → Holding → ℕ → ReadCall → Type 0
Writes text work c n x = (p : Parses text work c) → length text ≤ 32768 → x ≡ read_call n (rest_of (describe p.built.text))
