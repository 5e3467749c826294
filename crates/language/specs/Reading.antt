-- What reading owes (01, "Refusal numbers"): stages over the whole text, the earliest answers, in it the smallest place, there the smallest number; and every byte of the buffer lent.
use Rattle.std.specs.Prelude.{cond, List, ◌++◌, ℕ, ◌-◌, leb, ltb, length, replicate}
use Rattle.std.proofs.Math.Option.{Option, none, some}
use Rattle.language.specs.Ceilings.{longest_text}
use Rattle.language.specs.Building.{Built}
use Rattle.language.specs.DescribeText.{Described, describe}
use Rattle.language.specs.Description.{Description}
use Rattle.language.specs.Encode.{encode}
use Rattle.language.specs.Machine.{Parsed, parsed, refused}
use Rattle.language.specs.declared.refusals.Refusal.{Refusal}
use Rattle.language.specs.declared.refusals.Refusal.TheVariants.{BufferTooShort, TextTooLong}
use Rattle.language.specs.Rules.{faults}
use Rattle.language.specs.SectionWays.{parse}
use Rattle.language.specs.WordStage.{least, scan, word_fault}
use Rattle.language.specs.Words.{Fault, fault, position}

-- n zero bytes.
abbrev pub zeroes : ℕ → List ℕ
zeroes n = replicate n 0

-- A buffer of n bytes that begins with these and is zero beyond them.
unfoldable pub filled : ℕ → List ℕ → List ℕ
filled n bs = bs ++ zeroes (n - length bs)

-- What a text is: a legal description, or a refusal.
pub data Read : Type 0 where
  legal : Description → Read
  refused_at : Fault → Read

abbrev pub or_legal : Description → Option Fault → Read
or_legal d none = legal d
or_legal d (some f) = refused_at f

-- The rest of the rules, after the grammar.
unfoldable pub rest_of : Described → Read
rest_of x = or_legal x.description (least (faults x.description x.places))

abbrev pub after_grammar : Parsed Built → Read
after_grammar (parsed b) = rest_of (describe b.text)
after_grammar (refused f) = refused_at f

abbrev pub after_words : List ℕ → Option Fault → Read
after_words text none = after_grammar (parse (scan text).words (length text))
after_words text (some f) = refused_at f

unfoldable pub read_text : List ℕ → Read
read_text text =
    let rest = after_words text (word_fault text) in
    cond (ltb longest_text (length text)) (refused_at (fault (position 0) TextTooLong)) rest

-- ---- The call: its answer, and the image buffer of `room` bytes afterwards.

pub data ReadAnswer : Type 0 where
  -- the image's length
  accepted : ℕ → ReadAnswer
  -- with its place
  refused_for : Refusal → ℕ → ReadAnswer

pub record ReadCall : Type 0 where
  pub answer : ReadAnswer
  pub image : List ℕ

abbrev pub read_refused : ℕ → Refusal → ℕ → ReadCall
read_refused room r p = record { answer = refused_for r p; image = zeroes room }

-- 12 comes last.
abbrev pub with_room : ℕ → List ℕ → ReadCall
with_room room image =
    cond (leb (length image) room) (record { answer = accepted (length image); image = filled room image }) (read_refused room BufferTooShort 0)

abbrev pub read_call : ℕ → Read → ReadCall
read_call room (legal d) = with_room room (encode d)
read_call room (refused_at f) = read_refused room f.refusal f.at.place

unfoldable pub read : List ℕ → ℕ → ReadCall
read text room = read_call room (read_text text)
