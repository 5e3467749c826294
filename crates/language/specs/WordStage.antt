-- The stage of words (01, "Refusal numbers"): the words of a whole text with their places, the faults of words and lines, and which one answers.
use Rattle.std.specs.Prelude.{Bool, cond, ◌||◌, ◌&&◌, List, [], ◌∷◌, ◌++◌, ℕ, zero, suc, ◌+◌, eqb, ltb, drop, length}
use Rattle.std.proofs.Math.Option.{Option, none, some}
use Rattle.language.specs.Columns.{long_lines}
use Rattle.language.specs.Scan.{Item, constant, gap, item_at, named, sign, wrong}
use Rattle.language.specs.Words as W
use Rattle.language.specs.Words.{Fault, Position, Word, fault, fault_number, position}

-- The smaller of two faults: by place, and at one place by number.
unfoldable pub before : Fault → Fault → Bool
before a b =
    ltb a.at.place b.at.place
    || (eqb a.at.place b.at.place && ltb (fault_number a) (fault_number b))

abbrev pub smaller : Fault → Option Fault → Fault
smaller a none = a
smaller a (some b) = cond (before b a) b a

-- The least of some faults.
unfoldable pub least : List Fault → Option Fault
least [] = none
least (a ∷ more) = some (smaller a (least more))

-- What is found of a text: its words, and the faults among them.
pub record Scanned : Type 0 where
  pub words : List Word
  pub faults : List Fault

abbrev pub noted : Position → Item → Scanned → Scanned
noted p gap r = r
noted p (named n) r = record { words = W.name n p ∷ r.words; faults = r.faults }
noted p (constant c) r = record { words = W.constant c p ∷ r.words; faults = r.faults }
noted p (sign k) r = record { words = W.sign k p ∷ r.words; faults = r.faults }
noted p (wrong q) r = record { words = r.words; faults = fault p q ∷ r.faults }

-- The items of a text that stands at a place; every item takes a byte or more, so there are no more than k of them where the text has k bytes.
unfoldable pub scan_from : ℕ → ℕ → List ℕ → Scanned
scan_from zero at s = record { words = []; faults = [] }
scan_from (suc k) at [] = record { words = []; faults = [] }
scan_from (suc k) at (b ∷ s) =
    let f = item_at b s in
    noted (position at) f.item (scan_from k (at + f.size) (drop f.size (b ∷ s)))

unfoldable pub scan : List ℕ → Scanned
scan text = scan_from (length text) 0 text

-- The words of a text that stands at a place, without regard to faults.
unfoldable pub words_from : ℕ → List ℕ → List Word
words_from at text = (scan_from (length text) at text).words

unfoldable pub word_faults : List ℕ → List Fault
word_faults text = (scan text).faults ++ long_lines 0 0 text

-- The stage's answer: the fault that is refused, if any.
unfoldable pub word_fault : List ℕ → Option Fault
word_fault text = least (word_faults text)
