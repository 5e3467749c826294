-- Reading accepts exactly the legal texts, each with the description of the one tree that it has; and a refusal is the least fault of the earliest stage that has one. Assumes nothing.
use Rattle.std.specs.Prelude.{List, [], ◌≡◌, ℕ, ◌≤◌, ◌<◌, length}
use Rattle.std.proofs.Math.Option.{none}
use Rattle.language.specs.CountedWords.{WithinCeilings}
use Rattle.language.specs.DescribeText.{describe}
use Rattle.language.specs.Description.{Description}
use Rattle.language.specs.Grammar.{Is}
use Rattle.language.specs.Ceilings.{deepest, longest_text}
use Rattle.language.specs.Notions.{text, whole_text}
use Rattle.language.specs.declared.refusals.Refusal.TheVariants.{TextTooLong}
use Rattle.language.specs.Rules.{faults}
use Rattle.language.specs.Tree.{Text}
use Rattle.language.specs.WordStage.{scan, word_fault, word_faults}
use Rattle.language.specs.Words.{Fault, fault, position}
use Rattle.about_grammar.specs.Places.{RefusalOf}
use Rattle.about_reading.specs.Least.{Least}

-- A text with this tree is legal: no stage has a fault.
pub record LegalText (s : List ℕ) (t : Text) : Type 0 where
  pub short : length s ≤ longest_text
  pub words-fine : word_fault s ≡ none
  pub derived : Is whole_text deepest (scan s).words (text t)
  pub within : WithinCeilings t
  pub faultless : faults (describe t).description (describe t).places ≡ []

-- ---- What is accepted is legal.

pub record Accepted (s : List ℕ) (d : Description) : Type 0 where
  pub tree : Text
  pub legal-text : LegalText s tree
  pub described : (describe tree).description ≡ d

-- ---- A refusal is the least fault of the earliest stage that has one.

pub data Refusal (s : List ℕ) : Fault → Type 0 where
  -- too long
  one : longest_text < length s → Refusal s (fault (position 0) TextTooLong)
  -- words: the least of the faults of words and lines
  of_words : {f : Fault} → length s ≤ longest_text → Least f (word_faults s) → Refusal s f
  -- grammar: 3 at the first word with no legal continuation, or 10 at the one that passes a ceiling
  of-grammar : {f : Fault} → length s ≤ longest_text → word_fault s ≡ none → RefusalOf (scan s).words (length s) f → Refusal s f
  -- the rest: the least of the faults of what it describes
  of-rules : {f : Fault} {t : Text} → length s ≤ longest_text → word_fault s ≡ none → Is whole_text deepest (scan s).words (text t) → WithinCeilings t
      → Least f (faults (describe t).description (describe t).places) → Refusal s f
