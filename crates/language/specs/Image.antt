-- Which images pass (01, "Image, store, record"): those that a reading would write, if texts, lines and nesting had no ceiling. Bytes past the total length are not looked at, none before may be missing.
use Rattle.std.specs.Prelude.{Bool, true, false, cond, List, [], ◌∷◌, ◌≡◌, ℕ, ◌≤◌, ◌<◌, ◌^◌, eqb, leb, length, take}
use Rattle.language.specs.Canonical.{canonical, name_right}
use Rattle.language.specs.CountedWords.{WithinCeilings}
use Rattle.language.specs.Constants.{bare_length}
use Rattle.language.specs.Decode.{decode, number_at}
use Rattle.language.specs.DescribeText.{describe}
use Rattle.language.specs.Description.{Description, no_places}
use Rattle.language.specs.Encode.{encode, header_size, length_field}
use Rattle.language.specs.Grammar.{Is}
use Rattle.language.specs.Notions.{text, whole_text}
use Rattle.language.specs.Rules.{faults}
use Rattle.language.specs.Scan.{same}
use Rattle.language.specs.Tree.{Text}
use Rattle.language.specs.Words as W
use Rattle.language.specs.Words.{Constant, Word}
use Rattle.language.specs.Ceilings.{longest}
use Rattle.language.specs.Tests.{both}

-- ---- In words: the image of a legal text.

-- Words as the stage of words lets them through.
pub record ConstantRight (c : Constant) : Type 0 where
  pub some_bits : 1 ≤ c.value.length
  pub at-most : c.value.length ≤ longest
  pub fits : c.value.number < 2 ^ c.value.length
  pub bare-length : c.bare ≡ true → c.value.length ≡ bare_length

abbrev pub WordRight : Word → Type 0
WordRight (W.name n p) = name_right n ≡ true
WordRight (W.constant c p) = ConstantRight c
WordRight (W.sign k p) = Unit {0}

abbrev pub WordsRight : List Word → Type 0
WordsRight [] = Unit {0}
WordsRight (w ∷ ws) = WordRight w × WordsRight ws

-- A tree of the grammar within the ceilings and without fault.
pub record Legal (t : Text) : Type 0 where
  pub words : List Word
  pub nesting : ℕ
  pub right : WordsRight words
  pub derived : Is whole_text nesting words (text t)
  pub within : WithinCeilings t
  pub faultless : faults (describe t).description (describe t).places ≡ []

pub record Passes (image : List ℕ) : Type 0 where
  pub tree : Text
  pub legal : Legal tree
  pub same : take (length (encode (describe tree).description)) image ≡ encode (describe tree).description

-- ---- As a test that computes.

-- A description without fault in the form that reading gives.
unfoldable pub legal_form : Description → Bool
legal_form d = both (canonical d) (eqb (length (faults d no_places)) 0)

abbrev pub total_length : List ℕ → ℕ
total_length image = number_at 4 length_field image

-- The bytes up to the total length are those of what they describe.
unfoldable pub passes : List ℕ → Bool
passes image =
    let d = decode image in
    let whole = both (same (take (total_length image) image) (encode d)) (legal_form d) in
    cond (both (leb header_size (length image)) (leb (total_length image) (length image))) whole false
