-- What comes of reading a text by the grammar: the first fault, or the text in the array.
use Rattle.std.specs.Prelude.{List, ◌≡◌, ℕ, length, Err, Ok, Result}
use Rattle.parse_step.specs.declared.State.{State}
use Rattle.language.specs.Building.{Built}
use Rattle.language.specs.Machine.{parsed, refused}
use Rattle.language.specs.SectionWays.{parse}
use Rattle.language.specs.WordStage.{scan}
use Rattle.text_words.specs.declared.Fault.{Fault}
use Rattle.text_words.specs.Meaning.{faulted}
use Rattle.parse_held.specs.declared.Holding.{Holding}
use Rattle.call_read.specs.Ready.{Whole}
use Rattle.parse_step.specs.declared.Unread.TheVariants.{Full, Refused}
use Rattle.parse_step.specs.declared.Unread.{Unread}

-- The text was parsed, and the array holds its description.
pub record Parses (text work : List ℕ) (c : Holding) : Type 0 where
  pub built : Built
  pub course : parse (scan text).words (length text) ≡ parsed built
  pub whole : Whole text work c built.text

pub record Described (text work : List ℕ) (r : Result Holding Unread) : Type 0 where
  pub refused : (f : Fault) → r ≡ Err (Refused f) → parse (scan text).words (length text) ≡ refused (faulted f)
  pub full : {z : State} → r ≡ Err (Full z) → ⊥
  pub done : (c : Holding) → r ≡ Ok c → Parses text work c
