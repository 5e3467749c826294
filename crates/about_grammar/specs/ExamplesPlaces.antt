-- What the worked examples of the places of refusals say of a text.
use Rattle.std.specs.Prelude.{List, ◌++◌, ◌≡◌, ℕ, length}
use Rattle.language.specs.declared.refusals.Refusal.{Refusal}
use Rattle.language.specs.WordStage.{scan}
use Rattle.language.specs.Words.{Fault, fault, position}
use Rattle.about_grammar.specs.Places.{RefusalOf}

-- A refusal of this text has this number and place, and there is one.
pub record Only (s : List ℕ) (f : Fault) : Type 0 where
  pub so : RefusalOf (scan s).words (length s) f
  pub alone : (g : Fault) → RefusalOf (scan s).words (length s) g → g ≡ f

abbrev pub Refused : Refusal → List ℕ → List ℕ → Type 0
Refused r a b = Only (a ++ b) (fault (position (length a)) r)
