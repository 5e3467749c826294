-- The machine of the grammar seen from the code: its counts in the state, its words from the look-ahead on.
use Rattle.std.specs.Prelude.{List, ℕ, ◌+◌, drop, length}
use Rattle.language.specs.Building.{Built}
use Rattle.language.specs.Declaring.{tree_steps}
use Rattle.language.specs.Kinds.{a_constant, a_name}
use Rattle.language.specs.Machine.{Bearing, Counts, Parsed, Sym, bears, closes, level, opens, reading, run, within_ceilings}
use Rattle.language.specs.SectionWays.{rule_of}
use Rattle.language.specs.Words as L
use Rattle.language.specs.WordStage.{words_from}
use Rattle.text_words.specs.declared.WordKind.{WordKind}
use Rattle.text_words.specs.declared.WordKind.TheVariants as K
use Rattle.text_words.specs.declared.Word.{Word}
use Rattle.text_words.specs.Meaning.{Next, following}
use Rattle.parse_step.specs.declared.Bearing as B
use Rattle.parse_step.specs.declared.Bearing.TheVariants.{Closes, Level, Opens}
use Rattle.parse_step.specs.declared.State.{State}

abbrev pub Stack : Type 0
Stack = List (Sym Built)

-- A word's kind by number; the end of the text has none.
abbrev pub kind_no : WordKind → ℕ
kind_no K.End = 0
kind_no K.Name = a_name
kind_no K.Constant = a_constant
kind_no (K.Sign k) = k

abbrev pub bearing_of : B.Bearing → Bearing
bearing_of Level = level
bearing_of Opens = opens
bearing_of Closes = closes

abbrev pub borne : B.Bearing → ℕ → ℕ
borne b n = bears (bearing_of b) n

-- The counts of a state, with other numbers of what is counted and open.
abbrev pub counts5 : State → ℕ → ℕ → Counts
counts5 s counted nesting = record { facilities = s.facilities; operations = s.operations; states = s.states; counted = counted; nesting = nesting }

abbrev pub counts_of : State → Counts
counts_of s = counts5 s s.counted s.nesting

-- The words from the look-ahead on, and those behind it.
unfoldable pub ahead : List ℕ → Word → List L.Word
ahead text w = following text w

unfoldable pub behind : List ℕ → Word → List L.Word
behind text w = words_from (w.at.place + w.size) (drop (w.at.place + w.size) text)

-- The look-ahead was read from the text.
pub record Seen (text : List ℕ) (w : Word) : Type 0 where
  pub from : ℕ
  pub next : Next text from w

-- What the machine makes of some words with a stack and counts, and of those from the look-ahead on.
unfoldable pub runs_on : List ℕ → Stack → List L.Word → Built → Counts → Parsed Built
runs_on text K vs b c = run tree_steps within_ceilings (rule_of tree_steps) K vs (length text) (reading b c)

abbrev pub runs : List ℕ → Stack → Word → Built → State → Parsed Built
runs text K w b s = runs_on text K (ahead text w) b (counts_of s)
