-- What parsing pays for: a counted word pays for seven records.
use Rattle.std.specs.Prelude.{List, ◌≡◌, ℕ, ◌+◌, ◌*◌, ◌≤◌, Err, Ok}
use Rattle.text_words.specs.declared.Word.{Word}
use Rattle.parse_step.specs.declared.State.{State}
use Rattle.parse_step.specs.Course.{Seen}
use Rattle.parse_step.specs.declared.Unread.TheVariants.{Full}
use Rattle.parse_step.specs.Answers.{Answer}
use Rattle.parse_step.specs.declared.Reached.{Reached}

-- Other counts are kept, and the records of actions; counted words stay within their ceiling; records are paid for by the words counted and `pay` besides, and `left` of that is left over.
pub record Pays (pay left : ℕ) (s s' : State) : Type 0 where
  pub facilities : s'.facilities ≡ s.facilities
  pub operations : s'.operations ≡ s.operations
  pub states : s'.states ≡ s.states
  pub actions : s'.actions ≡ s.actions
  pub known : s'.known ≡ s.known
  pub counted : s.counted ≤ s'.counted
  pub ceiling : s.counted ≤ 2048 → s'.counted ≤ 2048
  pub nodes : s'.nodes + left + 7 * s.counted ≤ s.nodes + pay + 7 * s'.counted

-- So parsing comes from the state s to another, with a word of the text ahead.
pub record Comes (text : List ℕ) (pay left : ℕ) (s : State) (w' : Word) (s' : State) : Type 0 where
  pub pays : Pays pay left s s'
  pub seen : Seen text w'

-- An answer that is done leaves one over; where the array is full all was paid for. It is not said of refusals.
pub record Spends (text : List ℕ) (pay : ℕ) (w : Word) (s : State) (r : Answer) : Type 0 where
  pub done : {r' : Reached} → r ≡ Ok r' → Seen text w → Comes text pay 1 s r'.next r'.state
  pub full : {z : State} → r ≡ Err (Full z) → Seen text w → Pays pay 0 s z
