-- What a name that must come answers, and an action's record put behind the others.
use Rattle.std.specs.Prelude.{true, false, cond, List, [], ◌∷◌, ◌≡◌, ℕ, ◌+◌, ◌<◌, ◌≤◌, length, Err, Ok}
use Rattle.language.specs.declared.refusals.Refusal.TheVariants.{CeilingPassed}
use Rattle.parse_step.specs.declared.Bearing.TheVariants.{Level}
use Rattle.parse_step.specs.declared.State.{State}
use Rattle.parse_step.specs.Course.{Seen, Stack, counts_of, runs, runs_on, ahead}
use Rattle.parse_step.specs.Gained.{with_action_count}
use Rattle.parse_step.specs.Taken.{Took, after_word}
use Rattle.language.specs.Building.{Built}
use Rattle.language.specs.Description as D
use Rattle.language.specs.Kinds.{a_name}
use Rattle.language.specs.Machine.{Ask, Parsed, ask, keep, refused, within_ceilings}
use Rattle.language.specs.Tree as T
use Rattle.language.specs.Words.{fault}
use Rattle.language.specs.Naming.{Scope, meaning}
use Rattle.parse_tables.specs.declared.meaning.KnownNames.{KnownNames}
use Rattle.parse_tables.specs.declared.meaning.Meaning.{Meaning}
use Rattle.parse_tables.specs.Known.{Known, meant}
use Rattle.parse_operands.specs.References.{letters_of}
use Rattle.parse_expressions.specs.Phrases.{after_name}
use Rattle.parse_tables.specs.Actions.{ActionAdded}
use Rattle.text_words.specs.declared.Fault.{Fault}
use Rattle.text_words.specs.declared.Position.{Position}
use Rattle.text_words.specs.declared.Word.{Word}
use Rattle.text_words.specs.Meaning.{faulted, positioned}
use Rattle.parse_array.specs.Layout.{most_actions, work_size}
use Rattle.parse_stores.specs.Actions.{Acts, grown}
use Rattle.parse_step.specs.declared.Unread.TheVariants.{Full, Refused}
use Rattle.parse_step.specs.Answers.{Answer}
use Rattle.parse_step.specs.declared.Reached.{Reached}

-- ---- A name that must come is kept; it is not counted.

pub record NameKept (text : List ℕ) (w : Word) (s : State) (r : Reached) : Type 0 where
  pub course : (K : Stack) (b : Built) → runs text (keep a_name ∷ K) w b s ≡ runs text K r.next (after_name w text b) r.state
  pub took : Took text w (after_word false Level s) s (Ok r)

-- The counts before it are within the ceilings.
pub record KeepsName (text : List ℕ) (w : Word) (s : State) (r : Answer) : Type 0 where
  pub done : {r' : Reached} → r ≡ Ok r' → Seen text w → NameKept text w s r'
  pub refused : (f : Fault) → r ≡ Err (Refused f) → Seen text w → within_ceilings (counts_of s) ≡ true → (K : Stack) (b : Built) → runs text (keep a_name ∷ K) w b s ≡ refused (faulted f)
  pub full : {z : State} → r ≡ Err (Full z) → ⊥

-- ---- An action's record behind the others; the word after the action has been seen.

pub record Puts (a : D.Action) (at : Position) (next : Word) (s : State) (work work' : List ℕ) (r : Answer) : Type 0 where
  pub word : {r' : Reached} → r ≡ Ok r' → r'.next ≡ next
  pub state : {r' : Reached} → r ≡ Ok r' → r'.state ≡ with_action_count s (s.actions + 1)
  pub whole : length work' ≡ work_size
  pub added : {r' : Reached} → r ≡ Ok r' → ActionAdded s.actions a at work work' true
  pub refused : (f : Fault) → r ≡ Err (Refused f) → ⊥
  pub full : {z : State} → r ≡ Err (Full z) → most_actions ≤ s.actions

-- What a name means, by its word.
abbrev pub NameMeans : List ℕ → List ℕ → KnownNames → Word → Meaning → Type 0
NameMeans text work n name r = length text < 65536 → (sc : Scope) → Known text sc n work → meant r ≡ meaning sc (letters_of text name)

-- ---- A name alone performs an operation and counts, by an ask that leaves it so.

abbrev pub alone : List ℕ → Word → Word → State → Stack → Built → Parsed Built
alone text name w s K b =
    cond (within_ceilings (after_word true Level s))
    (runs_on text K (ahead text w) (grown (T.perform (letters_of text name) (positioned name.at) T.done) b) (after_word true Level s))
    (refused (fault (positioned name.at) CeilingPassed))

abbrev pub Performs : Word → List ℕ → KnownNames → Word → State → List ℕ → List ℕ → Answer → Type 0
Performs name text n w s work work' r =
    (a : Ask) → (Seen text w → (K : Stack) (b : Built) → runs text (ask a ∷ K) w (after_name name text b) s ≡ alone text name w s K b)
    → Acts (ask a ∷ []) (after_name name) text n w s work work' r
