-- What stands when the states behind the other sections have been read.
use Rattle.std.specs.Prelude.{List, ◌≡◌, ℕ, Err, Ok}
use Rattle.std.proofs.Math.Option.{Option}
use Rattle.parse_step.specs.declared.State.{State}
use Rattle.parse_step.specs.declared.Unread.TheVariants as Vd
use Rattle.parse_step.specs.Course.{runs}
use Rattle.language.specs.Building.{Built, with_text}
use Rattle.language.specs.DescribeText.{describe, facilities_of, length_at}
use Rattle.language.specs.Description.{sequencing_from}
use Rattle.language.specs.Machine.{parsed, refused}
use Rattle.language.specs.Tree as T
use Rattle.language.specs.Tree.{Declaration, Operation, Text}
use Rattle.about_rules.specs.WithinCounts.{declarations_of}
use Rattle.parse_sections.specs.Sections.{Ready}
use Rattle.parse_states.specs.Begins.{length_of}
use Rattle.parse_states.specs.States.{more_of, start_stack}
use Rattle.text_words.specs.declared.Fault.{Fault}
use Rattle.text_words.specs.declared.Word.{Word}
use Rattle.text_words.specs.Meaning.{faulted}
use Rattle.parse_held.specs.declared.Holding.{Holding}
use Rattle.parse_held.specs.NearTexts.{TextNear}
use Rattle.parse_held.specs.Sections.{Few}
use Rattle.parse_held.specs.Standing.{Stands, StandsBeside}
use Rattle.parse_step.specs.Answers.{Answer}
use Rattle.parse_step.specs.declared.Reached.{Reached}

-- For some facilities and operations.
pub record Behind (text : List ℕ) (w : Word) (s : State) (work : List ℕ) : Type 0 where
  pub declared : List Declaration
  pub operations : List Operation
  pub ready : Ready text declared operations w s work

-- The length that a bare value takes where these facilities are declared.
abbrev pub length_in : List Declaration → Option ℕ
length_in ds = length_at (facilities_of 0 ds) (sequencing_from 0 (facilities_of 0 ds))

-- How many records there are, where the states began in s and ended in s'.
abbrev pub tallied : State → State → Holding
tallied s s' = record { facilities = s.known; operations = s.operations; nodes = s'.nodes; actions = s'.actions; states = s'.states }

-- The array holds the description of a text, and the places of its words.
pub record Whole (text work : List ℕ) (c : Holding) (t : Text) : Type 0 where
  pub few : Few c
  pub stands : Stands text work c (describe t).description
  pub beside : StandsBeside work c (describe t).description (describe t).places

-- The states were read to the end of the text; where their values took the length that they should, and the names behind arrows stand in the text, the array holds the text.
pub record Finished (text : List ℕ) (ds : List Declaration) (os : List Operation) (l : ℕ) (w : Word) (s : State) (work' : List ℕ) (r : Reached) : Type 0 where
  pub trees : List T.State
  pub course : (b : Built) → runs text start_stack w b s ≡ parsed (with_text b (more_of trees b.text))
  pub whole : (t : Text) → declarations_of t ≡ ds → t.operations ≡ os → t.states ≡ trees → length_of l ≡ length_in ds → TextNear text t → Whole text work' (tallied s r.state) t

pub record Closes (text : List ℕ) (ds : List Declaration) (os : List Operation) (l : ℕ) (w : Word) (s : State) (work' : List ℕ) (r : Answer) : Type 0 where
  pub done : {r' : Reached} → r ≡ Ok r' → Finished text ds os l w s work' r'
  pub refused : (f : Fault) → r ≡ Err (Vd.Refused f) → (b : Built) → runs text start_stack w b s ≡ refused (faulted f)
  pub full : {z : State} → r ≡ Err (Vd.Full z) → ⊥

abbrev pub ReadsStates : List ℕ → ℕ → Word → State → List ℕ → List ℕ → Answer → Type 0
ReadsStates text l w s work work' r = (ds : List Declaration) (os : List Operation) → Ready text ds os w s work → Closes text ds os l w s work' r
