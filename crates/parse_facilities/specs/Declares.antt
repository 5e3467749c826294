-- What reading a declaration answers: the tree goes to its list of the text, the facility to its tables.
use Rattle.std.specs.Prelude.{true, List, [], ◌∷◌, ◌++◌, ◌≡◌, ℕ, ◌*◌, ◌<◌, ◌≤◌, length, Result}
use Rattle.parse_step.specs.declared.State.{State}
use Rattle.parse_step.specs.declared.Unread.{Unread}
use Rattle.parse_step.specs.Course.{Seen, Stack, counts_of, runs}
use Rattle.parse_bounds.specs.Telling.{Tells, same}
use Rattle.image_sections.specs.declared.facilities.FacilityKind.{FacilityKind}
use Rattle.image_sections.specs.declared.facilities.FacilityKind.TheVariants as K
use Rattle.language.specs.Building.{Built, with_text}
use Rattle.language.specs.Declaring.{with_memory, with_register, with_terminal}
use Rattle.language.specs.Machine.{ask, register_spec, within_ceilings}
use Rattle.language.specs.Tree.{Declaration, Text}
use Rattle.text_words.specs.declared.Word.{Word}
use Rattle.parse_facilities.specs.declared.Progress.{Progress}
use Rattle.parse_facilities.specs.Listed.{Listed}
use Rattle.parse_facilities.specs.Specs.{Plainly, spec_of}

-- Where reading declarations stands. Words that were counted pay for the records of expressions, each for seven.
pub record Standing (text : List ℕ) (ds : List Declaration) (place : ℕ) (w : Word) (s : State) (work : List ℕ) : Type 0 where
  pub seen : Seen text w
  pub short : length text < 65536
  pub within : within_ceilings (counts_of s) ≡ true
  pub listed : Listed text ds place s work
  pub paid : s.nodes ≤ 7 * s.counted

-- A declaration at the end of its list.
abbrev pub put : FacilityKind → Declaration → Text → Text
put K.Register d t = with_register t d
put K.Sequencing d t = with_register t d
put K.Memory d t = with_memory t d
put K.Plain d t = with_terminal t d
put K.Input d t = with_terminal t d
put K.Computed d t = with_terminal t d

-- Kinds that are declared by a name and dimensions alone.
abbrev pub Stored : FacilityKind → Type 0
Stored K.Register = Unit {0}
Stored K.Sequencing = Unit {0}
Stored K.Memory = Unit {0}
Stored K.Plain = ⊥
Stored K.Input = ⊥
Stored K.Computed = ⊥

-- Operations, states and what is open are counted as before, and no action is written.
pub record OthersKept (s s' : State) : Type 0 where
  pub operations : s'.operations ≡ s.operations
  pub states : s'.states ≡ s.states
  pub nesting : s'.nesting ≡ s.nesting
  pub actions : s'.actions ≡ s.actions

pub record OneRead (text : List ℕ) (ds : List Declaration) (P : Stack) (k : FacilityKind) (w : Word) (s : State) (work' : List ℕ) (r : Progress) : Type 0 where
  pub tree : Declaration
  pub course : (K : Stack) (b : Built) → runs text (P ++ K) w b s ≡ runs text K r.reached.next (with_text b (put k tree b.text)) r.reached.state
  pub standing : Standing text (ds ++ tree ∷ []) r.place r.reached.next r.reached.state work'
  pub others : OthersKept s r.reached.state

abbrev pub Stores : List ℕ → Word → State → ℕ → FacilityKind → List ℕ → List ℕ → Result Progress Unread → Type 0
Stores text w s place k work work' r =
    Stored k → Plainly k w → (ds : List Declaration) → Standing text ds place w s work
    → Tells text (ask (spec_of k) ∷ []) same w s r (OneRead text ds (ask (spec_of k) ∷ []) k w s work')

abbrev pub Registers : List ℕ → Word → State → ℕ → List ℕ → List ℕ → Result Progress Unread → Type 0
Registers text w s place work work' r =
    (ds : List Declaration) → Standing text ds place w s work
    → Tells text (ask register_spec ∷ []) same w s r (OneRead text ds (ask register_spec ∷ []) K.Register w s work')
