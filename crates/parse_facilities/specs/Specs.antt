-- How the declaration of a facility begins, by its kind, and what the machine then asks for.
use Rattle.std.specs.Prelude.{true, List, [], ◌∷◌, ◌++◌, ◌≡◌, ℕ, suc, ◌<◌}
use Rattle.parse_step.specs.Answers.{Answer}
use Rattle.parse_step.specs.declared.Reached.{Reached}
use Rattle.parse_step.specs.declared.State.{State}
use Rattle.parse_step.specs.Course.{Seen, Stack, counts_of, kind_no, runs}
use Rattle.parse_bounds.specs.Extents.{Whose, of_other, of_terminal, ask_of}
use Rattle.parse_bounds.specs.Telling.{Tells, same}
use Rattle.image_sections.specs.declared.facilities.FacilityKind.{FacilityKind}
use Rattle.image_sections.specs.declared.facilities.FacilityKind.TheVariants as K
use Rattle.image_sections.specs.Declarations.{kind_meant}
use Rattle.language.specs.Building.{Built, keep_word}
use Rattle.language.specs.Declaring.{make_memory, make_register, make_sequencing}
use Rattle.language.specs.Kinds.{hash}
use Rattle.language.specs.Machine.{Ask, ask, make, memory_spec, register_spec, sequencing_spec, terminal_spec, within_ceilings}
use Rattle.language.specs.Notions.{as_declared}
use Rattle.language.specs.Tree.{Declaration, Extent, Function}
use Rattle.language.specs.Words as L
use Rattle.text_words.specs.declared.Word.{Word}
use Rattle.text_words.specs.Meaning.{positioned}
use Rattle.parse_array.specs.Names.{letters}

abbrev pub spec_of : FacilityKind → Ask
spec_of K.Register = register_spec
spec_of K.Sequencing = sequencing_spec
spec_of K.Memory = memory_spec
spec_of K.Plain = terminal_spec
spec_of K.Input = terminal_spec
spec_of K.Computed = terminal_spec

abbrev pub whose_of : FacilityKind → Whose
whose_of K.Register = of_other
whose_of K.Sequencing = of_other
whose_of K.Memory = of_other
whose_of K.Plain = of_terminal
whose_of K.Input = of_terminal
whose_of K.Computed = of_terminal

-- The step that ends it; a terminal's comes by another way.
abbrev pub end_of : FacilityKind → Stack
end_of K.Register = make make_register ∷ []
end_of K.Sequencing = make make_sequencing ∷ []
end_of K.Memory = make make_memory ∷ []
end_of K.Plain = []
end_of K.Input = []
end_of K.Computed = []

-- A register may begin with `#` too, and is then another.
abbrev pub Plainly : FacilityKind → Word → Type 0
Plainly K.Register w = kind_no w.kind ≡ hash → ⊥
Plainly K.Sequencing w = Unit {0}
Plainly K.Memory w = Unit {0}
Plainly K.Plain w = Unit {0}
Plainly K.Input w = Unit {0}
Plainly K.Computed w = Unit {0}

-- A name as the language's word.
abbrev pub named_word : List ℕ → Word → L.Word
named_word text w = L.name (letters text w.at.place w.size) (positioned w.at)

-- The declaration that begins with the name w.
abbrev pub declaration_of : List ℕ → FacilityKind → Word → Extent → Function → Declaration
declaration_of text k w x f = as_declared (kind_meant k) (letters text w.at.place w.size) (positioned w.at) x f

-- One facility more.
abbrev pub more_state : State → State
more_state s = record { facilities = suc s.facilities; operations = s.operations; states = s.states; counted = s.counted; nesting = s.nesting; nodes = s.nodes; actions = s.actions; known = s.known }

-- The name of a facility was taken.
pub record NameRead (text : List ℕ) (k : FacilityKind) (w : Word) (s : State) (r : Reached) : Type 0 where
  pub course : (K : Stack) (b : Built) → runs text (ask (spec_of k) ∷ K) w b s ≡ runs text (ask (ask_of (whose_of k)) ∷ (end_of k ++ K)) r.next (keep_word (named_word text w) b) r.state
  pub state : r.state ≡ more_state s
  pub room : s.facilities < 256
  pub within : within_ceilings (counts_of (more_state s)) ≡ true
  pub seen : Seen text r.next

abbrev pub Names : List ℕ → Word → State → Answer → Type 0
Names text w s r = (k : FacilityKind) → Plainly k w → Seen text w → within_ceilings (counts_of s) ≡ true → Tells text (ask (spec_of k) ∷ []) same w s r (NameRead text k w s)
