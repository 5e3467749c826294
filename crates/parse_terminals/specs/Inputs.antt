-- The input of a terminal, as the machine reads it: T = INPUT ( c , T ).
use Rattle.std.specs.Prelude.{true, List, [], ◌∷◌, ◌++◌, ◌≡◌, ℕ}
use Rattle.parse_step.specs.Answers.{Answer}
use Rattle.parse_step.specs.declared.Reached.{Reached}
use Rattle.parse_step.specs.declared.State.{State}
use Rattle.parse_step.specs.Course.{Seen, Stack, counts_of, kind_no, runs}
use Rattle.parse_facilities.specs.Specs.{declaration_of, named_word}
use Rattle.parse_bounds.specs.Extents.{closed_state, with_extent}
use Rattle.parse_bounds.specs.Telling.{Tells, same}
use Rattle.image_sections.specs.declared.facilities.FacilityKind.TheVariants as F
use Rattle.language.specs.Alternatives.{closing, plain_word}
use Rattle.language.specs.Building.{Built, keep_word, with_text}
use Rattle.language.specs.Declaring.{make_input, with_terminal}
use Rattle.language.specs.Kinds.{a_constant, close_paren, equal_sign, input_word}
use Rattle.language.specs.Machine.{again, ask, function_of, make, within_ceilings}
use Rattle.language.specs.Tree as T
use Rattle.language.specs.Tree.{Declaration, Extent}
use Rattle.language.specs.Words as L
use Rattle.text_words.specs.declared.Word.{Word}
use Rattle.text_words.specs.Meaning.{positioned}

-- A terminal at the end of its list.
abbrev pub with_one : Declaration → Built → Built
with_one d b = with_text b (with_terminal b.text d)

-- Behind a terminal's dimensions, and behind the `=` of its function: the name, the extent and the `=` wait.
abbrev pub at_dimensions : List ℕ → Word → Extent → Built → Built
at_dimensions text name x b = with_extent x (keep_word (named_word text name) b)

abbrev pub at_function : List ℕ → Word → Extent → Word → Built → Built
at_function text name x equal b = keep_word (L.sign equal_sign (positioned equal.at)) (at_dimensions text name x b)

-- From the stack P the machine comes on, with what was built as it was.
pub record Moved (text : List ℕ) (P : Stack) (pre : Built → Built) (w : Word) (s : State) (r : Reached) : Type 0 where
  pub course : (K : Stack) (b : Built) → runs text (P ++ K) w (pre b) s ≡ runs text K r.next (pre b) r.state
  pub state : r.state ≡ s
  pub seen : Seen text r.next

-- A constant that is not kept.
abbrev pub Constants : List ℕ → Word → State → Answer → Type 0
Constants text w s r = Seen text w → Tells text (plain_word a_constant ∷ []) same w s r (Moved text (plain_word a_constant ∷ []) same w s)

-- The declared name once more.
abbrev pub Repeats : List ℕ → Word → Word → State → Answer → Type 0
Repeats text name w s r =
    (x : Extent) (equal : Word) → Seen text w → within_ceilings (counts_of s) ≡ true
    → Tells text (again ∷ []) (at_function text name x equal) w s r (Moved text (again ∷ []) (at_function text name x equal) w s)

-- From the stack P the machine comes to the end of the terminal's declaration.
pub record InputRead (text : List ℕ) (name : Word) (x : Extent) (equal : Word) (P : Stack) (w : Word) (s s' : State) (r : Reached) : Type 0 where
  pub course : (K : Stack) (b : Built) → runs text (P ++ K) w (at_function text name x equal b) s ≡ runs text K r.next (with_one (declaration_of text F.Input name x T.from_input) b) r.state
  pub state : r.state ≡ s'
  pub seen : Seen text r.next

abbrev pub name_stack : Stack
name_stack = again ∷ closing close_paren ∷ make make_input ∷ []

abbrev pub Closing : List ℕ → Word → Word → State → Answer → Type 0
Closing text name w s r =
    (x : Extent) (equal : Word) → Seen text w → within_ceilings (counts_of s) ≡ true
    → Tells text name_stack (at_function text name x equal) w s r (InputRead text name x equal name_stack w s (closed_state s))

abbrev pub Inputs : List ℕ → Word → Word → State → Answer → Type 0
Inputs text name w s r =
    (x : Extent) (equal : Word) → Seen text w → kind_no w.kind ≡ input_word
    → Tells text (ask function_of ∷ []) (at_function text name x equal) w s r (InputRead text name x equal (ask function_of ∷ []) w s s)
