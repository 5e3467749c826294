-- What reading operations answers: they go to the end of the text's operations, and to their tables.
use Rattle.std.specs.Prelude.{List, [], ◌∷◌, ◌++◌, ◌≡◌, ℕ}
use Rattle.parse_actions.specs.Lists.{Told}
use Rattle.parse_step.specs.Answers.{Answer}
use Rattle.parse_step.specs.declared.Reached.{Reached}
use Rattle.parse_step.specs.declared.State.{State}
use Rattle.parse_step.specs.Course.{Stack, runs}
use Rattle.language.specs.Building.{Built, with_text}
use Rattle.language.specs.Machine.{ask, operation_spec, operations_more}
use Rattle.language.specs.Tree.{Name, Operation, Text}
use Rattle.text_words.specs.declared.Word.{Word}
use Rattle.parse_array.specs.Held.{Held}
use Rattle.parse_sections.specs.Heads.{control_stack}
use Rattle.parse_sections.specs.Listed.{Standing, Stays, TablesKept}

-- Operations at the end of a text's.
abbrev pub with_operations : Text → List Operation → Text
with_operations t os = record { registers = t.registers; memories = t.memories; terminals = t.terminals; operations = t.operations ++ os; states = t.states }

-- From the stack P the machine comes to the stack Q with some operations more.
pub record SomeRead (text : List ℕ) (names : List Name) (first : ℕ) (h : Held) (os : List Operation) (P Q : Stack) (w : Word) (s : State) (work : List ℕ) (next : Word) (state : State) (work' : List ℕ) : Type 0 where
  pub trees : List Operation
  pub course : (K : Stack) (b : Built) → runs text (P ++ K) w b s ≡ runs text (Q ++ K) next (with_text b (with_operations b.text trees)) state
  pub stays : Stays s state
  pub tables : TablesKept work work'
  pub standing : Standing text names first h (os ++ trees) next state work'

-- One operation more.
pub record OneRead (text : List ℕ) (names : List Name) (first : ℕ) (h : Held) (os : List Operation) (w : Word) (s : State) (work work' : List ℕ) (r : Reached) : Type 0 where
  pub tree : Operation
  pub course : (K : Stack) (b : Built) → runs text (ask operation_spec ∷ K) w b s ≡ runs text K r.next (with_text b (with_operations b.text (tree ∷ []))) r.state
  pub stays : Stays s r.state
  pub tables : TablesKept work work'
  pub standing : Standing text names first h (os ++ tree ∷ []) r.next r.state work'

-- Reading stands behind some operations.
pub record Stands (text : List ℕ) (w : Word) (s : State) (work : List ℕ) : Type 0 where
  pub names : List Name
  pub first : ℕ
  pub before : Held
  pub declared : List Operation
  pub standing : Standing text names first before declared w s work

abbrev pub One : List ℕ → Word → State → List ℕ → List ℕ → Answer → Type 0
One text w s work work' r =
    (names : List Name) (first : ℕ) (h : Held) (os : List Operation) → Standing text names first h os w s work
    → Told text (ask operation_spec ∷ []) w s r (OneRead text names first h os w s work work')

-- Operations by the stack P, up to CONTROL and with it.
abbrev pub Further : Stack → List ℕ → Word → State → List ℕ → List ℕ → Answer → Type 0
Further P text w s work work' r =
    (names : List Name) (first : ℕ) (h : Held) (os : List Operation) → Standing text names first h os w s work
    → Told text P w s r (λ x. SomeRead text names first h os P control_stack w s work x.next x.state work')

abbrev pub Mores : List ℕ → Word → State → List ℕ → List ℕ → Answer → Type 0
Mores text w s work work' r = Further (ask operations_more ∷ []) text w s work work' r

abbrev pub Lists : List ℕ → Word → State → List ℕ → List ℕ → Answer → Type 0
Lists text w s work work' r = Further (ask operation_spec ∷ ask operations_more ∷ []) text w s work work' r
