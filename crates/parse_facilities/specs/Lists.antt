-- Lists of declarations.
use Rattle.std.specs.Prelude.{List, [], ◌∷◌, ◌++◌, ◌≡◌, ℕ, Result}
use Rattle.parse_step.specs.declared.State.{State}
use Rattle.parse_step.specs.declared.Unread.{Unread}
use Rattle.parse_step.specs.Course.{Seen, Stack, kind_no, runs}
use Rattle.parse_bounds.specs.Telling.{Tells, same}
use Rattle.image_sections.specs.declared.facilities.FacilityKind.{FacilityKind}
use Rattle.image_sections.specs.declared.facilities.FacilityKind.TheVariants as F
use Rattle.language.specs.Building.{Built, with_text}
use Rattle.language.specs.Kinds.{comma}
use Rattle.language.specs.Machine.{Ask, ask, memory_more, memory_spec, register_more, register_spec, terminal_more, terminal_spec}
use Rattle.language.specs.Tree.{Declaration, Text}
use Rattle.text_words.specs.declared.Word.{Word}
use Rattle.parse_facilities.specs.declared.Progress.{Progress}
use Rattle.parse_facilities.specs.Declares.{OneRead, OthersKept, Standing, put}

-- The lists of a text's declarations.
pub data Listing : Type 0 where
  registers memories terminals : Listing

abbrev pub spec_in : Listing → Ask
spec_in registers = register_spec
spec_in memories = memory_spec
spec_in terminals = terminal_spec

abbrev pub more_in : Listing → Ask
more_in registers = register_more
more_in memories = memory_more
more_in terminals = terminal_more

-- Terminals of every kind go to one list.
abbrev pub kind_in : Listing → FacilityKind
kind_in registers = F.Register
kind_in memories = F.Memory
kind_in terminals = F.Plain

-- Declarations at the end of their list, one after the other.
unfoldable pub put_all : Listing → List Declaration → Text → Text
put_all l [] t = t
put_all l (d ∷ ds) t = put_all l ds (put (kind_in l) d t)

-- Reading stands behind some declarations.
pub record Stands (text : List ℕ) (place : ℕ) (w : Word) (s : State) (work : List ℕ) : Type 0 where
  pub declared : List Declaration
  pub standing : Standing text declared place w s work

abbrev pub Ones : Listing → List ℕ → Word → State → ℕ → List ℕ → List ℕ → Result Progress Unread → Type 0
Ones l text w s place work work' r =
    (ds : List Declaration) → Standing text ds place w s work
    → Tells text (ask (spec_in l) ∷ []) same w s r (OneRead text ds (ask (spec_in l) ∷ []) (kind_in l) w s work')

-- The word that ends a list was taken.
pub record EndRead (text : List ℕ) (l : Listing) (w : Word) (s : State) (place : ℕ) (r : Progress) : Type 0 where
  pub course : (K : Stack) (b : Built) → runs text (ask (more_in l) ∷ K) w b s ≡ runs text K r.reached.next b r.reached.state
  pub state : r.reached.state ≡ s
  pub store : r.place ≡ place
  pub seen : Seen text r.reached.next

abbrev pub Ends : List ℕ → Word → State → ℕ → Result Progress Unread → Type 0
Ends text w s place r = (l : Listing) → Seen text w → (kind_no w.kind ≡ comma → ⊥) → Tells text (ask (more_in l) ∷ []) same w s r (EndRead text l w s place)

-- From the stack P the machine comes to the stack Q with some declarations more at the end of their list.
pub record SomeRead (text : List ℕ) (ds : List Declaration) (l : Listing) (P Q : Stack) (w : Word) (s : State) (next : Word) (state : State) (place : ℕ) (work' : List ℕ) : Type 0 where
  pub trees : List Declaration
  pub course : (K : Stack) (b : Built) → runs text (P ++ K) w b s ≡ runs text (Q ++ K) next (with_text b (put_all l trees b.text)) state
  pub standing : Standing text (ds ++ trees) place next state work'
  pub others : OthersKept s state

abbrev pub Mores : Listing → List ℕ → Word → State → ℕ → List ℕ → List ℕ → Result Progress Unread → Type 0
Mores l text w s place work work' r =
    (ds : List Declaration) → Standing text ds place w s work
    → Tells text (ask (more_in l) ∷ []) same w s r (λ x. SomeRead text ds l (ask (more_in l) ∷ []) [] w s x.reached.next x.reached.state x.place work')

abbrev pub Lists : Listing → List ℕ → Word → State → ℕ → List ℕ → List ℕ → Result Progress Unread → Type 0
Lists l text w s place work work' r =
    (ds : List Declaration) → Standing text ds place w s work
    → Tells text (ask (spec_in l) ∷ ask (more_in l) ∷ []) same w s r (λ x. SomeRead text ds l (ask (spec_in l) ∷ ask (more_in l) ∷ []) [] w s x.reached.next x.reached.state x.place work')
