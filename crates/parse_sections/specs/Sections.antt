-- The sections of a text up to CONTROL, in the order in which the machine asks for them.
use Rattle.std.specs.Prelude.{List, [], ◌∷◌, ◌++◌, map, ◌≡◌, ℕ, ◌%◌, length, Err, Ok, Result}
use Rattle.parse_actions.specs.Lists.{Told}
use Rattle.parse_step.specs.Answers.{Answer}
use Rattle.parse_step.specs.declared.Reached.{Reached}
use Rattle.parse_step.specs.declared.Unread.{Unread}
use Rattle.parse_step.specs.declared.State.{State}
use Rattle.parse_step.specs.declared.Unread.TheVariants as Vd
use Rattle.parse_step.specs.Course.{Stack, kind_no, runs}
use Rattle.parse_facilities.specs.declared.Progress.{Progress}
use Rattle.parse_facilities.specs.Declares as D
use Rattle.parse_facilities.specs.Listed.{Tabled, none_held}
use Rattle.parse_facilities.specs.Lists.{Listing, memories, put_all, registers, terminals}
use Rattle.language.specs.Building.{Built, nothing_built, with_text}
use Rattle.language.specs.DescribeText.{facilities_of, facility_nodes, function_sizes}
use Rattle.language.specs.Kinds.{memory_word, operation_word, register_word, terminal_word}
use Rattle.language.specs.Layout.{store_size_of}
use Rattle.language.specs.Machine.{Ask, after_memories, after_registers, after_terminals, ask, refused, sections}
use Rattle.language.specs.SectionWays.{parse}
use Rattle.language.specs.Tree.{Declaration, Operation, Text}
use Rattle.language.specs.WordStage.{scan}
use Rattle.parse_sections.specs.Heads.{control_stack}
use Rattle.parse_sections.specs.Listed.{Standing}
use Rattle.text_words.specs.declared.Fault.{Fault}
use Rattle.text_words.specs.declared.Word.{Word}
use Rattle.text_words.specs.Meaning.{faulted}
use Rattle.parse_array.specs.Held.{with_nodes}

-- ---- The order of the sections.

-- The word that begins a list, and what the machine asks behind the list.
abbrev pub word_in : Listing → ℕ
word_in registers = register_word
word_in memories = memory_word
word_in terminals = terminal_word

abbrev pub after_in : Listing → Ask
after_in registers = after_registers
after_in memories = after_memories
after_in terminals = after_terminals

-- Where a list may come: each at the start, and memories behind registers, and terminals behind memories.
pub data Comes : Listing → Ask → Type 0 where
  at_start : (l : Listing) → Comes l sections
  behind_registers : Comes memories after_registers
  behind_memories : Comes terminals after_memories

-- Registers, memories and terminals, of which those before a list are none.
pub data Since : Listing → List Declaration → List Declaration → List Declaration → Type 0 where
  from_registers : (rs ms ts : List Declaration) → Since registers rs ms ts
  from_memories : (ms ts : List Declaration) → Since memories [] ms ts
  from_terminals : (ts : List Declaration) → Since terminals [] [] ts

-- ---- Where reading stands.

-- Behind the declarations ds, before any operation, any action and any state.
pub record Between (text : List ℕ) (ds : List Declaration) (place : ℕ) (w : Word) (s : State) (work : List ℕ) : Type 0 where
  pub standing : D.Standing text ds place w s work
  pub operations : s.operations ≡ 0
  pub states : s.states ≡ 0
  pub level : s.nesting ≡ 0
  pub actions : s.actions ≡ 0

pub record Somewhere (text : List ℕ) (place : ℕ) (w : Word) (s : State) (work : List ℕ) : Type 0 where
  pub declared : List Declaration
  pub between : Between text declared place w s work

-- Before the word of the list l.
pub record Starts (l : Listing) (text : List ℕ) (place : ℕ) (w : Word) (s : State) (work : List ℕ) : Type 0 where
  pub word : kind_no w.kind ≡ word_in l
  pub somewhere : Somewhere text place w s work

-- Behind CONTROL: the tables hold the facilities ds and the operations os, the expressions those of both.
pub record Ready (text : List ℕ) (ds : List Declaration) (os : List Operation) (w : Word) (s : State) (work : List ℕ) : Type 0 where
  pub counted : s.facilities ≡ s.known
  pub level : s.nesting ≡ 0
  pub facilities : Tabled text ds (store_size_of (facilities_of 0 ds) % 65536) s.known work
  pub standing : Standing text (map (λ d. d.name) ds) (function_sizes ds) (with_nodes (none_held []) (facility_nodes [] 0 ds)) os w s work

-- ---- A section of declarations.

pub record SectionRead (text : List ℕ) (ds : List Declaration) (l : Listing) (p : Ask) (w : Word) (s : State) (work' : List ℕ) (r : Progress) : Type 0 where
  pub trees : List Declaration
  pub course : (K : Stack) (b : Built) → runs text (ask p ∷ K) w b s ≡ runs text (ask (after_in l) ∷ K) r.reached.next (with_text b (put_all l trees b.text)) r.reached.state
  pub between : Between text (ds ++ trees) r.place r.reached.next r.reached.state work'

abbrev pub Section : Listing → List ℕ → Word → State → ℕ → List ℕ → List ℕ → Result Progress Unread → Type 0
Section l text w s place work work' r =
    (p : Ask) → Comes l p → (ds : List Declaration) → Between text ds place w s work → Told text (ask p ∷ []) w s r (SectionRead text ds l p w s work')

-- ---- All sections up to CONTROL.

abbrev pub with_sections : Text → List Declaration → List Declaration → List Declaration → List Operation → Text
with_sections t rs ms ts os = record { registers = t.registers ++ rs; memories = t.memories ++ ms; terminals = t.terminals ++ ts; operations = t.operations ++ os; states = t.states }

-- From the stack P the machine comes to the states, with nothing of the lists before l.
pub record AllRead (text : List ℕ) (ds : List Declaration) (l : Listing) (P : Stack) (w : Word) (s : State) (work' : List ℕ) (r : Reached) : Type 0 where
  pub registers : List Declaration
  pub memories : List Declaration
  pub terminals : List Declaration
  pub operations : List Operation
  pub since : Since l registers memories terminals
  pub course : (K : Stack) (b : Built) → runs text (P ++ K) w b s ≡ runs text (control_stack ++ K) r.next (with_text b (with_sections b.text registers memories terminals operations)) r.state
  pub ready : Ready text (ds ++ (registers ++ (memories ++ terminals))) operations r.next r.state work'

-- Where the machine asks p.
abbrev pub Goes : Listing → Ask → List ℕ → Word → State → ℕ → List ℕ → List ℕ → Answer → Type 0
Goes l p text w s place work work' r =
    (ds : List Declaration) → Between text ds place w s work → Told text (ask p ∷ []) w s r (AllRead text ds l (ask p ∷ []) w s work')

-- Where the list l begins.
abbrev pub From : Listing → List ℕ → Word → State → ℕ → List ℕ → List ℕ → Answer → Type 0
From l text w s place work work' r = (p : Ask) → Comes l p → Goes l p text w s place work work' r

-- Where the operations begin.
abbrev pub Operates : List ℕ → Word → State → ℕ → List ℕ → List ℕ → Answer → Type 0
Operates text w s place work work' r = kind_no w.kind ≡ operation_word → Goes terminals after_terminals text w s place work work' r

-- ---- From the start of the text.

abbrev pub start_state : State
start_state = record { facilities = 0; operations = 0; states = 0; counted = 0; nesting = 0; nodes = 0; actions = 0; known = 0 }

-- Parsing comes to the states, with these declarations and operations.
pub record Opened (text work' : List ℕ) (r : Reached) : Type 0 where
  pub registers : List Declaration
  pub memories : List Declaration
  pub terminals : List Declaration
  pub operations : List Operation
  pub course : parse (scan text).words (length text)
      ≡ runs text control_stack r.next (with_text nothing_built (record { registers = registers; memories = memories; terminals = terminals; operations = operations; states = [] })) r.state
  pub ready : Ready text (registers ++ (memories ++ terminals)) operations r.next r.state work'

pub record Preamble (text work' : List ℕ) (r : Answer) : Type 0 where
  pub done : {r' : Reached} → r ≡ Ok r' → Opened text work' r'
  pub refused : (f : Fault) → r ≡ Err (Vd.Refused f) → parse (scan text).words (length text) ≡ refused (faulted f)
  pub full : {z : State} → r ≡ Err (Vd.Full z) → ⊥
