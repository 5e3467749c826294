-- Courses of sections: besides counted words, facilities, operations and states are counted.
use Rattle.std.specs.Prelude.{List, [], ◌∷◌, ◌++◌, ◌≡◌, ℕ, ◌+◌, ◌≤◌, length}
use Rattle.std.proofs.Common.{append_assoc, ap}
use Rattle.language.specs.Building.{Built, with_text}
use Rattle.language.specs.CountedWords.{counted_terminals}
use Rattle.language.specs.Kinds.{equal_sign}
use Rattle.language.specs.Machine.{Ask, Counts, ask, memory_more, memory_spec, reading, register_more, register_spec, terminal_more, terminal_spec}
use Rattle.language.specs.Tree.{Declaration, Text}
use Rattle.language.specs.Words.{Word}
use Rattle.about_grammar.specs.Courses.{Ceiling, Comes, Stack}
use Rattle.about_grammar.specs.Following.{after_or}

-- How much more is counted.
pub record Amount : Type 0 where
  pub facilities : ℕ
  pub operations : ℕ
  pub states : ℕ
  pub counted : ℕ

abbrev pub amount : ℕ → ℕ → ℕ → ℕ → Amount
amount f o s n = record { facilities = f; operations = o; states = s; counted = n }

pub record Space (top c : Counts) (a : Amount) (h : ℕ) : Type 0 where
  pub facilities : c.facilities + a.facilities ≤ top.facilities
  pub operations : c.operations + a.operations ≤ top.operations
  pub states : c.states + a.states ≤ top.states
  pub counted : c.counted + a.counted ≤ top.counted
  pub nesting : c.nesting + h ≤ top.nesting

pub record Gained (a : Amount) (c d : Counts) : Type 0 where
  pub facilities : d.facilities ≡ c.facilities + a.facilities
  pub operations : d.operations ≡ c.operations + a.operations
  pub states : d.states ≡ c.states + a.states
  pub counted : d.counted ≡ c.counted + a.counted
  pub nesting : d.nesting ≡ c.nesting

pub record Reaches (C : Ceiling) (ks : List ℕ) (K : Stack) (b : Built) (c : Counts) (us : List Word) (L : Stack) (b₁ : Built) (a : Amount) : Type 0 where
  pub counts : Counts
  pub gained : Gained a c counts
  pub comes : Comes C ks K (reading b c) us L (reading b₁ counts)

pub reaching : {C : Ceiling} {ks : List ℕ} {K : Stack} {b : Built} {c : Counts} {us : List Word} {L : Stack} {b₁ : Built} {a : Amount} {R : Type 0}
    → Reaches C ks K b c us L b₁ a → ((d : Counts) → Gained a c d → Comes C ks K (reading b c) us L (reading b₁ d) → R) → R
reaching x f = f x.counts x.gained x.comes

-- ---- The three sections of declarations.

pub data Shelf : Type 0 where
  registers memories terminals : Shelf

abbrev pub spec_of : Shelf → Ask
spec_of registers = register_spec
spec_of memories = memory_spec
spec_of terminals = terminal_spec

abbrev pub more_of : Shelf → Ask
more_of registers = register_more
more_of memories = memory_more
more_of terminals = terminal_more

-- A text with more declarations at the end of a section.
abbrev pub filed : Shelf → Text → List Declaration → Text
filed registers t ds = record { registers = t.registers ++ ds; memories = t.memories; terminals = t.terminals; operations = t.operations; states = t.states }
filed memories t ds = record { registers = t.registers; memories = t.memories ++ ds; terminals = t.terminals; operations = t.operations; states = t.states }
filed terminals t ds = record { registers = t.registers; memories = t.memories; terminals = t.terminals ++ ds; operations = t.operations; states = t.states }

abbrev pub count_filed : Shelf → List Declaration → ℕ
count_filed registers ds = 0
count_filed memories ds = 0
count_filed terminals ds = counted_terminals ds

pub filed-more : (x : Shelf) (t : Text) (d : Declaration) (ds : List Declaration) → filed x (filed x t (d ∷ [])) ds ≡ filed x t (d ∷ ds)
filed-more registers t d ds = ap (λ (l : List Declaration). record { registers = l; memories = t.memories; terminals = t.terminals; operations = t.operations; states = t.states }) (append_assoc t.registers (d ∷ []) ds)
filed-more memories t d ds = ap (λ (l : List Declaration). record { registers = t.registers; memories = l; terminals = t.terminals; operations = t.operations; states = t.states }) (append_assoc t.memories (d ∷ []) ds)
filed-more terminals t d ds = ap (λ (l : List Declaration). record { registers = t.registers; memories = t.memories; terminals = l; operations = t.operations; states = t.states }) (append_assoc t.terminals (d ∷ []) ds)

abbrev pub after_spec : List ℕ
after_spec = equal_sign ∷ after_or

pub record Specified (C : Ceiling) (x : Shelf) (h : ℕ) (us : List Word) (d : Declaration) : Type 0 where
  pub takes : (K : Stack) (b : Built) (c : Counts) → Space C.top c (amount 1 0 0 (count_filed x (d ∷ []))) h
      → Reaches C after_spec (ask (spec_of x) ∷ K) b c us K (with_text b (filed x b.text (d ∷ []))) (amount 1 0 0 (count_filed x (d ∷ [])))

pub record Listed (C : Ceiling) (x : Shelf) (h : ℕ) (us : List Word) (ds : List Declaration) : Type 0 where
  pub takes : (K : Stack) (b : Built) (c : Counts) → Space C.top c (amount (length ds) 0 0 (count_filed x ds)) h
      → Reaches C after_spec (ask (spec_of x) ∷ ask (more_of x) ∷ K) b c us (ask (more_of x) ∷ K) (with_text b (filed x b.text ds)) (amount (length ds) 0 0 (count_filed x ds))
