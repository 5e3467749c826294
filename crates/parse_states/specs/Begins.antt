-- How a state begins: the counts, the rows on which it waits, and the length that its value takes.
use Rattle.std.specs.Prelude.{cond, List, ◌∷◌, ◌++◌, ◌≡◌, ℕ, suc, ◌≤◌, Err, Ok, Result}
use Rattle.std.proofs.Math.Option.{Option, none, some}
use Rattle.parse_step.specs.declared.State.{State}
use Rattle.parse_step.specs.declared.Unread.TheVariants as Vd
use Rattle.parse_step.specs.Course.{Stack, runs}
use Rattle.language.specs.Building.{Built, with_lists, with_states}
use Rattle.language.specs.Machine.{refused}
use Rattle.language.specs.Tree as T
use Rattle.language.specs.Tree.{Actions}
use Rattle.language.specs.Words.{Position}
use Rattle.value_operators.specs.Meaning.{allowed}
use Rattle.text_words.specs.declared.Fault.{Fault}
use Rattle.text_words.specs.declared.Word.{Word}
use Rattle.text_words.specs.Meaning.{faulted}
use Rattle.parse_step.specs.declared.Unread.{Unread}

-- One state more.
abbrev pub more_states : State → State
more_states s = record { facilities = s.facilities; operations = s.operations; states = suc s.states; counted = s.counted; nesting = s.nesting; nodes = s.nodes; actions = s.actions; known = s.known }

-- A state without label and value, before its actions.
abbrev pub plain_at : Position → T.State
plain_at p = record { at = p; label = none; value = none; actions = T.done }

-- A state waits on its row, and a list of actions on its.
abbrev pub opened : T.State → Built → Built
opened t b = with_states b (t ∷ b.states)

abbrev pub with_list : Actions → Built → Built
with_list a b = with_lists b (a ∷ b.lists)

-- The length of the sequencing register; a length that no value has stands for none.
unfoldable pub length_of : ℕ → Option ℕ
length_of l = cond (allowed l) (some l) none

-- Counts but for what is counted are as they were.
pub record Stays (s s' : State) : Type 0 where
  pub facilities : s'.facilities ≡ s.facilities
  pub operations : s'.operations ≡ s.operations
  pub states : s'.states ≡ s.states
  pub known : s'.known ≡ s.known
  pub nesting : s'.nesting ≡ s.nesting
  pub counted : s.counted ≤ s'.counted

-- From the stack P and what `pre` makes of what was built: what was read, or the machine's refusal; there is room for everything.
pub record Tells {A : Type 0} (text : List ℕ) (P : Stack) (pre : Built → Built) (w : Word) (s : State) (a : Result A Unread) (Read : A → Type 0) : Type 0 where
  pub done : {x : A} → a ≡ Ok x → Read x
  pub refused : (f : Fault) → a ≡ Err (Vd.Refused f) → (K : Stack) (b : Built) → runs text (P ++ K) w (pre b) s ≡ refused (faulted f)
  pub full : {z : State} → a ≡ Err (Vd.Full z) → ⊥

abbrev pub same : Built → Built
same b = b
