-- What adding a record leaves.
use Rattle.std.specs.Prelude.{List, ◌≡◌, ℕ, ◌+◌, ◌-◌, ◌<◌, ◌≤◌, Err, Ok}
use Rattle.language.specs.Describe.{Noted}
use Rattle.text_words.specs.declared.Fault.{Fault}
use Rattle.text_words.specs.declared.Word.{Word}
use Rattle.parse_array.specs.Held.{held, with_bytes, with_nodes}
use Rattle.parse_array.specs.Layout.{most_nodes}
use Rattle.parse_step.specs.declared.State.{State}
use Rattle.parse_step.specs.declared.Unread.TheVariants.{Full, Refused}
use Rattle.parse_step.specs.Answers.{Answer}
use Rattle.parse_step.specs.declared.Reached.{Reached}

abbrev pub with_node_count : State → ℕ → State
with_node_count s n = record { facilities = s.facilities; operations = s.operations; states = s.states; counted = s.counted; nesting = s.nesting; nodes = n; actions = s.actions; known = s.known }

abbrev pub with_action_count : State → ℕ → State
with_action_count s n = record { facilities = s.facilities; operations = s.operations; states = s.states; counted = s.counted; nesting = s.nesting; nodes = s.nodes; actions = n; known = s.known }

-- A record of these bytes behind the others, and the next word as it was.
pub record Behind (next : Word) (s : State) (bs ps w w' : List ℕ) (r : Reached) : Type 0 where
  pub room : s.nodes < most_nodes
  pub word : r.next ≡ next
  pub state : r.state ≡ with_node_count s (s.nodes + 1)
  pub held : held (s.nodes + 1) w' ≡ with_bytes (held s.nodes w) bs ps

pub record Gained (next : Word) (s : State) (bs ps w w' : List ℕ) (r : Answer) : Type 0 where
  pub done : {r' : Reached} → r ≡ Ok r' → Behind next s bs ps w w' r'
  pub refused : (f : Fault) → r ≡ Err (Refused f) → ⊥
  pub full : {z : State} → r ≡ Err (Full z) → most_nodes ≤ z.nodes
  pub kept : {z : State} → r ≡ Err (Full z) → z ≡ s

-- Records that are `size` in number behind the others, and never more, and the next word as it was.
pub record Written (ns : List Noted) (size : ℕ) (next : Word) (s : State) (w w' : List ℕ) (r : Answer) : Type 0 where
  pub word : {r' : Reached} → r ≡ Ok r' → r'.next ≡ next
  pub state : {r' : Reached} → r ≡ Ok r' → r'.state ≡ with_node_count s (s.nodes + size)
  pub held : {r' : Reached} → r ≡ Ok r' → held (s.nodes + size) w' ≡ with_nodes (held s.nodes w) ns
  pub refused : (f : Fault) → r ≡ Err (Refused f) → ⊥
  pub full : {z : State} → r ≡ Err (Full z) → most_nodes ≤ z.nodes
  pub kept : {z : State} → r ≡ Err (Full z) → z ≡ with_node_count s z.nodes
  pub most : {z : State} → r ≡ Err (Full z) → z.nodes ≤ s.nodes + size

-- One less is open.
abbrev pub eased_state : State → State
eased_state s = record { facilities = s.facilities; operations = s.operations; states = s.states; counted = s.counted; nesting = s.nesting - 1; nodes = s.nodes; actions = s.actions; known = s.known }

-- Where it is done, records were written, and no more than there is room for.
abbrev pub Grows : State → Answer → Type 0
Grows s r = (r' : Reached) → r ≡ Ok r' → (s.nodes < r'.state.nodes) × (r'.state.nodes ≤ most_nodes)
