-- WHICH RECORDS A RUN CAN WORK OUT, read off the description alone: no rule stands behind this relation. EachLength shows that in a passing image each of them has a length, NoOther that what they come to hangs on no others.
use Rattle.std.specs.Prelude.{true, ◌≡◌, ℕ, ◌+◌, ◌≤◌, ◌<◌, length}
use Rattle.language.specs.Description as D
use Rattle.language.specs.Description.{Action, Bounds, Description, Run, action_at, facility_at, is_computed, node_at, operation_at, state_at}

-- ---- What actions hold.

-- The record i is one of a run: an action of its list, or of an arm within it.
abbrev pub Among : Run → ℕ → Type 0
Among r i = (r.first ≤ i) × (i < r.first + r.count)

-- The left side of a store: one reference, or one of two; or what @ sets.
pub data LeftSide : Action → ℕ → Type 0 where
  stored : {k l r : ℕ} → LeftSide (D.store k l r) l
  high : {k l m r : ℕ} → LeftSide (D.store_pair k l m r) l
  low : {k l m r : ℕ} → LeftSide (D.store_pair k l m r) m
  set : {l : ℕ} → LeftSide (D.set l) l

-- What else an action has worked out: the right side of a store, the condition of a conditional action.
pub data Valued : Action → ℕ → Type 0 where
  right : {k l r : ℕ} → Valued (D.store k l r) r
  pair-right : {k l m r : ℕ} → Valued (D.store_pair k l m r) r
  when : {c x : ℕ} → Valued (D.when c x) c
  choose : {c n x : ℕ} → Valued (D.choose c n x) c

-- The action at record i belongs to a state or to an operation, whether or not a run comes to it.
pub data Acts (d : Description) (i : ℕ) : Type 0 where
  of-state : {s : ℕ} → s < length d.states → Among (state_at d s).actions i → Acts d i
  of-operation : {o : ℕ} → o < length d.operations → Among (operation_at d o).body i → Acts d i

-- ---- The parts of an expression.

-- The expression e is an arm of the list of arms whose last one is the record a.
pub data Arm (d : Description) : ℕ → ℕ → Type 0 where
  first : {a e : ℕ} → node_at d a ≡ D.first_arm e → Arm d a e
  last : {a b e : ℕ} → node_at d a ≡ D.next_arm b e → Arm d a e
  earlier : {a b e g : ℕ} → node_at d a ≡ D.next_arm b e → Arm d b g → Arm d a g

-- Operands, subscripts, the condition of a conditional expression and each of its arms.
pub data PartOf (d : Description) (n : ℕ) : ℕ → Type 0 where
  left : {k a b : ℕ} → node_at d n ≡ D.binary k a b → PartOf d n a
  right : {k a b : ℕ} → node_at d n ≡ D.binary k a b → PartOf d n b
  operand : {k a : ℕ} → node_at d n ≡ D.prefix k a → PartOf d n a
  source : {k a c : ℕ} → node_at d n ≡ D.cut k a c → PartOf d n a
  subscript : {f e : ℕ} → node_at d n ≡ D.one f e → PartOf d n e
  word-of-bit : {f e g : ℕ} → node_at d n ≡ D.two f e g → PartOf d n e
  bit-of-word : {f e g : ℕ} → node_at d n ≡ D.two f e g → PartOf d n g
  word_of_part : {f e : ℕ} {x : Bounds} → node_at d n ≡ D.word_part f e x → PartOf d n e
  condition : {e a m : ℕ} → node_at d n ≡ D.choice e a m → PartOf d n e
  arm : {e a m g : ℕ} → node_at d n ≡ D.choice e a m → Arm d a g → PartOf d n g

-- ---- What a run can work out.

pub data WorkedOut (d : Description) : ℕ → Type 0 where
  left-side : {i n : ℕ} → Acts d i → LeftSide (action_at d i) n → WorkedOut d n
  valued : {i n : ℕ} → Acts d i → Valued (action_at d i) n → WorkedOut d n
  -- A computed terminal is worked out where a reference reads it, and any may be referred to.
  terminal : (f : ℕ) {n : ℕ} → is_computed (facility_at d f).kind ≡ true → (facility_at d f).expression ≡ n → WorkedOut d n
  part : {n a : ℕ} → WorkedOut d n → PartOf d n a → WorkedOut d a
