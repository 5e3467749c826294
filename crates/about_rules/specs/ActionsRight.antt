-- WHICH LISTS OF ACTIONS KEEP THE RULES, after 01, "Lengths", and its refusals 4 and 8, sentence by sentence and written from them alone: no rule of judging stands behind this relation. ActionsJudged shows that judging agrees with it.
use Rattle.std.specs.Prelude.{Bool, true, false, ◌≡◌, ℕ, ◌+◌, ◌^◌, ◌≤◌, ◌<◌, length}
use Rattle.language.specs.Description as D
use Rattle.language.specs.Description.{Bounds, Description, Node, action_at, facility_at, is_computed, node_at, operation_at, state_at, word_length}
use Rattle.language.specs.Kinds.{delayed_sign, equal_sign}
use Rattle.language.specs.Tree.{Kind, memory, plain, register, sequencing}
use Rattle.about_rules.specs.HasLength.{HasLength, most_case_bits}

-- ---- The left side of a store: a reference to the facility f, of l bits.

pub data RefersTo : Node → ℕ → Type 0 where
  whole : {f : ℕ} → RefersTo (D.whole f) f
  one : {f e : ℕ} → RefersTo (D.one f e) f
  part : {f : ℕ} {b : Bounds} → RefersTo (D.part f b) f
  two : {f e g : ℕ} → RefersTo (D.two f e g) f
  word-part : {f e : ℕ} {b : Bounds} → RefersTo (D.word_part f e b) f

-- Actions name any facility.
abbrev pub Has : Description → ℕ → ℕ → Type 0
Has d n l = HasLength d (length d.facilities) n l

abbrev pub Side : Description → ℕ → ℕ → ℕ → Type 0
Side d n f l = RefersTo (node_at d n) f × Has d n l

-- A delayed store goes to a register alone; an immediate one neither to a computed or input terminal nor to the sequencing register (8).
pub data StoresTo : ℕ → Kind → Type 0 where
  delayed-register : StoresTo delayed_sign register
  delayed-sequencing : StoresTo delayed_sign sequencing
  at-once-register : StoresTo equal_sign register
  at-once-memory : StoresTo equal_sign memory
  at-once-plain : StoresTo equal_sign plain

-- ---- Lists: actions one after the other, or so many arms of a conditional.

pub data ListOf : Type 0 where
  actions : ListOf
  arms : ℕ → ListOf

-- `Right d in_state known what i n`: the n records from i on, of a state or of an operation that may name the first `known` operations.
pub data Right (d : Description) : Bool → ℕ → ListOf → ℕ → ℕ → Type 0 where
  end : {s : Bool} {known i : ℕ} → Right d s known actions i 0
  -- "a store's two sides are equally long"; it stands only in an operation.
  store : {known i n k a b f l : ℕ} → action_at d i ≡ D.store k a b → Side d a f l → Has d b l → StoresTo k (facility_at d f).kind
      → Right d false known actions (i + 1) n → Right d false known actions i (n + 1)
  -- Two references on the left have their lengths together.
  store-pair : {known i n k a b c f g l m : ℕ} → action_at d i ≡ D.store_pair k a b c → Side d a f l → Side d b g m → Has d c (l + m)
      → StoresTo k (facility_at d f).kind → StoresTo k (facility_at d g).kind
      → Right d false known actions (i + 1) n → Right d false known actions i (n + 1)
  -- "@ on … one bit of a plain terminal"
  set : {s : Bool} {known i n a f : ℕ} → action_at d i ≡ D.set a → Side d a f 1 → (facility_at d f).kind ≡ plain
      → Right d s known actions (i + 1) n → Right d s known actions i (n + 1)
  -- "an operation refers only to … operations declared earlier", each of an action or more.
  perform : {s : Bool} {known i n o : ℕ} → action_at d i ≡ D.perform o → o < known
      → 1 ≤ (operation_at d o).body.count → Right d false o actions (operation_at d o).body.first (operation_at d o).body.count
      → Right d s known actions (i + 1) n → Right d s known actions i (n + 1)
  -- A state is gone to, or called, by its name, and only from a state.
  goto : {known i n t : ℕ} → action_at d i ≡ D.goto t → 1 ≤ length (state_at d t).name → Right d true known actions (i + 1) n → Right d true known actions i (n + 1)
  call : {known i n t : ℕ} → action_at d i ≡ D.call t → 1 ≤ length (state_at d t).name → Right d true known actions (i + 1) n → Right d true known actions i (n + 1)
  return : {known i n : ℕ} → action_at d i ≡ D.return → Right d true known actions (i + 1) n → Right d true known actions i (n + 1)
  -- "IF takes 1 bit": one arm where there is no ELSE, and else two, of m records together.
  when : {s : Bool} {known i n m c : ℕ} → action_at d i ≡ D.when c m → Has d c 1
      → Right d s known (arms 1) (i + 1) m → Right d s known actions (i + 1 + m) n → Right d s known actions i (m + n + 1)
  when-else : {s : Bool} {known i n m c : ℕ} → action_at d i ≡ D.choose c 2 m → Has d c 1
      → Right d s known (arms 2) (i + 1) m → Right d s known actions (i + 1 + m) n → Right d s known actions i (m + n + 1)
  -- "CASE takes up to 6 bits and exactly 2-to-the-length arms"
  choose : {s : Bool} {known i n m c l : ℕ} → action_at d i ≡ D.choose c (2 ^ l) m → Has d c l → l ≤ most_case_bits
      → Right d s known (arms (2 ^ l)) (i + 1) m → Right d s known actions (i + 1 + m) n → Right d s known actions i (m + n + 1)
  -- An arm has at least one action.
  no-arms : {s : Bool} {known i : ℕ} → Right d s known (arms 0) i 0
  arm : {s : Bool} {known i n m c : ℕ} → action_at d i ≡ D.arm m → 1 ≤ m → Right d s known actions (i + 1) m
      → Right d s known (arms c) (i + 1 + m) n → Right d s known (arms (c + 1)) i (m + n + 1)

-- ---- A whole description.

pub record LengthsRight (d : Description) : Type 0 where
  -- "… and so are a computed terminal and its expression"
  pub terminals : (f : ℕ) → f < length d.facilities → is_computed (facility_at d f).kind ≡ true
      → HasLength d f (facility_at d f).expression (word_length (facility_at d f))
  pub operations : (o : ℕ) → o < length d.operations
      → (1 ≤ (operation_at d o).body.count) × Right d false o actions (operation_at d o).body.first (operation_at d o).body.count
  pub states : (t : ℕ) → t < length d.states → Right d true (length d.operations) actions (state_at d t).actions.first (state_at d t).actions.count
