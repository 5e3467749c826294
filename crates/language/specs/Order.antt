-- The order in which a reading writes its records (01, "Image, store, record": the layout is the one that reading writes): expressions as trees one after the other, actions as runs one after the other.
use Rattle.std.specs.Prelude.{Bool, List, [], ◌∷◌, ◌++◌, eqb, ltb, length}
use Rattle.std.proofs.Math.Bool.{true, false, cond}
use Rattle.std.proofs.Math.Option.{Option, none, some}
use Prim.Native.Nat.{ℕ, zero, suc, ◌+◌, ◌-◌, ◌/◌, ◌%◌, ◌^◌}
use Rattle.language.specs.Description as D
use Rattle.language.specs.Description.{Action, Description, Facility, Node, Operation, State, action_at, digit_length, further_digits, node_at}
use Rattle.language.specs.Recursion.{below}
use Rattle.language.specs.Tree.{Kind, computed, input, memory, plain, register, sequencing}
use Rattle.language.specs.Tests.{both}

-- ---- Expressions: a record's parts stand right before it, each whole; `Option` says where the tree that ends at a record begins.

abbrev pub ending : Option ℕ → (ℕ → Option ℕ) → Option ℕ
ending none on = none
ending (some s) on = on s

module _ (d : Description) where
  -- The tree that ends right before n.
  abbrev pub just_before : (ℕ → Option ℕ) → ℕ → ℕ → Option ℕ
  just_before start a n = cond (eqb (a + 1) n) (start a) none

  abbrev pub two_before : (ℕ → Option ℕ) → ℕ → ℕ → ℕ → Option ℕ
  two_before start a b n = ending (just_before start b n) (λ s. just_before start a s)

  abbrev pub is_digit48 : Node → ℕ → Bool
  is_digit48 (D.constant v) m = false
  is_digit48 (D.more n) m = eqb n m
  is_digit48 (D.whole f) m = false
  is_digit48 (D.one f e) m = false
  is_digit48 (D.part f b) m = false
  is_digit48 (D.two f e g) m = false
  is_digit48 (D.word_part f e b) m = false
  is_digit48 (D.binary k a b) m = false
  is_digit48 (D.prefix k a) m = false
  is_digit48 (D.cut k a c) m = false
  is_digit48 (D.first_arm e) m = false
  is_digit48 (D.next_arm a e) m = false
  is_digit48 (D.choice e a n) m = false
  is_digit48 D.Node.broken m = false

  -- The k records before n are the digits of x, the lower ones later.
  unfoldable pub digits_stand : ℕ → ℕ → ℕ → Bool
  unfolding digit_length
  digits_stand zero n x = true
  digits_stand (suc k) zero x = false
  digits_stand (suc k) (suc n) x =
      both (is_digit48 (node_at d n) (x % 2 ^ digit_length)) (digits_stand k n (x / 2 ^ digit_length))

  -- A constant fits its length, and its further digits stand before it.
  unfoldable pub constant_start : ℕ → ℕ → ℕ → Option ℕ
  unfolding further_digits digit_length
  constant_start n l x =
      cond (both (ltb x (2 ^ l)) (digits_stand (further_digits l) n (x / 2 ^ digit_length))) (some (n - further_digits l)) none

  unfoldable pub start_node : (ℕ → Option ℕ) → ℕ → Node → Option ℕ
  start_node start n (D.constant v) = constant_start n v.length v.number
  start_node start n (D.more m) = none
  start_node start n (D.whole f) = some n
  start_node start n (D.one f e) = just_before start e n
  start_node start n (D.part f b) = some n
  start_node start n (D.two f e g) = two_before start e g n
  start_node start n (D.word_part f e b) = just_before start e n
  start_node start n (D.binary k a b) = two_before start a b n
  start_node start n (D.prefix k a) = just_before start a n
  start_node start n (D.cut k a c) = just_before start a n
  start_node start n (D.first_arm e) = just_before start e n
  start_node start n (D.next_arm a e) = two_before start a e n
  start_node start n (D.choice e a k) = two_before start e a n
  start_node start n D.Node.broken = none

  abbrev pub start_step : (ℕ → Option ℕ) → ℕ → Option ℕ
  start_step start n = start_node start n (node_at d n)

  unfoldable pub start_below : ℕ → ℕ → Option ℕ
  start_below = below none start_step

  unfoldable pub start_at : ℕ → Option ℕ
  start_at n = start_step (start_below n) n

  -- Trees one after the other, in the order of their owners, from record `at` on: where they end.
  unfoldable pub trees_end : ℕ → List ℕ → Option ℕ
  trees_end at [] = some at
  trees_end at (r ∷ rs) =
      ending (start_at r) (λ s. let on = trees_end (r + 1) rs in cond (both (eqb s at) (ltb r (length d.expressions))) on none)

  -- ---- The owners of trees: computed terminals, actions and states' values.

  abbrev pub function_root : Facility → Kind → List ℕ
  function_root f register = []
  function_root f sequencing = []
  function_root f memory = []
  function_root f plain = []
  function_root f input = []
  function_root f computed = f.expression ∷ []

  unfoldable pub facility_roots : List Facility → List ℕ
  facility_roots [] = []
  facility_roots (f ∷ fs) = function_root f f.kind ++ facility_roots fs

  abbrev pub action_roots : Action → List ℕ
  action_roots (D.store k l r) = l ∷ r ∷ []
  action_roots (D.store_pair k l m r) = l ∷ m ∷ r ∷ []
  action_roots (D.set l) = l ∷ []
  action_roots (D.perform o) = []
  action_roots (D.goto s) = []
  action_roots (D.call s) = []
  action_roots D.return = []
  action_roots (D.when c x) = c ∷ []
  action_roots (D.choose c n x) = c ∷ []
  action_roots (D.arm x) = []
  action_roots D.Action.broken = []

  unfoldable pub run_roots : ℕ → ℕ → List ℕ
  run_roots zero i = []
  run_roots (suc k) i = action_roots (action_at d i) ++ run_roots k (suc i)

  unfoldable pub operation_roots : List Operation → List ℕ
  operation_roots [] = []
  operation_roots (o ∷ os) = run_roots o.body.count o.body.first ++ operation_roots os

  abbrev pub value_root : Option ℕ → List ℕ
  value_root none = []
  value_root (some n) = n ∷ []

  unfoldable pub state_roots : List State → List ℕ
  state_roots [] = []
  state_roots (s ∷ ss) = value_root s.value ++ (run_roots s.actions.count s.actions.first ++ state_roots ss)

  abbrev pub ends_at : ℕ → Option ℕ → Bool
  ends_at n none = false
  ends_at n (some m) = eqb m n

  unfoldable pub trees_right : Bool
  trees_right =
      ends_at (length d.expressions)
      (trees_end 0 (facility_roots d.facilities ++ (operation_roots d.operations ++ state_roots d.states)))

  -- ---- Runs of actions one after the other.

  unfoldable pub operations_end : ℕ → List Operation → Option ℕ
  operations_end at [] = some at
  operations_end at (o ∷ os) =
      let on = operations_end (at + o.body.count) os in
      cond (eqb o.body.first at) on none

  unfoldable pub states_end : ℕ → List State → Option ℕ
  states_end at [] = some at
  states_end at (s ∷ ss) =
      let on = states_end (at + s.actions.count) ss in
      cond (eqb s.actions.first at) on none

  unfoldable pub runs_right : Bool
  runs_right = ends_at (length d.actions) (ending (operations_end 0 d.operations) (λ at. states_end at d.states))
