-- The form in which a reading writes facilities, names and counts; with the order of records, the whole of its layout.
use Rattle.std.specs.Prelude.{Bool, true, false, cond, List, [], ◌∷◌, ℕ, ◌+◌, ◌-◌, eqb, leb, ltb, length}
use Rattle.std.proofs.Math.Option.{Option, none, some}
use Rattle.language.specs.Characters.{is_digit, within}
use Rattle.language.specs.Description as D
use Rattle.language.specs.Description.{Action, Bounds, Description, Facility, Node, State}
use Rattle.language.specs.Ceilings.{longest_name, most_counted, most_facilities, most_operations, most_states}
use Rattle.language.specs.Order.{runs_right, trees_right}
use Rattle.language.specs.Scan.{reserved_kind}
use Rattle.language.specs.Tree.{Kind, Name, computed, input, memory, plain, register, sequencing}
use Rattle.language.specs.Tests.{both}

-- ---- Facilities: registers, memories, terminals in this order; bounds only where there are dimensions; a terminal with a function has at most one.

abbrev pub rank_of : Kind → ℕ
rank_of register = 0
rank_of sequencing = 0
rank_of memory = 1
rank_of plain = 2
rank_of input = 2
rank_of computed = 2

abbrev pub most_dimensions : Kind → ℕ
most_dimensions register = 2
most_dimensions sequencing = 2
most_dimensions memory = 2
most_dimensions plain = 2
most_dimensions input = 1
most_dimensions computed = 1

abbrev pub no_bounds : Bounds → Bool
no_bounds b = both (eqb b.first 0) (eqb b.last 0)

unfoldable pub facility_right : Facility → Bool
facility_right f =
    both (leb f.dimensions (most_dimensions f.kind))
    (both (cond (leb 2 f.dimensions) true (no_bounds f.words)) (cond (leb 1 f.dimensions) true (no_bounds f.bits)))

unfoldable pub facilities_right : ℕ → List Facility → Bool
facilities_right rank [] = true
facilities_right rank (f ∷ fs) = both (leb rank (rank_of f.kind)) (both (facility_right f) (facilities_right (rank_of f.kind) fs))

-- ---- Names: a letter, then letters and digits, in capitals; no reserved word.

abbrev pub is_capital : ℕ → Bool
is_capital b = within 65 b 90

unfoldable pub name_parts : Name → Bool
name_parts [] = true
name_parts (b ∷ n) = both (cond (is_capital b) true (is_digit b)) (name_parts n)

unfoldable pub name_right : Name → Bool
name_right [] = false
name_right (b ∷ n) = both (is_capital b) (both (name_parts n) (both (leb (length (b ∷ n)) longest_name) (eqb (reserved_kind (b ∷ n)) 0)))

-- A state may have no name; one without a name has no value.
abbrev pub label_right : Name → Option ℕ → Bool
label_right [] none = true
label_right [] (some v) = false
label_right (b ∷ n) v = name_right (b ∷ n)

unfoldable pub all : {A : Type 0} → (A → Bool) → List A → Bool
all f [] = true
all f (x ∷ xs) = both (f x) (all f xs)

-- ---- Counts (01, "Ceilings"): an operator or operand and an action each count one.

abbrev pub node_count : Node → ℕ
node_count (D.constant v) = 1
node_count (D.more n) = 0
node_count (D.whole f) = 1
node_count (D.one f e) = 1
node_count (D.part f b) = 1
node_count (D.two f e g) = 1
node_count (D.word_part f e b) = 1
node_count (D.binary k a b) = 1
node_count (D.prefix k a) = 1
node_count (D.cut k a c) = 1
node_count (D.first_arm e) = 0
node_count (D.next_arm a e) = 0
node_count (D.choice e a n) = 1
node_count D.Node.broken = 0

-- An action, and how many references stand on its left, which are no operands.
abbrev pub action_count : Action → ℕ
action_count (D.store k l r) = 1
action_count (D.store_pair k l m r) = 1
action_count (D.set l) = 1
action_count (D.perform o) = 1
action_count (D.goto s) = 1
action_count (D.call s) = 1
action_count D.return = 1
action_count (D.when c x) = 1
action_count (D.choose c n x) = 1
action_count (D.arm x) = 0
action_count D.Action.broken = 0

abbrev pub left_count : Action → ℕ
left_count (D.store k l r) = 1
left_count (D.store_pair k l m r) = 2
left_count (D.set l) = 1
left_count (D.perform o) = 0
left_count (D.goto s) = 0
left_count (D.call s) = 0
left_count D.return = 0
left_count (D.when c x) = 0
left_count (D.choose c n x) = 0
left_count (D.arm x) = 0
left_count D.Action.broken = 0

abbrev pub value_count : State → ℕ
value_count s = option_count s.value
  where
    option_count : Option ℕ → ℕ
    option_count none = 0
    option_count (some n) = 1

unfoldable pub total : {A : Type 0} → (A → ℕ) → List A → ℕ
total f [] = 0
total f (x ∷ xs) = f x + total f xs

-- Left sides and states' values are records that are not counted.
unfoldable pub counted_records : Description → ℕ
counted_records d =
    total node_count d.expressions + total action_count d.actions
    - (total left_count d.actions + total value_count d.states)

unfoldable pub counts_right : Description → Bool
counts_right d =
    both (leb (length d.facilities) most_facilities)
    (both (leb (length d.operations) most_operations)
    (both (leb (length d.states) most_states)
    (both (ltb 0 (length d.states)) (both (ltb 0 (length d.facilities)) (leb (counted_records d) most_counted)))))

unfoldable pub canonical : Description → Bool
canonical d =
    both (counts_right d)
    (both (facilities_right 0 d.facilities)
    (both (all (λ f. name_right f.name) d.facilities)
    (both (all (λ o. name_right o.name) d.operations)
    (both (all (λ s. label_right s.name s.value) d.states)
    (both (trees_right d) (runs_right d))))))
