-- Back from an image to a description. It is total: what no reading writes becomes a broken record.
use Rattle.std.specs.Prelude.{Bool, true, false, cond, List, [], ◌∷◌, ℕ, zero, suc, ◌+◌, ◌*◌, ◌/◌, ◌%◌, ◌^◌, eqb, leb, drop, get_or, length, take}
use Rattle.std.proofs.Math.Option.{Option, none, some}
use Rattle.language.specs.Description as D
use Rattle.language.specs.Description.{Action, Bounds, Description, Facility, Node, Operation, Run, State, bounds, digit_length, further_digits, is_computed}
use Rattle.language.specs.Encode.{Sections, action_size, actions_section, arm_mark, call_mark, choose_mark, choice_mark, constant_mark, count_field, expressions_section, facilities_section, facility_size, first_arm_mark, goto_mark, more_mark, name_size, names_section, next_arm_mark, no_value, node_size, offset_field, one_mark, one_store_mark, operation_size, operations_section, pair_store_mark, part_mark, perform_mark, return_mark, set_mark, state_size, states_section, two_mark, when_mark, whole_mark, word_part_mark}
use Rattle.language.specs.Kinds.{delayed_sign, equal_sign}
use Rattle.language.specs.Tree.{Kind, Name, computed, input, memory, plain, register, sequencing}
use Rattle.language.specs.Value.{value}

-- The number in n bytes at a place, the lowest first.
unfoldable pub number_at : ℕ → ℕ → List ℕ → ℕ
number_at zero at s = 0
number_at (suc n) at s = get_or s at 0 + number_at n (suc at) s * 256

abbrev pub half_at : ℕ → List ℕ → ℕ
half_at at s = number_at 2 at s

abbrev pub pick : {A : Type 0} → Bool → A → A → A
pick true a b = a
pick false a b = b

-- ---- Records; `s` is a section, n a record's number.

unfoldable pub kind_of : ℕ → Kind
kind_of k =
    pick (eqb k 0) register
    (pick (eqb k 1) sequencing
    (pick (eqb k 2) memory
    (pick (eqb k 3) plain
    (pick (eqb k 4) input computed))))

abbrev pub bounds_at : ℕ → List ℕ → Bounds
bounds_at at s = bounds (half_at at s) (half_at (at + 2) s)

-- A facility's record and its name.
unfoldable pub facility_of : ℕ → List ℕ → Name → Facility
facility_of at s name =
    let k = kind_of (get_or s at 0) in
    record {
      name = name;
      kind = k;
      dimensions = get_or s (at + 1) 0;
      words = bounds_at (at + 3) s;
      bits = bounds_at (at + 7) s;
      expression = cond (is_computed k) (half_at (at + 11) s) 0;
    }

-- The digits of the k records before record n, and the lowest digit; they must be marked as further digits.
unfoldable pub digits_marked : ℕ → ℕ → List ℕ → Bool
digits_marked zero n s = true
digits_marked (suc k) zero s = false
digits_marked (suc k) (suc n) s =
    let more = digits_marked k n s in
    cond (eqb (get_or s (node_size * n) 0) more_mark) more false

unfoldable pub digits_before : ℕ → ℕ → List ℕ → ℕ
unfolding digit_length
digits_before zero n s = 0
digits_before (suc k) zero s = 0
digits_before (suc k) (suc n) s = (number_at 6 (node_size * n + 2) s + digits_before k n s) * 2 ^ digit_length

unfoldable pub constant_at : ℕ → List ℕ → Node
unfolding further_digits
constant_at n s =
    let l = get_or s (node_size * n + 1) 0 + 1 in
    let k = further_digits l in
    cond (digits_marked k n s) (D.constant (value l (number_at 6 (node_size * n + 2) s + digits_before k n s))) D.Node.broken

-- An operator's record, by its mark's high bits.
unfoldable pub operator_of : ℕ → ℕ → ℕ → Node
operator_of mark a b =
    pick (eqb (mark / 64) 1) (D.binary (mark % 64) a b)
    (pick (eqb (mark / 64) 2) (D.prefix (mark % 64) a)
    (pick (eqb (mark / 64) 3) (D.cut (mark % 64) a b) D.Node.broken))

unfoldable pub plain_node : ℕ → ℕ → ℕ → ℕ → ℕ → Node
plain_node mark x a b c =
    pick (eqb mark whole_mark) (D.whole x)
    (pick (eqb mark one_mark) (D.one x a)
    (pick (eqb mark part_mark) (D.part x (bounds a b))
    (pick (eqb mark two_mark) (D.two x a b)
    (pick (eqb mark word_part_mark) (D.word_part x a (bounds b c))
    (pick (eqb mark first_arm_mark) (D.first_arm a)
    (pick (eqb mark next_arm_mark) (D.next_arm a b)
    (pick (eqb mark choice_mark) (D.choice a b c) (operator_of mark a b))))))))

-- Record n of a section of expressions; a record that is not whole is broken.
unfoldable pub node_of : List ℕ → ℕ → Node
node_of s n =
    let at = node_size * n in
    let mark = get_or s at 0 in
    let node =
    pick (eqb mark constant_mark) (constant_at n s)
    (pick (eqb mark more_mark) (D.more (number_at 6 (at + 2) s))
    (plain_node mark (get_or s (at + 1) 0) (half_at (at + 2) s) (half_at (at + 4) s) (half_at (at + 6) s))) in
    pick (leb (at + node_size) (length s)) node D.Node.broken

unfoldable pub action_with : ℕ → ℕ → ℕ → ℕ → Action
action_with mark a b c =
    pick (eqb mark one_store_mark) (D.store delayed_sign a b)
    (pick (eqb mark (one_store_mark + 1)) (D.store equal_sign a b)
    (pick (eqb mark pair_store_mark) (D.store_pair delayed_sign a b c)
    (pick (eqb mark (pair_store_mark + 1)) (D.store_pair equal_sign a b c)
    (pick (eqb mark set_mark) (D.set a)
    (pick (eqb mark perform_mark) (D.perform a)
    (pick (eqb mark goto_mark) (D.goto a)
    (pick (eqb mark call_mark) (D.call a)
    (pick (eqb mark return_mark) D.return
    (pick (eqb mark when_mark) (D.when a b)
    (pick (eqb mark choose_mark) (D.choose a b c)
    (pick (eqb mark arm_mark) (D.arm a) D.Action.broken)))))))))))

unfoldable pub action_of : List ℕ → ℕ → Action
action_of s n =
    let at = action_size * n in
    let action = action_with (get_or s at 0) (half_at (at + 1) s) (half_at (at + 3) s) (half_at (at + 5) s) in
    pick (leb (at + action_size) (length s)) action D.Action.broken

abbrev pub run_at : ℕ → List ℕ → Run
run_at at s = record { first = half_at at s; count = half_at (at + 2) s }

abbrev pub value_of : ℕ → Option ℕ
value_of n = pick (eqb n no_value) none (some n)

-- ---- Sections. A record's name begins where the one before it ended.

unfoldable pub facilities_at : ℕ → ℕ → List ℕ → List ℕ → List Facility
facilities_at zero at s names = []
facilities_at (suc k) at s names =
    let l = get_or s (at + 2) 0 in
    facility_of at s (take l names) ∷ facilities_at k (at + facility_size) s (drop l names)

unfoldable pub operations_at : ℕ → ℕ → List ℕ → List ℕ → List Operation
operations_at zero at s names = []
operations_at (suc k) at s names =
    let l = get_or s at 0 in
    record { name = take l names; body = run_at (at + 1) s } ∷ operations_at k (at + operation_size) s (drop l names)

unfoldable pub states_at : ℕ → ℕ → List ℕ → List ℕ → List State
states_at zero at s names = []
states_at (suc k) at s names =
    let l = get_or s at 0 in
    record { name = take l names; value = value_of (half_at (at + 1) s); actions = run_at (at + 3) s } ∷ states_at k (at + state_size) s (drop l names)

-- The bytes that k records of a section give to names, where the first one's length stands at `at` and the records are `size` bytes apart.
unfoldable pub names_length : ℕ → ℕ → ℕ → List ℕ → ℕ
names_length zero at size s = 0
names_length (suc k) at size s = get_or s at 0 + names_length k (at + size) size s

-- f of 0 to n - 1.
unfoldable pub up_to : {A : Type 0} → (ℕ → A) → ℕ → ℕ → List A
up_to f i zero = []
up_to f i (suc n) = f i ∷ up_to f (suc i) n

-- What sections describe; a section has as many records as its bytes allow.
unfoldable pub described : Sections → Description
described x =
    let facilities : ℕ = length x.facilities / facility_size in
    let operations : ℕ = length x.operations / operation_size in
    let second : List ℕ = drop (names_length facilities 2 facility_size x.facilities) x.names in
    let third : List ℕ = drop (names_length operations 0 operation_size x.operations) second in
    record {
      facilities = facilities_at facilities 0 x.facilities x.names;
      operations = operations_at operations 0 x.operations second;
      expressions = up_to (node_of x.expressions) 0 (length x.expressions / node_size);
      actions = up_to (action_of x.actions) 0 (length x.actions / action_size);
      states = states_at (length x.states / state_size) 0 x.states third;
    }

-- The count and offset of section number k in the header, and its bytes.
abbrev pub count_of : ℕ → List ℕ → ℕ
count_of k s = number_at 4 (count_field k) s

abbrev pub offset_of : ℕ → List ℕ → ℕ
offset_of k s = number_at 4 (offset_field k) s

abbrev pub section_at : ℕ → ℕ → List ℕ → List ℕ
section_at k size s = take (size * count_of k s) (drop (offset_of k s) s)

unfoldable pub sections_in : List ℕ → Sections
sections_in s = record {
  facilities = section_at facilities_section facility_size s;
  operations = section_at operations_section operation_size s;
  expressions = section_at expressions_section node_size s;
  actions = section_at actions_section action_size s;
  states = section_at states_section state_size s;
  names = section_at names_section name_size s;
}

unfoldable pub decode : List ℕ → Description
decode s = described (sections_in s)
