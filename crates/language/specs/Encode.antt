-- The image (01, "Image, store, record"; docs/IMAGE.md): thirteen 32-bit little-endian numbers, then the sections without gaps.
use Rattle.std.specs.Prelude.{cond, List, [], ◌∷◌, ◌++◌, ℕ, zero, suc, ◌+◌, ◌-◌, ◌*◌, ◌/◌, ◌%◌, ◌^◌, eqb, length}
use Rattle.std.proofs.Math.Option.{Option, none, some}
use Rattle.language.specs.Description as D
use Rattle.language.specs.Description.{Action, Bounds, Description, Facility, Node, Operation, Run, State, digit_length, is_computed}
use Rattle.language.specs.Kinds.{delayed_sign}
use Rattle.language.specs.Layout.{facility_bytes}
use Rattle.language.specs.Tree.{Kind, computed, input, memory, plain, register, sequencing}

-- n bytes of a number, the lowest first.
unfoldable pub little : ℕ → ℕ → List ℕ
little zero x = []
little (suc n) x = x % 256 ∷ little n (x / 256)

abbrev pub two : ℕ → List ℕ
two x = little 2 x

abbrev pub four : ℕ → List ℕ
four x = little 4 x

-- ---- Sizes.

abbrev pub header_size : ℕ
header_size = 52

abbrev pub facility_size : ℕ
facility_size = 13

abbrev pub operation_size : ℕ
operation_size = 5

abbrev pub node_size : ℕ
node_size = 8

abbrev pub action_size : ℕ
action_size = 7

abbrev pub state_size : ℕ
state_size = 7

-- Names are counted in bytes.
abbrev pub name_size : ℕ
name_size = 1

-- ---- The sections by number, and the header's fields: the total length, then of each section how many records it has and where it begins.

abbrev pub facilities_section : ℕ
facilities_section = 0

abbrev pub operations_section : ℕ
operations_section = 1

abbrev pub expressions_section : ℕ
expressions_section = 2

abbrev pub actions_section : ℕ
actions_section = 3

abbrev pub states_section : ℕ
states_section = 4

abbrev pub names_section : ℕ
names_section = 5

abbrev pub length_field : ℕ
length_field = 0

abbrev pub count_field : ℕ → ℕ
count_field k = 4 + 8 * k

abbrev pub offset_field : ℕ → ℕ
offset_field k = 8 + 8 * k

-- ---- The marks of records. An operator's has the kind of its word in its low six bits.

abbrev pub constant_mark : ℕ
constant_mark = 1

abbrev pub more_mark : ℕ
more_mark = 2

abbrev pub whole_mark : ℕ
whole_mark = 3

abbrev pub one_mark : ℕ
one_mark = 4

abbrev pub part_mark : ℕ
part_mark = 5

abbrev pub two_mark : ℕ
two_mark = 6

abbrev pub word_part_mark : ℕ
word_part_mark = 7

abbrev pub first_arm_mark : ℕ
first_arm_mark = 8

abbrev pub next_arm_mark : ℕ
next_arm_mark = 9

abbrev pub choice_mark : ℕ
choice_mark = 10

abbrev pub binary_mark : ℕ
binary_mark = 64

abbrev pub prefix_mark : ℕ
prefix_mark = 128

abbrev pub cut_mark : ℕ
cut_mark = 192

-- Those of actions; an immediate store has the mark after that of the delayed one.
abbrev pub one_store_mark : ℕ
one_store_mark = 1

abbrev pub pair_store_mark : ℕ
pair_store_mark = 3

abbrev pub set_mark : ℕ
set_mark = 5

abbrev pub perform_mark : ℕ
perform_mark = 6

abbrev pub goto_mark : ℕ
goto_mark = 7

abbrev pub call_mark : ℕ
call_mark = 8

abbrev pub return_mark : ℕ
return_mark = 9

abbrev pub when_mark : ℕ
when_mark = 10

abbrev pub choose_mark : ℕ
choose_mark = 11

abbrev pub arm_mark : ℕ
arm_mark = 12

-- ---- Records.

abbrev pub kind_number : Kind → ℕ
kind_number register = 0
kind_number sequencing = 1
kind_number memory = 2
kind_number plain = 3
kind_number input = 4
kind_number computed = 5

abbrev pub bound_bytes : Bounds → List ℕ
bound_bytes b = two b.first ++ two b.last

-- Kind, dimensions, length of the name, bounds, and where it is: its place in the store, or the number of its expression.
unfoldable pub facility_record : ℕ → Facility → List ℕ
facility_record place f =
    kind_number f.kind ∷ f.dimensions % 256 ∷ length f.name % 256
    ∷ (bound_bytes f.words ++ (bound_bytes f.bits ++ two (cond (is_computed f.kind) f.expression place)))

unfoldable pub facility_records : ℕ → List Facility → List ℕ
facility_records place [] = []
facility_records place (f ∷ fs) = facility_record place f ++ facility_records (place + facility_bytes f) fs

abbrev pub run_bytes : Run → List ℕ
run_bytes r = two r.first ++ two r.count

unfoldable pub operation_record : Operation → List ℕ
operation_record o = length o.name % 256 ∷ run_bytes o.body

-- An expression's record: a mark, a byte, and three numbers.
abbrev pub node_record : ℕ → ℕ → ℕ → ℕ → ℕ → List ℕ
node_record mark x a b c = mark % 256 ∷ x % 256 ∷ (two a ++ (two b ++ two c))

abbrev pub digit_record : ℕ → ℕ → ℕ → List ℕ
digit_record mark x n = mark ∷ x % 256 ∷ little 6 n

unfoldable pub node_bytes : Node → List ℕ
unfolding digit_length
node_bytes (D.constant v) = digit_record constant_mark (v.length - 1) (v.number % 2 ^ digit_length)
node_bytes (D.more n) = digit_record more_mark 0 n
node_bytes (D.whole f) = node_record whole_mark f 0 0 0
node_bytes (D.one f e) = node_record one_mark f e 0 0
node_bytes (D.part f b) = node_record part_mark f b.first b.last 0
node_bytes (D.two f e g) = node_record two_mark f e g 0
node_bytes (D.word_part f e b) = node_record word_part_mark f e b.first b.last
node_bytes (D.first_arm e) = node_record first_arm_mark 0 e 0 0
node_bytes (D.next_arm a e) = node_record next_arm_mark 0 a e 0
node_bytes (D.choice e a n) = node_record choice_mark 0 e a n
node_bytes (D.binary k a b) = node_record (binary_mark + k) 0 a b 0
node_bytes (D.prefix k a) = node_record (prefix_mark + k) 0 a 0 0
node_bytes (D.cut k a c) = node_record (cut_mark + k) 0 a c 0
node_bytes D.Node.broken = node_record 0 0 0 0 0

abbrev pub action_record : ℕ → ℕ → ℕ → ℕ → List ℕ
action_record mark a b c = mark ∷ (two a ++ (two b ++ two c))

-- A store's mark says whether it is delayed.
abbrev pub store_mark : ℕ → ℕ → ℕ
store_mark k mark = cond (eqb k delayed_sign) mark (mark + 1)

unfoldable pub action_bytes : Action → List ℕ
action_bytes (D.store k l r) = action_record (store_mark k one_store_mark) l r 0
action_bytes (D.store_pair k l m r) = action_record (store_mark k pair_store_mark) l m r
action_bytes (D.set l) = action_record set_mark l 0 0
action_bytes (D.perform o) = action_record perform_mark o 0 0
action_bytes (D.goto s) = action_record goto_mark s 0 0
action_bytes (D.call s) = action_record call_mark s 0 0
action_bytes D.return = action_record return_mark 0 0 0
action_bytes (D.when c x) = action_record when_mark c x 0
action_bytes (D.choose c n x) = action_record choose_mark c n x
action_bytes (D.arm x) = action_record arm_mark x 0 0
action_bytes D.Action.broken = action_record 0 0 0 0

-- No value is 65,535.
abbrev pub no_value : ℕ
no_value = 65535

abbrev pub value_field : Option ℕ → ℕ
value_field none = no_value
value_field (some n) = n

unfoldable pub state_record : State → List ℕ
state_record s = length s.name % 256 ∷ (two (value_field s.value) ++ run_bytes s.actions)

unfoldable pub concat : {A : Type 0} → (A → List ℕ) → List A → List ℕ
concat f [] = []
concat f (x ∷ xs) = f x ++ concat f xs

-- The names of facilities, operations and states, one after the other.
unfoldable pub name_bytes : Description → List ℕ
unfolding concat
name_bytes d = concat (λ f. f.name) d.facilities ++ (concat (λ o. o.name) d.operations ++ concat (λ s. s.name) d.states)

-- ---- The whole: the sections, and the image that they make.

pub record Sections : Type 0 where
  pub facilities : List ℕ
  pub operations : List ℕ
  pub expressions : List ℕ
  pub actions : List ℕ
  pub states : List ℕ
  pub names : List ℕ

unfoldable pub sections_of : Description → Sections
unfolding concat
sections_of d = record {
  facilities = facility_records 0 d.facilities;
  operations = concat operation_record d.operations;
  expressions = concat node_bytes d.expressions;
  actions = concat action_bytes d.actions;
  states = concat state_record d.states;
  names = name_bytes d;
}

-- Count and offset of a section of records of a size.
abbrev pub entry : ℕ → ℕ → List ℕ → List ℕ
entry offset size s = four (length s / size) ++ four offset

-- The header of an image with these sections, and the sections in order without gaps.
unfoldable pub image_of : Sections → List ℕ
image_of x =
    let o : ℕ = header_size + length x.facilities in
    let e : ℕ = o + length x.operations in
    let a : ℕ = e + length x.expressions in
    let s : ℕ = a + length x.actions in
    let n : ℕ = s + length x.states in
    four (n + length x.names)
    ++ (entry header_size facility_size x.facilities
    ++ (entry o operation_size x.operations
    ++ (entry e node_size x.expressions
    ++ (entry a action_size x.actions
    ++ (entry s state_size x.states
    ++ (entry n name_size x.names
    ++ (x.facilities ++ (x.operations ++ (x.expressions ++ (x.actions ++ (x.states ++ x.names)))))))))))

unfoldable pub encode : Description → List ℕ
encode d = image_of (sections_of d)
