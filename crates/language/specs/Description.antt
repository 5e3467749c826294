-- A description: facilities, operations, expressions, actions and states as lists of records, an expression's parts by their numbers; the places of their words beside them.
use Rattle.std.specs.Prelude.{Bool, true, false, cond, List, [], ◌∷◌, ℕ, suc, ◌+◌, ◌-◌, ◌/◌, eqb, leb, get_or}
use Rattle.std.proofs.Math.Option.{Option, none, some}
use Rattle.language.specs.Tree.{Kind, Name, computed, input, memory, plain, register, sequencing}
use Rattle.language.specs.Value.{Value, value}
use Rattle.language.specs.Words.{Position, position}

-- ---- Facilities (the manual, 4 and 6).

-- First and last bound of a dimension, in either direction.
pub record Bounds : Type 0 where
  pub first : ℕ
  pub last : ℕ

abbrev pub bounds : ℕ → ℕ → Bounds
bounds a b = record { first = a; last = b }

-- With one dimension only the bits have bounds, with none neither; bounds that are not there are 0:0. A computed terminal has the number of its expression.
pub record Facility : Type 0 where
  pub name : Name
  pub kind : Kind
  pub dimensions : ℕ
  pub words : Bounds
  pub bits : Bounds
  pub expression : ℕ

-- How many numbers lie between two bounds.
unfoldable pub span_of : Bounds → ℕ
span_of b = cond (leb b.first b.last) (b.last - b.first + 1) (b.first - b.last + 1)

unfoldable pub in_bounds : Bounds → ℕ → Bool
in_bounds b n = cond (leb b.first b.last) (cond (leb b.first n) (leb n b.last) false) (cond (leb b.last n) (leb n b.first) false)

-- How far a number is from the first bound, which names the most significant bit or the first word.
unfoldable pub from_first : Bounds → ℕ → ℕ
from_first b n = cond (leb b.first b.last) (n - b.first) (b.first - n)

-- Bits of a word: a facility without dimensions is one bit.
unfoldable pub word_length : Facility → ℕ
unfolding span_of
word_length f = cond (eqb f.dimensions 0) 1 (span_of f.bits)

unfoldable pub word_count : Facility → ℕ
unfolding span_of
word_count f = cond (eqb f.dimensions 2) (span_of f.words) 1

abbrev pub is_computed : Kind → Bool
is_computed register = false
is_computed sequencing = false
is_computed memory = false
is_computed plain = false
is_computed input = false
is_computed computed = true

abbrev pub is_sequencing : Kind → Bool
is_sequencing register = false
is_sequencing sequencing = true
is_sequencing memory = false
is_sequencing plain = false
is_sequencing input = false
is_sequencing computed = false

-- ---- Expressions: references by the facility's number; operators by the kinds of their words; parts by their records' numbers.

pub data Node : Type 0 where
  constant : Value → Node
  -- a further part of a wide constant, whose record comes after it
  more : ℕ → Node
  whole : ℕ → Node
  one : ℕ → ℕ → Node
  part : ℕ → Bounds → Node
  two : ℕ → ℕ → ℕ → Node
  word_part : ℕ → ℕ → Bounds → Node
  binary : ℕ → ℕ → ℕ → Node
  prefix : ℕ → ℕ → Node
  cut : ℕ → ℕ → ℕ → Node
  first_arm : ℕ → Node
  next_arm : ℕ → ℕ → Node
  -- condition, last arm, number of arms
  choice : ℕ → ℕ → ℕ → Node
  -- a name that means nothing here, or a record that no reading writes
  broken : Node

-- The constant that a record is, if it is one.
abbrev pub constant_in : Node → Option Value
constant_in (constant v) = some v
constant_in (more n) = none
constant_in (whole f) = none
constant_in (one f e) = none
constant_in (part f b) = none
constant_in (two f e g) = none
constant_in (word_part f e b) = none
constant_in (binary k a b) = none
constant_in (prefix k a) = none
constant_in (cut k a c) = none
constant_in (first_arm e) = none
constant_in (next_arm a e) = none
constant_in (choice e a n) = none
constant_in Node.broken = none

abbrev pub or_no_bits : Option Value → Value
or_no_bits none = value 0 0
or_no_bits (some v) = v

abbrev pub number_in : Option Value → Option ℕ
number_in none = none
number_in (some v) = some v.number

abbrev pub number_of_constant : Node → Option ℕ
number_of_constant n = number_in (constant_in n)

-- The value of such a record; any other has no bits.
abbrev pub constant_value : Node → Value
constant_value n = or_no_bits (constant_in n)

-- A constant of l bits takes a record for each 48 bits or part of them.
unfoldable pub digit_length : ℕ
digit_length = 48

unfoldable pub further_digits : ℕ → ℕ
unfolding digit_length
further_digits l = (l - 1) / digit_length

-- ---- Actions. A conditional is followed by its arms, and each arm by its actions: the numbers say how many records that is.

pub data Action : Type 0 where
  -- a store by its sign: left side, right side
  store : ℕ → ℕ → ℕ → Action
  store_pair : ℕ → ℕ → ℕ → ℕ → Action
  set : ℕ → Action
  perform : ℕ → Action
  goto : ℕ → Action
  call : ℕ → Action
  return : Action
  -- condition, records that follow; IF without ELSE has one arm
  when : ℕ → ℕ → Action
  -- condition, number of arms, records that follow
  choose : ℕ → ℕ → ℕ → Action
  arm : ℕ → Action
  broken : Action

-- A run of action records: the first one's number, and how many.
pub record Run : Type 0 where
  pub first : ℕ
  pub count : ℕ

pub record Operation : Type 0 where
  pub name : Name
  pub body : Run

-- An unnamed state has the empty name. The value is a constant, by its record's number.
pub record State : Type 0 where
  pub name : Name
  pub value : Option ℕ
  pub actions : Run

pub record Description : Type 0 where
  pub facilities : List Facility
  pub operations : List Operation
  pub expressions : List Node
  pub actions : List Action
  pub states : List State

-- ---- What stands at a number.

abbrev pub no_facility : Facility
no_facility = record { name = []; kind = plain; dimensions = 0; words = bounds 0 0; bits = bounds 0 0; expression = 0 }

abbrev pub no_run : Run
no_run = record { first = 0; count = 0 }

unfoldable pub facility_at : Description → ℕ → Facility
facility_at d n = get_or d.facilities n no_facility

unfoldable pub node_at : Description → ℕ → Node
node_at d n = get_or d.expressions n broken

unfoldable pub action_at : Description → ℕ → Action
action_at d n = get_or d.actions n broken

unfoldable pub operation_at : Description → ℕ → Operation
operation_at d n = get_or d.operations n (record { name = []; body = no_run })

unfoldable pub state_at : Description → ℕ → State
state_at d n = get_or d.states n (record { name = []; value = none; actions = no_run })

-- The first sequencing register, if any.
unfoldable pub sequencing_from : ℕ → List Facility → Option ℕ
sequencing_from n [] = none
sequencing_from n (f ∷ fs) =
    let later = sequencing_from (suc n) fs in
    cond (is_sequencing f.kind) (some n) later

unfoldable pub sequencing_of : Description → Option ℕ
unfolding sequencing_from
sequencing_of d = sequencing_from 0 d.facilities

-- ---- Places.

pub record FacilityPlaces : Type 0 where
  pub name : Position
  -- the bounds' constants, and the `=` of a computed terminal
  pub words_first : Position
  pub words_last : Position
  pub bits_first : Position
  pub bits_last : Position
  pub equals : Position

-- The word of an operator, constant or name; and the ends of a part.
pub record NodePlaces : Type 0 where
  pub at : Position
  pub first : Position
  pub last : Position

pub record StatePlaces : Type 0 where
  pub at : Position
  pub value : Position

pub record Places : Type 0 where
  pub facilities : List FacilityPlaces
  pub operations : List Position
  pub expressions : List NodePlaces
  pub actions : List Position
  pub states : List StatePlaces

-- An image has no places.
abbrev pub no_places : Places
no_places = record { facilities = []; operations = []; expressions = []; actions = []; states = [] }

abbrev pub nowhere : Position
nowhere = position 0

abbrev pub node_places : Position → NodePlaces
node_places p = record { at = p; first = nowhere; last = nowhere }

unfoldable pub node_place : Places → ℕ → NodePlaces
node_place p n = get_or p.expressions n (node_places nowhere)

unfoldable pub action_place : Places → ℕ → Position
action_place p n = get_or p.actions n nowhere

unfoldable pub facility_place : Places → ℕ → FacilityPlaces
facility_place p n =
    get_or p.facilities n (record { name = nowhere; words_first = nowhere; words_last = nowhere; bits_first = nowhere; bits_last = nowhere; equals = nowhere })

unfoldable pub operation_place : Places → ℕ → Position
operation_place p n = get_or p.operations n nowhere

unfoldable pub state_place : Places → ℕ → StatePlaces
state_place p n = get_or p.states n (record { at = nowhere; value = nowhere })
