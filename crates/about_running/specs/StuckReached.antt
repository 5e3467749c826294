-- Each way to be stuck, at every place where the step has it, and an image for it that does not pass (proofs/StuckReached.antt).
use Rattle.std.specs.Prelude.{false, List, [], ◌∷◌, ◌≡◌, ℕ, length}
use Rattle.std.proofs.Math.Option.{Option, none, some}
use Rattle.language.specs.Decode.{decode}
use Rattle.language.specs.Description as D
use Rattle.language.specs.Description.{Action, Facility, Node, bounds}
use Rattle.language.specs.Encode.{encode}
use Rattle.language.specs.Image.{passes}
use Rattle.language.specs.Kinds.{con_word, delayed_sign, head_word, minus, plus, sum_sign}
use Rattle.language.specs.Meaning.{Stuck, length_differs, missing_arm, no_arm, no_facility, no_operation, no_operator, no_state, no_state_value, not_before, not_one_bit, not_storable, outside, runs_over, sides_differ, too_large, wrong_count, wrong_length, wrong_record, wrong_subscripts}
use Rattle.language.specs.Step.{Outcome, open_record, step}
use Rattle.language.specs.Store.{inputs_of, zero_words}
use Rattle.language.specs.Tree.{Kind, computed, input, plain, register, sequencing}
use Rattle.language.specs.Value.{value}

-- The first cycle of what an image's bytes describe.
unfoldable pub first_cycle : List ℕ → Outcome
first_cycle image =
    let d = decode image in
    step d (zero_words d.facilities) (open_record d) (zero_words (inputs_of d.facilities))

-- An image that does not pass, and whose first cycle is stuck in this way.
pub record Reached (s : Stuck) : Type 0 where
  pub image : List ℕ
  pub fails : passes image ≡ false
  pub gets-stuck : first_cycle image ≡ Outcome.stuck s

-- ---- Small images: the facilities A, B and so on; one state, P, whose actions are all there are.

unfoldable pub facility : ℕ → Kind → ℕ → ℕ → Facility
facility letter k last root = record { name = letter ∷ []; kind = k; dimensions = 1; words = bounds 0 0; bits = bounds 1 last; expression = root }

-- A register of four bits.
unfoldable pub a : Facility
a = facility 65 register 4 0

unfoldable pub valued : Option ℕ → List Facility → List Node → List Action → List ℕ
valued v fs es xs =
    encode (record {
      facilities = fs;
      operations = [];
      expressions = es;
      actions = xs;
      states = record { name = 80 ∷ []; value = v; actions = record { first = 0; count = length xs } } ∷ [];
    })

unfoldable pub forged : List Facility → List Node → List Action → List ℕ
forged = valued none

-- A <- e, where e is record 1.
unfoldable pub storing : Node → List ℕ
storing e = forged (a ∷ []) (D.whole 0 ∷ e ∷ []) (D.store delayed_sign 0 1 ∷ [])

-- A <- e, where e is record 2, after A.
unfoldable pub operating : Node → List ℕ
operating e = forged (a ∷ []) (D.whole 0 ∷ D.whole 0 ∷ e ∷ []) (D.store delayed_sign 0 2 ∷ [])

-- A <- e, where e is record 4, after a constant of one bit, A, and two arms.
unfoldable pub choosing : Node → List ℕ
choosing e = forged (a ∷ []) (D.constant (value 1 1) ∷ D.whole 0 ∷ D.first_arm 1 ∷ D.next_arm 2 1 ∷ e ∷ []) (D.store delayed_sign 1 4 ∷ [])

unfoldable pub acting : List Action → List ℕ
acting xs = forged (a ∷ []) (D.whole 0 ∷ []) xs

-- A is the sequencing register, and P, with this value, is entered once more.
unfoldable pub sequenced : Option ℕ → List Node → List ℕ
sequenced v es = valued v (facility 65 sequencing 4 0 ∷ []) es (D.goto 0 ∷ [])

-- ---- Every place.

pub data Place : Type 0 where
  -- an operand whose record is not before its operator's
  part_not_before : Place
  -- an arm where an expression should stand
  arm_as_expression : Place
  -- further digits of a constant that is not there
  digits_as_expression : Place
  -- a record that no reading writes
  broken_expression : Place
  -- 4 bits and the number 16
  constant_too_large : Place
  -- facility 7 of one
  facility_absent : Place
  -- two subscripts of one dimension
  subscripts_wrong : Place
  -- bits 9 to 12 of bits 1 to 4
  part_outside : Place
  -- a whole word of 300 bits
  word_too_long : Place
  -- a sum of 257 bits
  sum_too_long : Place
  -- nine leading bits of four
  head_too_long : Place
  -- - between two operands
  binary_absent : Place
  -- CON before an operand
  prefix_absent : Place
  -- + where HEAD, TAIL or EXT should stand
  cut_absent : Place
  -- a computed terminal of three bits that is four bits of A
  terminal_differs : Place
  -- an IF expression whose condition is A, of four bits
  choice_not_one_bit : Place
  -- a CASE expression of three arms over the constant 2D3
  expression_armless : Place
  -- an expression whose last arm is no arm
  expression_arm_missing : Place
  -- a store to a constant
  side_no_reference : Place
  -- three bits stored to four
  sides_unequal : Place
  -- a delayed store to an input terminal
  not_stored_to : Place
  -- @ of four bits
  set_too_long : Place
  -- @ of a register
  not_set : Place
  -- operation 3 of none
  operation_absent : Place
  -- -> to state 9 of one
  went_nowhere : Place
  -- => to state 9 of one
  called_nowhere : Place
  -- IF A, of four bits
  if_not_one_bit : Place
  -- IF A with ELSE
  if_else_not_one_bit : Place
  -- CASE of three arms over the constant 2D3
  action_armless : Place
  -- RETURN where the arm should stand
  action_arm_missing : Place
  -- a conditional that ends after its list
  conditional_runs_over : Place
  -- an arm that does
  arm_runs_over : Place
  -- an arm where an action should stand
  arm_as_action : Place
  -- a record that no reading writes
  broken_action : Place
  -- no state at all
  state_absent : Place
  -- the next state bears no value
  value_absent : Place
  -- its value is the register itself
  value_no_constant : Place
  -- its value is 4 bits and the number 16
  value_too_large : Place
  -- its value has three bits
  value_differs : Place

-- The way to be stuck there.
abbrev pub stuck_at : Place → Stuck
stuck_at part_not_before = not_before
stuck_at arm_as_expression = wrong_record
stuck_at digits_as_expression = wrong_record
stuck_at broken_expression = wrong_record
stuck_at constant_too_large = too_large
stuck_at facility_absent = no_facility
stuck_at subscripts_wrong = wrong_subscripts
stuck_at part_outside = outside
stuck_at word_too_long = wrong_length
stuck_at sum_too_long = wrong_length
stuck_at head_too_long = wrong_count
stuck_at binary_absent = no_operator
stuck_at prefix_absent = no_operator
stuck_at cut_absent = no_operator
stuck_at terminal_differs = length_differs
stuck_at choice_not_one_bit = not_one_bit
stuck_at expression_armless = no_arm
stuck_at expression_arm_missing = missing_arm
stuck_at side_no_reference = wrong_record
stuck_at sides_unequal = sides_differ
stuck_at not_stored_to = not_storable
stuck_at set_too_long = sides_differ
stuck_at not_set = not_storable
stuck_at operation_absent = no_operation
stuck_at went_nowhere = no_state
stuck_at called_nowhere = no_state
stuck_at if_not_one_bit = not_one_bit
stuck_at if_else_not_one_bit = not_one_bit
stuck_at action_armless = no_arm
stuck_at action_arm_missing = missing_arm
stuck_at conditional_runs_over = runs_over
stuck_at arm_runs_over = runs_over
stuck_at arm_as_action = wrong_record
stuck_at broken_action = wrong_record
stuck_at state_absent = no_state
stuck_at value_absent = no_state_value
stuck_at value_no_constant = wrong_record
stuck_at value_too_large = too_large
stuck_at value_differs = sides_differ

-- An image for it.
unfoldable pub forged_for : Place → List ℕ
unfolding facility a valued forged storing operating choosing acting sequenced
forged_for part_not_before = storing (D.prefix minus 1)
forged_for arm_as_expression = storing (D.first_arm 0)
forged_for digits_as_expression = storing (D.more 0)
forged_for broken_expression = storing D.Node.broken
forged_for constant_too_large = storing (D.constant (value 4 16))
forged_for facility_absent = storing (D.whole 7)
forged_for subscripts_wrong = storing (D.two 0 0 0)
forged_for part_outside = storing (D.part 0 (bounds 9 12))
forged_for word_too_long = forged (a ∷ facility 66 register 300 0 ∷ []) (D.whole 0 ∷ D.whole 1 ∷ []) (D.store delayed_sign 0 1 ∷ [])
forged_for sum_too_long = forged (a ∷ facility 66 register 256 0 ∷ []) (D.whole 0 ∷ D.whole 1 ∷ D.whole 1 ∷ D.binary sum_sign 1 2 ∷ []) (D.store delayed_sign 0 3 ∷ [])
forged_for head_too_long = operating (D.cut head_word 1 9)
forged_for binary_absent = operating (D.binary minus 1 1)
forged_for prefix_absent = operating (D.prefix con_word 1)
forged_for cut_absent = operating (D.cut plus 1 2)
forged_for terminal_differs = forged (a ∷ facility 66 computed 3 0 ∷ []) (D.whole 0 ∷ D.whole 0 ∷ D.whole 1 ∷ []) (D.store delayed_sign 1 2 ∷ [])
forged_for choice_not_one_bit = choosing (D.choice 1 3 2)
forged_for expression_armless = forged (a ∷ []) (D.constant (value 2 3) ∷ D.whole 0 ∷ D.first_arm 1 ∷ D.next_arm 2 1 ∷ D.next_arm 3 1 ∷ D.choice 0 4 3 ∷ []) (D.store delayed_sign 1 5 ∷ [])
forged_for expression_arm_missing = choosing (D.choice 0 1 2)
forged_for side_no_reference = forged (a ∷ []) (D.constant (value 4 0) ∷ D.whole 0 ∷ []) (D.store delayed_sign 0 1 ∷ [])
forged_for sides_unequal = storing (D.constant (value 3 0))
forged_for not_stored_to = forged (facility 65 input 4 0 ∷ []) (D.whole 0 ∷ D.whole 0 ∷ []) (D.store delayed_sign 0 1 ∷ [])
forged_for set_too_long = forged (facility 65 plain 4 0 ∷ []) (D.whole 0 ∷ []) (D.set 0 ∷ [])
forged_for not_set = forged (a ∷ []) (D.whole 0 ∷ []) (D.set 0 ∷ [])
forged_for operation_absent = acting (D.perform 3 ∷ [])
forged_for went_nowhere = acting (D.goto 9 ∷ [])
forged_for called_nowhere = acting (D.call 9 ∷ [])
forged_for if_not_one_bit = acting (D.when 0 1 ∷ D.arm 0 ∷ [])
forged_for if_else_not_one_bit = acting (D.choose 0 2 2 ∷ D.arm 0 ∷ D.arm 0 ∷ [])
forged_for action_armless = forged (a ∷ []) (D.constant (value 2 3) ∷ []) (D.choose 0 3 3 ∷ D.arm 0 ∷ D.arm 0 ∷ D.arm 0 ∷ [])
forged_for action_arm_missing = forged (a ∷ []) (D.constant (value 1 1) ∷ []) (D.when 0 1 ∷ D.return ∷ [])
forged_for conditional_runs_over = forged (a ∷ []) (D.constant (value 1 0) ∷ []) (D.when 0 5 ∷ D.arm 0 ∷ [])
forged_for arm_runs_over = forged (a ∷ []) (D.constant (value 1 1) ∷ []) (D.when 0 5 ∷ D.arm 4 ∷ [])
forged_for arm_as_action = acting (D.arm 0 ∷ [])
forged_for broken_action = acting (D.Action.broken ∷ [])
forged_for state_absent = encode (record { facilities = []; operations = []; expressions = []; actions = []; states = [] })
forged_for value_absent = sequenced none []
forged_for value_no_constant = sequenced (some 0) (D.whole 0 ∷ [])
forged_for value_too_large = sequenced (some 0) (D.constant (value 4 16) ∷ [])
forged_for value_differs = sequenced (some 0) (D.constant (value 3 0) ∷ [])
