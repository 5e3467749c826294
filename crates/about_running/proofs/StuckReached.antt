-- Each way to be stuck is reached, and each at every place where the step has it: by an image that does not pass, from a store of zeroes and the record of opening. Assumes nothing.
use Rattle.std.specs.Prelude.{false, ◌≡◌, refl}
use Rattle.language.specs.Computing.{computing}
use Rattle.language.specs.Image.{passes}
use Rattle.language.specs.Meaning.{Stuck, length_differs, missing_arm, no_arm, no_facility, no_operation, no_operator, no_state, no_state_value, not_before, not_one_bit, not_storable, outside, runs_over, sides_differ, too_large, wrong_count, wrong_length, wrong_record, wrong_subscripts}
use Rattle.language.specs.Step.{Outcome}
use Rattle.about_running.specs.StuckReached.{Place, Reached, a, acting, action_arm_missing, action_armless, arm_as_action, arm_as_expression, arm_runs_over, binary_absent, broken_action, broken_expression, called_nowhere, choice_not_one_bit, choosing, conditional_runs_over, constant_too_large, cut_absent, digits_as_expression, expression_arm_missing, expression_armless, facility, facility_absent, first_cycle, forged, forged_for, head_too_long, if_else_not_one_bit, if_not_one_bit, not_set, not_stored_to, operating, operation_absent, part_not_before, part_outside, prefix_absent, sequenced, set_too_long, side_no_reference, sides_unequal, state_absent, storing, stuck_at, subscripts_wrong, sum_too_long, terminal_differs, value_absent, value_differs, value_no_constant, value_too_large, valued, went_nowhere, word_too_long}

-- It does not pass, and its first cycle is stuck in that way.
reached : (w : Place) → (passes (forged_for w) ≡ false) × (first_cycle (forged_for w) ≡ Outcome.stuck (stuck_at w))
unfolding computing first_cycle facility a valued forged storing operating choosing acting sequenced forged_for
reached part_not_before = (refl, refl)
reached arm_as_expression = (refl, refl)
reached digits_as_expression = (refl, refl)
reached broken_expression = (refl, refl)
reached constant_too_large = (refl, refl)
reached facility_absent = (refl, refl)
reached subscripts_wrong = (refl, refl)
reached part_outside = (refl, refl)
reached word_too_long = (refl, refl)
reached sum_too_long = (refl, refl)
reached head_too_long = (refl, refl)
reached binary_absent = (refl, refl)
reached prefix_absent = (refl, refl)
reached cut_absent = (refl, refl)
reached terminal_differs = (refl, refl)
reached choice_not_one_bit = (refl, refl)
reached expression_armless = (refl, refl)
reached expression_arm_missing = (refl, refl)
reached side_no_reference = (refl, refl)
reached sides_unequal = (refl, refl)
reached not_stored_to = (refl, refl)
reached set_too_long = (refl, refl)
reached not_set = (refl, refl)
reached operation_absent = (refl, refl)
reached went_nowhere = (refl, refl)
reached called_nowhere = (refl, refl)
reached if_not_one_bit = (refl, refl)
reached if_else_not_one_bit = (refl, refl)
reached action_armless = (refl, refl)
reached action_arm_missing = (refl, refl)
reached conditional_runs_over = (refl, refl)
reached arm_runs_over = (refl, refl)
reached arm_as_action = (refl, refl)
reached broken_action = (refl, refl)
reached state_absent = (refl, refl)
reached value_absent = (refl, refl)
reached value_no_constant = (refl, refl)
reached value_too_large = (refl, refl)
reached value_differs = (refl, refl)

pub place-reached : (w : Place) → Reached (stuck_at w)
place-reached w = let y = reached w in record { image = forged_for w; fails = y.0; gets-stuck = y.1 }

-- Every way.
pub each-reached : (s : Stuck) → Reached s
each-reached not_before = place-reached part_not_before
each-reached wrong_record = place-reached arm_as_expression
each-reached no_arm = place-reached expression_armless
each-reached missing_arm = place-reached expression_arm_missing
each-reached no_facility = place-reached facility_absent
each-reached no_operation = place-reached operation_absent
each-reached no_state = place-reached went_nowhere
each-reached no_operator = place-reached binary_absent
each-reached wrong_subscripts = place-reached subscripts_wrong
each-reached outside = place-reached part_outside
each-reached wrong_length = place-reached word_too_long
each-reached too_large = place-reached constant_too_large
each-reached wrong_count = place-reached head_too_long
each-reached length_differs = place-reached terminal_differs
each-reached not_one_bit = place-reached choice_not_one_bit
each-reached sides_differ = place-reached sides_unequal
each-reached not_storable = place-reached not_stored_to
each-reached runs_over = place-reached conditional_runs_over
each-reached no_state_value = place-reached value_absent
