-- What the code's answers mean in the language.
use Rattle.std.specs.Prelude.{Err, Ok, Result}
use Rattle.language.specs.Meaning as M
use Rattle.value_operators.specs.Meaning.{valued}
use Rattle.value_operators.specs.declared.Value.{Value}
use Rattle.run_references.specs.declared.worth.Halted.{Halted}
use Rattle.run_references.specs.declared.worth.Halted.TheVariants as H
use Rattle.run_references.specs.declared.worth.Stuck.{Stuck}
use Rattle.run_references.specs.declared.worth.Stuck.TheVariants as S

abbrev pub stuck_meant : Stuck → M.Stuck
stuck_meant S.NotBefore = M.not_before
stuck_meant S.WrongRecord = M.wrong_record
stuck_meant S.NoArm = M.no_arm
stuck_meant S.MissingArm = M.missing_arm
stuck_meant S.NoFacility = M.no_facility
stuck_meant S.NoOperation = M.no_operation
stuck_meant S.NoState = M.no_state
stuck_meant S.NoOperator = M.no_operator
stuck_meant S.WrongSubscripts = M.wrong_subscripts
stuck_meant S.Outside = M.outside
stuck_meant S.WrongLength = M.wrong_length
stuck_meant S.WrongCount = M.wrong_count
stuck_meant S.LengthDiffers = M.length_differs
stuck_meant S.NotOneBit = M.not_one_bit
stuck_meant S.SidesDiffer = M.sides_differ
stuck_meant S.NotStorable = M.not_storable
stuck_meant S.RunsOver = M.runs_over
stuck_meant S.NoStateValue = M.no_state_value

-- A halt in place of a value.
abbrev pub unanswered : Halted → M.Answer
unanswered (H.Stopped n) = M.Answer.stops n
unanswered (H.Stuck s) = M.Answer.stuck (stuck_meant s)

abbrev pub answered : Result Value Halted → M.Answer
answered (Ok v) = M.Answer.is (valued v)
answered (Err h) = unanswered h
