use mathlib.Core.List.{◌∷◌}
use Rattle.language.specs.Building.{keep_word}
use Rattle.language.specs.Declaring.{tree_steps}
use Rattle.language.specs.Machine.{make}
use Rattle.parse_step.proofs.Saying.{not_taken}
use Rattle.parse_step.specs.Taken.{constant_word}
use Rattle.parse_step.proofs.Paying.{not-took}
use Rattle.parse_operands.proofs.OperandCosts.{constant-spends}
use Rattle.parse_operands.proofs.OperandLaws.{constant-says, term-course}
use Rattle.parse_step.proofs.Answers.{err-came}
use mathlib.Core.Path.{refl}
use Rattle.parse_operands.proofs.constants.constant.Goals as goal

pub returns-in_err-taken : goal.returns-in_err-taken
returns-in_err-taken c =
    rw (err-came c.from_residual.ensures.1) (λ e. (λ sc h. not_taken c.in_err-taken.ensures refl (λ K. make tree_steps.make_constant ∷ K) (λ b. keep_word (constant_word c.args.w) b) (term-course e h), not-took c.in_err-taken.ensures refl))

pub returns : goal.returns
returns c =
    λ e. (λ sc h. constant-says e h c.in_ok-taken.ensures refl c.add_constant.ensures, constant-spends e c.in_ok-taken.ensures refl c.add_constant.ensures)
