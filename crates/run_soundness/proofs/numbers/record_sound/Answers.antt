use native.Mathlib.Omega.{arith}
use Rattle.std.proofs.lemmas.Grind.{common_steps}
use Rattle.language.specs.Ceilings.{most_returns}
use Rattle.run_soundness.specs.Tested.{record_sound}
use Rattle.run_soundness.proofs.ReturnLaws.{returns_apart}
use Rattle.run_soundness.proofs.numbers.record_sound.Goals as goal
use Rattle.run_soundness.proofs.numbers.record_sound.Goals.{then-r-states, else-r-states}

pub returns-then-all_states : goal.returns-then-all_states
unfolding record_sound most_returns
returns-then-all_states c =
    elim c.if-r-states.branch [
      | then-r-states w ↦ grind (arith, common_steps, returns_apart)
      | else-r-states w ↦ grind (arith, common_steps)
    ]
