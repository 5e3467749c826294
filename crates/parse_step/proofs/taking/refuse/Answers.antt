use mathlib.Core.Path.{refl}
use Rattle.parse_step.proofs.taking.refuse.Goals as goal

pub returns : goal.returns
returns t c =
    record { fault = _; refused = refl; is = refl }
