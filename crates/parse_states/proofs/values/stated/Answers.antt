use mathlib.Core.Path.{refl}
use Rattle.parse_states.proofs.values.stated.Goals as goal

pub returns : goal.returns
returns c =
    record { value = c.state_value.ensures; place = refl }
