use mathlib.Core.Path.{ap}
use Rattle.language.specs.Description as D
use Rattle.parse_actions.proofs.Rewriting.{again}
use Rattle.parse_actions.proofs.leaves.arm_again.Goals as goal

pub returns : goal.returns
returns c =
    again (ap D.arm c.behind.ensures) c.rewrite_action.ensures
