use Rattle.value_limbs.specs.Limbs.{number}
use Rattle.value_limbs.proofs.Laws.{up-four}
use borrow.Author.Rules.{rules}
use Rattle.value_limbs.proofs.shifts.limb_up.Goals as goal

pub returns : goal.returns
unfolding number
returns c = up-four {x = c.args.x} (search rules)
