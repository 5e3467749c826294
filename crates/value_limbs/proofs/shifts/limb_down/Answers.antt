use Rattle.value_limbs.specs.Limbs.{number}
use Rattle.value_limbs.proofs.Laws.{down-four}
use borrow.Author.Rules.{rules}
use Rattle.value_limbs.proofs.shifts.limb_down.Goals as goal

pub returns : goal.returns
unfolding number
returns c = down-four {x = c.args.x} (search rules)
