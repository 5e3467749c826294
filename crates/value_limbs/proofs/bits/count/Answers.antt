use Rattle.value_limbs.proofs.Laws.{ones-four}
use borrow.Author.Rules.{rules}
use Rattle.value_limbs.proofs.bits.count.Goals as goal

pub returns : goal.returns
returns c = ones-four {x = c.args.x} (search rules)
