use lib.Bits.{bit_and, and_block}
use Rattle.value_limbs.specs.Limbs.{number}
use Rattle.value_limbs.proofs.Laws.{op-four}
use borrow.Author.Rules.{rules}
use Rattle.value_limbs.proofs.bits.and.Goals as goal

pub returns : goal.returns
unfolding number
returns c = op-four bit_and and_block {x = c.args.x} {y = c.args.y} (search rules) (search rules)
