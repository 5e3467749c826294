use lib.Bits.{bit_xor, xor_block}
use Rattle.value_limbs.specs.Limbs.{number}
use Rattle.value_limbs.proofs.Laws.{op-four}
use borrow.Author.Rules.{rules}
use Rattle.value_limbs.proofs.bits.xor.Goals as goal

pub returns : goal.returns
unfolding number
returns c = op-four bit_xor xor_block {x = c.args.x} {y = c.args.y} (search rules) (search rules)
