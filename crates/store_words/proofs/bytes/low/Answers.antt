use lib.Pow.{pow_pos}
use Rattle.value_limbs.proofs.Laws.{mask_low, one_left}
use borrow.Author.Rules.{rules}
use Rattle.store_words.proofs.bytes.low.Goals as goal

pub overflow_sub-result : goal.overflow_sub-result
overflow_sub-result c = rw (one_left 64 c.args.n (search rules)) (pow_pos c.args.n)

pub returns : goal.returns
returns c = mask_low 64 c.args.a c.args.n (search rules)
