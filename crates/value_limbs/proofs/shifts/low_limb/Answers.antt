use lib.Pow.{pow_pos}
use Rattle.value_limbs.proofs.Laws.{one_left, mask_low, whole-low}
use borrow.Author.Rules.{rules}
use Rattle.value_limbs.proofs.shifts.low_limb.Goals as goal

pub overflow_sub-result : goal.overflow_sub-result
overflow_sub-result c =
    rw (one_left 64 c.args.k (search rules)) (pow_pos c.args.k)

pub returns-then-k-lt64 : goal.returns-then-k-lt64
returns-then-k-lt64 c =
    mask_low 64 c.args.a c.args.k (search rules)

pub returns-else-k-lt64 : goal.returns-else-k-lt64
returns-else-k-lt64 c =
    whole-low c.args.k c.if-k-lt64.false (search rules)
