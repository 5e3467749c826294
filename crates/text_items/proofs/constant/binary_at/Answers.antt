use mathlib.Core.Path.{sym, ◌∙◌}
use Rattle.text_items.proofs.Based.{left_at, next-inside, right-at}
use native.Mathlib.Omega.{arith}
use Rattle.text_items.proofs.constant.binary_at.Goals as goal

pub binary_from-requires : goal.binary_from-requires
binary_from-requires c = (next-inside c.args.text.now c.args.n (sym c.byte.ensures ∙ c.if-byte-eq46.true), omega arith)

pub returns-then-byte-eq46 : goal.returns-then-byte-eq46
returns-then-byte-eq46 c = c.binary_from.ensures ∙ left_at c.args.k c.args.l c.args.n c.args.text.now (sym c.byte.ensures ∙ c.if-byte-eq46.true)

pub returns-else-byte-eq46 : goal.returns-else-byte-eq46
returns-else-byte-eq46 c = c.binary_from-else-byte-eq46.ensures ∙ right-at c.args.k c.args.l c.args.n c.args.text.now (λ e. c.if-byte-eq46.false (c.byte.ensures ∙ e))
