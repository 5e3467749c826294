use mathlib.Core.Path.{ap, sym, ◌∙◌}
use mathlib.Core.Bool.{Bool}
use Rattle.value_constants.specs.Digits.{written}
use Rattle.text_items.specs.Digits.{binary_more}
use Rattle.text_items.proofs.digits.one_more.Goals as goal

pub returns-then-left : goal.returns-then-left
returns-then-left c = c.left_digit.ensures ∙ sym (ap (λ (b : Bool). binary_more c.args.k b (written c.args.x) c.args.digit) c.if-left.true)

pub returns-else-left : goal.returns-else-left
returns-else-left c = c.right_digit.ensures ∙ sym (ap (λ (b : Bool). binary_more c.args.k b (written c.args.x) c.args.digit) c.if-left.false)
