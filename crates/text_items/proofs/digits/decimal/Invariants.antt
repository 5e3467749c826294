use Rattle.value_constants.specs.Digits.{decimal_more, held, holding}
use Rattle.text_items.proofs.OneByOne.{DigitsLeft}
use Rattle.text_items.proofs.digits.decimal.Given as goal

abbrev pub invariant-loop-d : goal.invariant-loop-d
invariant-loop-d l = DigitsLeft decimal_more (holding 0) l.digits (held l.x) l.d-index
