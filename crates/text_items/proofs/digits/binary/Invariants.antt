use Rattle.value_constants.specs.Digits.{on_right, written}
use Rattle.text_items.specs.Digits.{binary_more}
use Rattle.text_items.proofs.OneByOne.{DigitsLeft}
use Rattle.text_items.proofs.digits.binary.Given as goal

abbrev pub invariant-loop-d : goal.invariant-loop-d
invariant-loop-d l = DigitsLeft (binary_more l.k l.left) (on_right 0 0) l.digits (written l.x) l.d-index
