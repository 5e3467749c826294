use mathlib.Core.List.{map}
use mathlib.Core.Path.{ap, sym, ◌∙◌}
use Rattle.language.specs.Characters.{digit_worth}
use Rattle.value_constants.specs.Digits.{on_right, written}
use Rattle.text_items.specs.Digits.{binary_more, each_digit}
use Rattle.text_items.proofs.OneByOne.{digit-last, digit-next}
use native.Mathlib.Omega.{arith}
use Rattle.text_items.proofs.digits.binary.Goals as goal

pub loop-d-init : goal.loop-d-init
loop-d-init c = ap (λ w. each_digit (binary_more c.args.k c.args.left) w (map digit_worth c.args.digits.now)) (sym c.no_digit-x.ensures)

pub loop-d-preserved : goal.loop-d-preserved
loop-d-preserved c =
    let args = c.args in
    let loop = c.loop-d in
    let digit-worth = c.digit_worth in
    digit-next (binary_more args.k args.left) (on_right 0 0) args.digits.now (written loop.x) loop.d-index loop.invariant (omega arith) (written c.one_more-x.result) (c.one_more-x.ensures ∙ ap (binary_more args.k args.left (written loop.x)) digit-worth.ensures)

pub returns : goal.returns
returns c = digit-last (binary_more c.args.k c.args.left) (on_right 0 0) c.args.digits.now (written c.loop-d.x) c.loop-d.d-index c.loop-d.invariant (omega arith)
