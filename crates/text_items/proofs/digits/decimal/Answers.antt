use mathlib.Core.List.{map}
use mathlib.Core.Path.{ap, sym, ◌∙◌}
use Rattle.language.specs.Characters.{digit_worth}
use Rattle.value_constants.specs.Digits.{decimal_more, held, holding}
use Rattle.text_items.specs.Digits.{each_digit}
use Rattle.text_items.proofs.OneByOne.{digit-last, digit-next}
use native.Mathlib.Omega.{arith}
use Rattle.text_items.proofs.digits.decimal.Goals as goal

pub loop-d-init : goal.loop-d-init
loop-d-init c = ap (λ h. each_digit decimal_more h (map digit_worth c.args.digits.now)) (sym c.no_decimal-x.ensures)

pub loop-d-preserved : goal.loop-d-preserved
loop-d-preserved c =
    let args = c.args in
    let loop = c.loop-d in
    let digit-worth = c.digit_worth in
    digit-next decimal_more (holding 0) args.digits.now (held loop.x) loop.d-index loop.invariant (omega arith) (held c.decimal_digit-x.result) (c.decimal_digit-x.ensures ∙ ap (decimal_more (held loop.x)) digit-worth.ensures)

pub returns : goal.returns
returns c = digit-last decimal_more (holding 0) c.args.digits.now (held c.loop-d.x) c.loop-d.d-index c.loop-d.invariant (omega arith)
