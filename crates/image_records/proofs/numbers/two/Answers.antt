use mathlib.Core.Path.{sym, ◌∙◌}
use native.Mathlib.Omega.{arith}
use Rattle.image_records.proofs.NumberLaws.{number-last, number_past}
use Rattle.image_records.proofs.numbers.two.Goals as goal

pub returns-then-s-at : goal.returns-then-s-at
returns-then-s-at c =
    sym (number_past 2 c.args.at c.args.s.now (omega (arith, c.if-s-at.true)))

pub returns : goal.returns
returns c =
    c.wide.ensures.0 ∙ c.byte.ensures ∙ sym (number-last c.args.at c.args.s.now (omega (arith, c.if-s-at-ge2.false)))
