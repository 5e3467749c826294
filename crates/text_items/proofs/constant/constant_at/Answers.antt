use Prim.Native.Nat.{◌<◌}
use mathlib.Core.Path.{ap, sym, ◌∙◌}
use Rattle.value_constants.specs.Digits.{held}
use Rattle.text_items.specs.Meaning.{meant}
use Rattle.text_items.proofs.Based.{bare-here, binary-here, binary-inside, bits-few, decimal-at-here, decimal-inside}
use Rattle.text_items.proofs.Lookup.{none-unless, some-unless}
use native.Mathlib.Omega.{arith}
use Rattle.text_items.proofs.constant.constant_at.Goals as goal

pub binary_at-requires : goal.binary_at-requires
binary_at-requires c =
    let k = some-unless c.in-Some.k (sym c.in-Some.is ∙ c.digit_bits.ensures) in
    let some : 0 < c.in-Some.k = omega (arith, k.1) in (
      binary-inside c.args.text.now c.digits_at-ds.result.now c.digits_at-ds.ensures (held c.decimal-x.result) c.decimal-x.ensures c.byte-b.result c.byte-b.ensures _ k.0 some,
      omega (arith, k.0, bits-few c.byte-b.result),
    )

pub returns-in-Some : goal.returns-in-Some
returns-in-Some c =
    let k = some-unless c.in-Some.k (sym c.in-Some.is ∙ c.digit_bits.ensures) in
    let some : 0 < c.in-Some.k = omega (arith, k.1) in
    c.binary_at.ensures
    ∙ binary-here c.args.text.now c.digits_at-ds.result.now c.digits_at-ds.ensures (held c.decimal-x.result) c.decimal-x.ensures c.byte-b.result c.byte-b.ensures _ k.0 c.length_given.result some c.length_given.ensures

pub decimal_at-requires : goal.decimal_at-requires
decimal_at-requires c =
    let none = none-unless (sym c.in_default.is ∙ c.digit_bits.ensures) in
    decimal-inside c.args.text.now c.digits_at-ds.result.now c.digits_at-ds.ensures (held c.decimal-x.result) c.decimal-x.ensures c.byte-b.result c.byte-b.ensures 0 none (omega arith) c.fold.result c.fold.ensures c.if-fold-eq68.true

pub returns-then-fold-eq68 : goal.returns-then-fold-eq68
returns-then-fold-eq68 c =
    let none = none-unless (sym c.in_default.is ∙ c.digit_bits.ensures) in
    let length = c.length_given-then-fold-eq68 in
    c.decimal_at.ensures
    ∙ decimal-at-here c.args.text.now c.digits_at-ds.result.now c.digits_at-ds.ensures (held c.decimal-x.result) c.decimal-x.ensures c.byte-b.result c.byte-b.ensures 0 none (omega arith) c.fold.result c.fold.ensures length.result c.if-fold-eq68.true length.ensures

pub returns : goal.returns
returns c =
    let none = none-unless (sym c.in_default.is ∙ c.digit_bits.ensures) in
    ap (meant c.args.text.now) c.made.ensures
    ∙ bare-here c.args.text.now c.digits_at-ds.result.now c.digits_at-ds.ensures (held c.decimal-x.result) c.decimal-x.ensures c.byte-b.result c.byte-b.ensures 0 none (omega arith) c.fold.result c.fold.ensures c.bare_constant.result c.if-fold-eq68.false
    c.bare_constant.ensures.meaning
