use mathlib.Core.Bool.{Bool, cond}
use mathlib.Core.Path.{sym, ap, ap₂, ◌∙◌}
use native.Mathlib.Omega.{arith}
use borrow.Author.Tests.{le-leb, lt-leb}
use Rattle.language.specs.Value.{fit, none}
use Rattle.language.specs.Constants.{bare_length}
use Rattle.language.specs.Ceilings.{bare_largest}
use Rattle.value_constants.specs.Digits.{bare, counting, held}
use Rattle.value_operators.proofs.Fits.{means-of, none_means}
use Rattle.value_constants.proofs.bare_constant.Goals as goal

pub returns-then-n-gt-BARE_LARGEST : goal.returns-then-n-gt-BARE_LARGEST
unfolding bare bare_largest
returns-then-n-gt-BARE_LARGEST c =
    let n = counting (held c.args.x) in
    none_means (ap (λ (b : Bool). cond b (fit bare_length n) none) (lt-leb n 65535 (omega (arith, c.counted-n.ensures, c.if-n-gt-BARE_LARGEST.true))))

pub returns : goal.returns
unfolding bare bare_largest
returns c =
    let n = counting (held c.args.x) in
    means-of c.fit.ensures
    (ap₂ fit c.bare_length.ensures (c.small.ensures ∙ c.counted-n.ensures)
    ∙ sym (ap (λ (b : Bool). cond b (fit bare_length n) none) (le-leb n 65535 (omega (arith, c.counted-n.ensures, c.if-n-gt-BARE_LARGEST.false)))))
