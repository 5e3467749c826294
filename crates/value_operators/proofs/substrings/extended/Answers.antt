use mathlib.Core.Path.{sym, ap, ◌∙◌}
use Rattle.language.specs.Value.{extended, repeat_length, repeated}
use Rattle.value_limbs.specs.Limbs.{number}
use Rattle.value_operators.specs.Meaning.{allowed}
use Rattle.value_operators.proofs.Fits.{means-wrap, none_means, fit_refused}
use Rattle.value_operators.proofs.substrings.extended.Goals as goal

pub returns : goal.returns
unfolding extended
returns c =
    let x = c.args.x in
    means-wrap (repeated x.length (number x.limbs) c.args.c) c.fit.ensures c.repeat_length-length.ensures c.repeated.ensures

pub returns-then-not-allowed : goal.returns-then-not-allowed
unfolding extended
returns-then-not-allowed c =
    let x = c.args.x in
    none_means
    (fit_refused (repeat_length x.length c.args.c) (repeated x.length (number x.limbs) c.args.c) (sym (ap allowed c.repeat_length-length.ensures) ∙ sym c.allowed.ensures ∙ c.if-not-allowed.true))
