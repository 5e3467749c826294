use Rattle.parse_step.proofs.Ceilings.{few-counted, few-open}
use Rattle.parse_step.proofs.TakenWords.{same-counts, went-not, went_on}
use Rattle.parse_step.specs.Course.{counts5}
use Rattle.language.specs.Machine.{within_ceilings}
use mathlib.Core.Path.{sym, ap, ◌∙◌}
use borrow.Author.Rules.{rules}
use Rattle.parse_step.proofs.taking.pass.Goals as goal

pub overflow_cast-state : goal.overflow_cast-state
overflow_cast-state c =
    let h = few-counted (counts5 c.args.s c.tally-counted.result c.bear-nesting.result) (sym c.fits.ensures ∙ c.if-fits.true) in search rules

pub overflow_cast-state-then-fits : goal.overflow_cast-state-then-fits
overflow_cast-state-then-fits c =
    let h = few-open (counts5 c.args.s c.tally-counted.result c.bear-nesting.result) (sym c.fits.ensures ∙ c.if-fits.true) in search rules

pub returns-then-fits : goal.returns-then-fits
returns-then-fits c =
    let f = same-counts c.args.s c.tally-counted.ensures c.bear-nesting.ensures in let g = sym c.fits.ensures ∙ c.if-fits.true in went_on c.tally-counted.result c.bear-nesting.result (sym (ap within_ceilings f) ∙ g) (sym f) (few-open (counts5 c.args.s c.tally-counted.result c.bear-nesting.result) g)

pub returns : goal.returns
returns c =
    let f = same-counts c.args.s c.tally-counted.ensures c.bear-nesting.ensures in went-not c.refuse.ensures (sym (ap within_ceilings f) ∙ sym c.fits.ensures ∙ c.if-fits.false)
