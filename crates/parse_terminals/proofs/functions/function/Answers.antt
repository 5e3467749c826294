use mathlib.Core.Path.{sym, ◌∙◌}
use Rattle.parse_step.proofs.Answers.{err-came}
use Rattle.parse_terminals.proofs.FunctionLaws.{equal-not, function-read, none_read, table-read}
use Rattle.parse_terminals.proofs.functions.function.Goals as goal

pub returns-then-dimensions-eq2 : goal.returns-then-dimensions-eq2
returns-then-dimensions-eq2 c = table-read c.args.name c.if-dimensions-eq2.true c.plain.ensures

pub returns-then-kind_of-ne-EQUAL : goal.returns-then-kind_of-ne-EQUAL
returns-then-kind_of-ne-EQUAL c =
    none_read c.args.name c.if-dimensions-eq2.false (λ e. c.if-kind_of-ne-EQUAL.true (c.kind_of.ensures ∙ e)) c.plain-then-kind_of-ne-EQUAL.ensures

pub returns-in_err-equal : goal.returns-in_err-equal
returns-in_err-equal c =
    rw (err-came c.from_residual.ensures.1) (equal-not c.args.name c.if-dimensions-eq2.false (sym c.kind_of.ensures ∙ c.if-kind_of-ne-EQUAL.false) c.in_err-equal.ensures)

pub returns : goal.returns
returns c = function-read c.args.name c.if-dimensions-eq2.false (sym c.kind_of.ensures ∙ c.if-kind_of-ne-EQUAL.false) c.in_ok-equal.ensures c.behind_equal.ensures
