use Rattle.parse_step.proofs.TakenWords.{keeps, keeps-not}
use mathlib.Core.Path.{sym, ◌∙◌}
use Rattle.parse_step.proofs.taking.keep_constant.Goals as goal

pub returns-then-kind_of-eq-CONSTANT : goal.returns-then-kind_of-eq-CONSTANT
returns-then-kind_of-eq-CONSTANT c =
    keeps (sym c.kind_of.ensures ∙ c.if-kind_of-eq-CONSTANT.true) c.following-next.ensures

pub returns : goal.returns
returns c =
    keeps-not (λ e. c.if-kind_of-eq-CONSTANT.false (c.kind_of.ensures ∙ e)) c.refuse.ensures
