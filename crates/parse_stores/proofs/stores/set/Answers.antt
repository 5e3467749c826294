use mathlib.Core.Path.{sym, ◌∙◌}
use Rattle.parse_stores.proofs.StoreLaws.{set-untaken, sets, unset}
use Rattle.parse_step.proofs.Answers.{err-came}
use mathlib.Core.Path.{refl}
use Rattle.parse_stores.proofs.stores.set.Goals as goal

pub returns-in_err-taken : goal.returns-in_err-taken
returns-in_err-taken c =
    rw (err-came c.from_residual.ensures.1) (set-untaken (sym c.kind_of.ensures ∙ c.if-kind_of-eq-AT.true) c.in_err-taken.ensures refl)

pub returns-then-kind_of-eq-AT : goal.returns-then-kind_of-eq-AT
returns-then-kind_of-eq-AT c =
    sets (sym c.kind_of.ensures ∙ c.if-kind_of-eq-AT.true) c.in_ok-taken.ensures refl c.last.ensures c.put.ensures

pub returns : goal.returns
returns c =
    unset (λ e. c.if-kind_of-eq-AT.false (c.kind_of.ensures ∙ e)) c.refuse.ensures
