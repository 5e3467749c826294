use Rattle.judge_actions.proofs.SimpleLaws.{perform-faulty, perform-fine}
use Rattle.judge_verdicts.proofs.VerdictLaws.{passed-on}
use mathlib.Core.Path.{sym, ◌∙◌}
use Rattle.judge_actions.proofs.simple.perform.Goals as goal

pub returns-in_err-w : goal.returns-in_err-w
returns-in_err-w c =
    λ w e f. rw (passed-on _ _ c.from_residual.ensures.1) (perform-faulty (w c.args.o) _ _ (sym c.in_err-w.was ∙ c.operation.ensures (w c.args.o) e f))

pub returns : goal.returns
returns c =
    λ w e f. perform-fine (w c.args.o) _ (sym c.in_ok-w.was ∙ c.operation.ensures (w c.args.o) e f) (λ x m. c.only.ensures.shown _ (c.with_one.ensures x m))
