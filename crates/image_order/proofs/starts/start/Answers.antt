use mathlib.Core.Path.{sym, ◌∙◌}
use Rattle.image_order.proofs.EdgeLaws.{edge-some}
use Rattle.image_order.proofs.StartLaws.{past-starts, whole-starts}
use Rattle.image_order.proofs.starts.start.Goals as goal

pub returns-then-exprs-last : goal.returns-then-exprs-last
returns-then-exprs-last c =
    λ d h. sym (past-starts d c.args.exprs.now h c.args.n c.if-exprs-last.true)

pub returns-then-exprs-last-eq-WHOLE : goal.returns-then-exprs-last-eq-WHOLE
returns-then-exprs-last-eq-WHOLE c =
    λ d h. edge-some _ ∙ sym (whole-starts d c.args.exprs.now h c.args.n c.if-exprs-last.false c.if-exprs-last-eq-WHOLE.true)
