use mathlib.Core.Path.{◌∙◌}
use Rattle.run_references.proofs.ConstantLaws.{digits-one}
use Rattle.run_references.proofs.constants.number_at.Goals as goal

pub returns-then-k-eq0 : goal.returns-then-k-eq0
returns-then-k-eq0 c =
    c.small.ensures ∙ digits-one c.args.n c.args.k c.args.exprs.now c.if-k-eq0.true c.six_there.ensures.0 c.six_there.ensures.1
