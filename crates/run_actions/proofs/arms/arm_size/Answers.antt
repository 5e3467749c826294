use mathlib.Core.Path.{sym, ap, ◌∙◌}
use Rattle.language.specs.Acting as T
use Rattle.image_records.proofs.ActionLaws.{action-past}
use Rattle.run_actions.proofs.arms.arm_size.Goals as goal

pub returns-then-section-i : goal.returns-then-section-i
returns-then-section-i c =
    (tt, λ d h. sym (ap T.arm_size (h c.args.i ∙ action-past c.args.section.now c.args.i c.if-section-i.true)))
