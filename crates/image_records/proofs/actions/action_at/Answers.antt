use mathlib.Core.Path.{sym, ◌∙◌}
use Rattle.image_records.proofs.ActionLaws.{action-past, action-whole}
use Rattle.image_records.proofs.actions.action_at.Goals as goal

pub returns-then-acts-n : goal.returns-then-acts-n
returns-then-acts-n c =
    sym (action-past c.args.acts.now c.args.n c.if-acts-n.true)

pub returns : goal.returns
returns c =
    c.action_with.ensures ∙ rw (c.two_there-a.ensures, c.two_there-b.ensures, c.two_there-c.ensures) (sym (action-whole c.args.acts.now c.args.n c.if-acts-n.false))
