use mathlib.Core.Path.{◌∙◌}
use Rattle.image_form.proofs.DepthLaws.{few, few-shallow, many-actions, many-expressions}
use Rattle.image_form.proofs.nesting.bounded.Goals as goal

pub returns-then-exprs-gt-MOST_EXPRESSIONS : goal.returns-then-exprs-gt-MOST_EXPRESSIONS
returns-then-exprs-gt-MOST_EXPRESSIONS c d h k = many-expressions d c.args.exprs.now h c.if-exprs-gt-MOST_EXPRESSIONS.true

pub returns-then-acts-gt-MOST_ACTIONS : goal.returns-then-acts-gt-MOST_ACTIONS
returns-then-acts-gt-MOST_ACTIONS c d h k = many-actions d c.args.acts.now k c.if-acts-gt-MOST_ACTIONS.true

pub returns-then-exprs : goal.returns-then-exprs
returns-then-exprs c d h k =
    few-shallow d c.args.exprs.now h c.if-exprs.true ∙ few d c.args.exprs.now c.args.acts.now h k c.if-exprs-gt-MOST_EXPRESSIONS.false c.if-acts-gt-MOST_ACTIONS.false

pub returns : goal.returns
returns c d h k =
    c.shallow.ensures d h ∙ few d c.args.exprs.now c.args.acts.now h k c.if-exprs-gt-MOST_EXPRESSIONS.false c.if-acts-gt-MOST_ACTIONS.false
