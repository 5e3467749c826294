use Rattle.judge_actions.proofs.conditionals.counted.Goals as goal

pub returns : goal.returns
returns c =
    λ a b e f. c.only.ensures.shown _ (c.with_two.ensures a b e f)
