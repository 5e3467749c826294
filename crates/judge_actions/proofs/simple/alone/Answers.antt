use Rattle.judge_actions.proofs.simple.alone.Goals as goal

pub returns : goal.returns
returns c =
    c.only.ensures.shown _ c.own.ensures
