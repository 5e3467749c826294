use Rattle.judge_verdicts.proofs.work.with_one.Goals as goal

pub returns : goal.returns
returns c =
    λ a p. c.added.ensures _ a c.own.ensures p
