use Rattle.judge_verdicts.proofs.work.with_two.Goals as goal

pub returns : goal.returns
returns c =
    λ a b p q. c.added.ensures _ b (c.with_one.ensures a p) q
