use Rattle.judge_verdicts.proofs.CappedLaws.{capped_small}
use native.Mathlib.Omega.{arith}
use mathlib.Core.Path.{sym}
use Rattle.judge_terms.proofs.operators.nothing.Goals as goal

pub returns : goal.returns
returns c =
    c.only.ensures.shown 0 (sym (capped_small 0 (omega arith)))
