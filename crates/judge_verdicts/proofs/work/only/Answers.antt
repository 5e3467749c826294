use Rattle.judge_verdicts.proofs.CappedLaws.{capped_small}
use Rattle.judge_verdicts.proofs.VerdictLaws.{worth-seen}
use native.Mathlib.Omega.{arith}
use mathlib.Core.Path.{refl, sym}
use Rattle.judge_verdicts.proofs.work.only.Goals as goal

pub returns-clause-shown : goal.returns-clause-shown
returns-clause-shown c = λ w p. worth-seen 1 0 w refl (sym (capped_small 0 (omega arith))) p
