use mathlib.Core.Path.{refl}
use Rattle.judge_verdicts.specs.Noted.{is_reference}
use Rattle.judge_verdicts.proofs.noted.is_reference.Goals as goal

pub returns : goal.returns
unfolding is_reference
returns c = refl
