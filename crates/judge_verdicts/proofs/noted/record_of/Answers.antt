use mathlib.Core.Path.{refl}
use Rattle.judge_verdicts.specs.Noted.{record_in}
use Rattle.judge_verdicts.proofs.noted.record_of.Goals as goal

pub returns : goal.returns
unfolding record_in
returns c = refl
