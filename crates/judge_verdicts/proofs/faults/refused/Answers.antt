use Rattle.judge_verdicts.specs.Meaning.{seen}
use Rattle.language.specs.WordStage.{least}
use mathlib.Core.Path.{refl}
use Rattle.judge_verdicts.proofs.faults.refused.Goals as goal

pub returns : goal.returns
unfolding seen least
returns c =
    refl
