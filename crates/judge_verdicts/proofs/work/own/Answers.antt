use Rattle.judge_verdicts.specs.Meaning.{capped}
use Rattle.language.specs.Ceilings.{most_work}
use Rattle.language.specs.Expressions.{own_work}
use mathlib.Core.Path.{refl}
use Rattle.judge_verdicts.proofs.work.own.Goals as goal

pub returns : goal.returns
unfolding own_work capped most_work
returns c =
    refl
