-- Verdicts kept.
use mathlib.Core.Path.{◌≡◌, refl}
use Rattle.language.specs.Judging.{Judged, faulty, fine}
use Rattle.judge_verdicts.specs.Meaning as M
use Rattle.judge_verdicts.specs.Meaning.{seen, work_of}
use Rattle.judge_terms.specs.Shown.{worked}

pub worked-seen : (j : Judged) → work_of (seen j) ≡ seen (worked j)
unfolding seen M.capped
worked-seen (fine w) = refl
worked-seen (faulty f fs) = refl
