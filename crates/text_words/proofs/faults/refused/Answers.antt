use mathlib.Core.Option.{some}
use mathlib.Core.Path.{ap}
use Rattle.language.specs.Words as L
use Rattle.language.specs.Words.{fault}
use Rattle.text_words.proofs.faults.refused.Goals as goal

pub returns : goal.returns
returns c = ap (λ (p : L.Position). some (fault p c.args.refusal)) c.position-at.ensures
