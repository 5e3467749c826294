use mathlib.Core.Path.{refl}
use Rattle.language.specs.Ceilings.{most_returns}
use Rattle.call_open.proofs.first.at_first.Goals as goal

pub returns : goal.returns
unfolding most_returns
returns c =
    λ d. refl
