use Rattle.language.specs.declared.refusals.Refusal.TheVariants.{BadSubscript}
use Rattle.language.specs.WordStage.{least}
use Rattle.language.specs.Words as W
use Rattle.language.specs.Judging as L
use lib.Dec.{leb}
use mathlib.Core.Path.{ap, ◌∙◌}
use Rattle.language.specs.Ceilings.{largest_bound}
use Rattle.judge_all.proofs.bounds.bound_fault.Goals as goal

pub returns : goal.returns
unfolding largest_bound
returns c =
    λ q e. c.unless.ensures ∙ ap (λ (u : W.Position). least (L.unless (leb c.args.n 65535) u BadSubscript)) e
