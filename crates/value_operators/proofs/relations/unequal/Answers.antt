use mathlib.Core.Bool.{Bool, true, false, cond}
use mathlib.Core.Path.{ap, ◌∙◌}
use Rattle.language.specs.Value.{unequal, related}
use Rattle.value_operators.proofs.Fits.{means-of}
use Rattle.value_operators.proofs.Tests.{not-cond}
use Rattle.value_operators.proofs.relations.unequal.Goals as goal

pub returns : goal.returns
unfolding unequal
returns c =
    means-of c.related.ensures (ap related (not-cond c.same.result ∙ ap (λ (b : Bool). cond b false true) c.same.ensures))
