use mathlib.Core.Logic.{⊎_elim}
use native.Mathlib.Omega.{arith}
use Rattle.parse_step.proofs.Paying.{expected-spends, stays-spends}
use Rattle.parse_levels.specs.declared.Lead.TheVariants as H
use Rattle.parse_expressions.proofs.PartLaws.{red-prefixed, unprefixed}
use mathlib.Core.Path.{refl}
use Rattle.parse_expressions.proofs.pieces.reducing.Goals as goal

pub returns-in-Plain : goal.returns-in-Plain
returns-in-Plain c =
    (⊎_elim (λ e. rw e (unprefixed H.Plain (λ K. refl))) (⊎_elim (λ e. rw e (unprefixed H.Negation (λ K. refl))) (λ e. rw e (unprefixed H.Complement (λ K. refl)))) c.in-Plain.is, stays-spends refl)

pub returns-in-Reduction : goal.returns-in-Reduction
returns-in-Reduction c =
    (rw c.in-Reduction.is (red-prefixed c.expect.ensures), expected-spends c.expect.ensures (omega arith))
