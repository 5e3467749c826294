use borrow.Author.Tests.{ne_eqb}
use lib.Dec.{eqb}
use Rattle.parse_step.proofs.TakenWords.{ends-come, ends-not}
use mathlib.Core.Path.{sym, ap, ◌∙◌}
use Prim.Native.Nat.{ℕ}
use Rattle.parse_step.proofs.taking.ends_ahead.Goals as goal

pub returns-then-kind_of-eq-CONSTANT : goal.returns-then-kind_of-eq-CONSTANT
returns-then-kind_of-eq-CONSTANT c =
    λ z. ap (λ (n : ℕ). eqb n 13) c.kind_of-then-kind_of-eq-CONSTANT.ensures ∙ ends-come _ c.args.w c.following.result (sym c.kind_of.ensures ∙ c.if-kind_of-eq-CONSTANT.true) c.following.ensures z

pub returns-else-kind_of-eq-CONSTANT : goal.returns-else-kind_of-eq-CONSTANT
returns-else-kind_of-eq-CONSTANT c =
    λ z. ne_eqb c.kind_of.result 2 c.if-kind_of-eq-CONSTANT.false ∙ ends-not _ c.args.w (λ e. c.if-kind_of-eq-CONSTANT.false (c.kind_of.ensures ∙ e)) z
