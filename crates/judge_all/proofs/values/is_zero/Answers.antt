use Rattle.judge_all.proofs.ValueLaws.{number-none, number-some}
use borrow.Author.Tests.{eq-eqb}
use lib.Dec.{eqb}
use Prim.Native.Nat.{ℕ}
use mathlib.Core.Path.{ap, sym, ◌∙◌}
use Rattle.judge_all.proofs.values.is_zero.Goals as goal

pub returns-then-value_length-eq0 : goal.returns-then-value_length-eq0
returns-then-value_length-eq0 c =
    sym (eq-eqb _ 0 (number-none c.args.es.now c.args.a (sym c.value_length.ensures ∙ c.if-value_length-eq0.true)))

pub returns : goal.returns
returns c =
    c.number_zero.ensures ∙ ap (λ (x : ℕ). eqb x 0) (number-some c.args.es.now c.args.a _ (λ e. c.if-value_length-eq0.false (c.value_length.ensures ∙ e)) c.further.ensures)
