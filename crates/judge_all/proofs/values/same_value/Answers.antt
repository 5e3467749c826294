use Rattle.judge_all.proofs.ValueLaws.{number-none, number-some, zero-first, zero-second}
use lib.Dec.{eqb}
use mathlib.Core.Path.{ap₂, sym, ◌∙◌}
use Rattle.judge_all.proofs.values.same_value.Goals as goal

pub returns-then-value_length-eq0 : goal.returns-then-value_length-eq0
returns-then-value_length-eq0 c =
    c.is_zero.ensures ∙ zero-first _ _ (number-none c.args.es.now c.args.a (sym c.value_length.ensures ∙ c.if-value_length-eq0.true))

pub returns-then-value_length-eq0-2 : goal.returns-then-value_length-eq0-2
returns-then-value_length-eq0-2 c =
    c.is_zero-then-value_length-eq0-2.ensures ∙ zero-second _ _ (number-none c.args.es.now c.args.b (sym c.value_length-2.ensures ∙ c.if-value_length-eq0-2.true))

pub returns : goal.returns
returns c =
    c.same_number.ensures ∙ ap₂ eqb (number-some c.args.es.now c.args.a _ (λ e. c.if-value_length-eq0.false (c.value_length.ensures ∙ e)) c.further.ensures) (number-some c.args.es.now c.args.b _ (λ e. c.if-value_length-eq0-2.false (c.value_length-2.ensures ∙ e)) c.further-2.ensures)
