use Rattle.judge_all.proofs.ValueLaws.{right-length, unwanted, wrong-length}
use Rattle.language.specs.Value.{Value}
use borrow.Author.Tests.{ne_eqb}
use mathlib.Core.Path.{ap, sym, ◌∙◌}
use Rattle.judge_all.proofs.values.right_value.Goals as goal

pub returns-in-None : goal.returns-in-None
returns-in-None c =
    λ d p s. unwanted d p _ c.args.a c.in-None.is

pub returns-then-value_length-length : goal.returns-then-value_length-length
returns-then-value_length-length c =
    λ d p s. right-length d p _ c.args.a _ c.in-Some.is (ap (λ (v : Value). v.length) (s.constant c.args.a) ∙ sym c.value_length.ensures ∙ c.if-value_length-length.true) (sym (c.repeats.ensures d p s))

pub returns-else-value_length-length : goal.returns-else-value_length-length
returns-else-value_length-length c =
    λ d p s. ne_eqb _ _ c.if-value_length-length.false
    ∙ wrong-length d p _ c.args.a _ c.in-Some.is (λ e. c.if-value_length-length.false (c.value_length.ensures ∙ ap (λ (v : Value). v.length) (sym (s.constant c.args.a)) ∙ e))
