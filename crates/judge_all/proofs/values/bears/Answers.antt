use Rattle.judge_all.proofs.ValueLaws.{bears-none, bears-some}
use Rattle.image_sections.specs.Declarations.{value_meant}
use Rattle.language.specs.Description.{State}
use Rattle.language.specs.Value.{Value}
use lib.Dec.{eqb}
use mathlib.Core.Path.{ap, ap₂, sym, ◌∙◌}
use Rattle.judge_all.proofs.values.bears.Goals as goal

pub returns-in-Some : goal.returns-in-Some
returns-in-Some c =
    λ d p s. bears-some d p _ c.args.n _ c.same_value.result (ap value_meant (sym c.in-Some.is) ∙ ap (λ (x : State). x.value) (s.state c.args.n c.state_at-s.result c.state_at-s.ensures)) (c.same_value.ensures ∙ ap₂ (λ (x y : Value). eqb x.number y.number) (sym (s.constant _)) (sym (s.constant _)))

pub returns-in-None : goal.returns-in-None
returns-in-None c =
    λ d p s. bears-none d p _ c.args.n (ap value_meant (sym c.in-None.is) ∙ ap (λ (x : State). x.value) (s.state c.args.n c.state_at-s.result c.state_at-s.ensures))
