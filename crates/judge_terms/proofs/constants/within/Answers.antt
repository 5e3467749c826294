use Rattle.judge_terms.proofs.ConstantLaws.{number-own, out-of-bounds}
use Rattle.store_geometry.specs.Shapes.{bounds_meant}
use Rattle.language.specs.Description.{in_bounds}
use Prim.Native.Nat.{ℕ, ◌/◌}
use mathlib.Core.Path.{ap, sym, ◌∙◌}
use borrow.Author.Rules.{rules}
use Rattle.judge_terms.proofs.constants.within.Goals as goal

pub returns-then-digits_zero : goal.returns-then-digits_zero
returns-then-digits_zero c =
    λ v e. c.in_bounds.ensures ∙ ap (in_bounds (bounds_meant c.args.b)) (c.digit.ensures.0 ∙ number-own _ c.args.n c.from.result v e (c.from.ensures ∙ ap (λ (x : ℕ). x / 48) c.byte-more.ensures) (sym c.digits_zero.ensures ∙ c.if-digits_zero.true))

pub returns-else-digits_zero : goal.returns-else-digits_zero
returns-else-digits_zero c =
    λ v e. c.if-digits_zero.false ∙ out-of-bounds _ c.args.n c.from.result v (bounds_meant c.args.b) e (c.from.ensures ∙ ap (λ (x : ℕ). x / 48) c.byte-more.ensures) (sym c.digits_zero.ensures ∙ c.if-digits_zero.false) (search rules) (search rules)
