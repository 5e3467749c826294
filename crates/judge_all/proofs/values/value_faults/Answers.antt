use Rattle.judge_all.proofs.FacilityLaws.{passed_none}
use Rattle.judge_all.proofs.ValueLaws.{no-value-faults, value-faults-are}
use Rattle.judge_all.specs.Stated.{values_before, wanted_length}
use Rattle.image_sections.specs.Declarations.{value_meant}
use Rattle.language.specs.Judging as L
use Rattle.language.specs.declared.refusals.Refusal.TheVariants.{BadSequencing}
use Rattle.language.specs.Rules as R
use Rattle.language.specs.Words as W
use Rattle.language.specs.WordStage.{least}
use mathlib.Core.Bool.{Bool}
use mathlib.Core.Option.{Option}
use Prim.Native.Nat.{ℕ}
use mathlib.Core.Path.{ap, ap₂, sym, ◌∙◌}
use Rattle.judge_all.proofs.values.value_faults.Goals as goal

pub returns-in_default : goal.returns-in_default
returns-in_default c =
    λ d p q s e. passed_none ∙ ap least (no-value-faults d p (values_before d p c.args.n) q (wanted_length c.args.wanted)) ∙ ap (λ (x : Option ℕ). least (R.value_faults d p (wanted_length c.args.wanted) (values_before d p c.args.n) q x)) (ap value_meant (sym c.in_default.is))

pub returns : goal.returns
returns c =
    λ d p q s e. c.unless.ensures ∙ ap₂ (λ (b : Bool) (u : W.Position). least (L.unless b u BadSequencing)) (c.right_value.ensures d p s) e ∙ ap least (value-faults-are d p (values_before d p c.args.n) q (wanted_length c.args.wanted) _) ∙ ap (λ (x : Option ℕ). least (R.value_faults d p (wanted_length c.args.wanted) (values_before d p c.args.n) q x)) (ap value_meant (sym c.in-Some.is))
