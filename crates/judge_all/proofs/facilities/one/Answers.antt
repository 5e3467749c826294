use Rattle.judge_all.proofs.FacilityLaws.{computed-faults, other-faults, passed_none}
use Rattle.judge_verdicts.specs.Meaning.{seen}
use Rattle.language.specs.WordStage.{least}
use Rattle.language.specs.Rules.{bounds_faults, facility_faults, first_faults}
use mathlib.Core.Bool.{cond, Bool}
use Rattle.language.specs.Judging as L
use Rattle.language.specs.Expressions.{terminal_judged}
use Rattle.language.specs.Description.{facility_at, facility_place, is_computed}
use Rattle.language.specs.Description as D
use mathlib.Core.Path.{ap, sym, ◌∙◌}
use Rattle.judge_all.proofs.facilities.one.Goals as goal

pub returns-then-is_computed : goal.returns-then-is_computed
returns-then-is_computed c =
    λ d p e g v. c.or_else.ensures d p _ _ (c.bounds_faults-own.ensures d p (facility_at d c.args.n).name e)
    (c.facility_faults.ensures d p (facility_at d c.args.n).name _ e
    (c.terminal_faults-terminal.ensures d p (facility_at d c.args.n).name (terminal_judged d p c.args.n) e
    (v ∙ ap (λ (b : Bool). seen (cond b (terminal_judged d p c.args.n) (L.worth 1 0 0))) (ap (λ (x : D.Facility). is_computed x.kind) (sym g) ∙ sym c.is_computed.ensures ∙ c.if-is_computed.true)))
    ∙ ap least (computed-faults d p c.args.n _ c.args.before _ _ _ (c.place_after-after.ensures (facility_at d c.args.n).name) (sym c.is_computed.ensures ∙ c.if-is_computed.true)))
    ∙ ap (λ (x : D.Facility). least (first_faults d p (bounds_faults d p x (facility_place p c.args.n)) (facility_faults d p c.args.n c.args.another c.args.before x (facility_place p c.args.n)))) g

pub returns : goal.returns
returns c =
    λ d p e g v. c.or_else-2.ensures d p _ _ (c.bounds_faults-own.ensures d p (facility_at d c.args.n).name e)
    (c.facility_faults-all.ensures d p (facility_at d c.args.n).name _ e passed_none
    ∙ ap least (other-faults d p c.args.n _ c.args.before _ _ _ (c.place_after-after.ensures (facility_at d c.args.n).name) (sym c.is_computed.ensures ∙ c.if-is_computed.false)))
    ∙ ap (λ (x : D.Facility). least (first_faults d p (bounds_faults d p x (facility_place p c.args.n)) (facility_faults d p c.args.n c.args.another c.args.before x (facility_place p c.args.n)))) g
