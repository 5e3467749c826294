use mathlib.Core.Path.{refl, sym, ◌∙◌}
use Rattle.image_sections.specs.Declarations.{facility_meant}
use Rattle.trace_output.proofs.AddsLaws.{adds-as, adds-both, adds_none}
use Rattle.trace_output.proofs.TextLaws.{is-shown, text-computed, text-shown, text-words}
use Rattle.trace_output.proofs.shown.facility.Goals as goal
use Rattle.trace_output.proofs.shown.facility.Goals.{then-is_computed-via-then-is_computed, then-is_computed-via-else-is_computed+then-f-gt1}

pub returns-then-is_computed : goal.returns-then-is_computed
returns-then-is_computed c =
    let f = facility_meant c.args.name.now c.args.f in
    elim c.then-is_computed.branch [
      | then-is_computed-via-then-is_computed w ↦
          (refl, λ h. adds-as (adds_none c.args.out.now c.args.at) (text-computed f c.args.f.place c.args.store.now (sym c.is_computed.ensures ∙ w.if-is_computed.true)))
      | then-is_computed-via-else-is_computed+then-f-gt1 w ↦
          (refl, λ h. adds-as (adds_none c.args.out.now c.args.at) (text-words f c.args.f.place c.args.store.now (sym c.is_computed.ensures ∙ w.if-is_computed.false) w.if-f-gt1.true))
    ]

pub returns : goal.returns
returns c =
    let f = facility_meant c.args.name.now c.args.f in
    let s = is-shown f (sym c.is_computed.ensures ∙ c.if-is_computed.false) c.if-f-gt1.false in
    (c.word.ensures.0 ∙ (c.push-end-2.ensures.long ∙ (c.append-end.ensures.long ∙ c.push-end.ensures.long)), λ h. adds-as (adds-both c.push-end.ensures (adds-both c.append-end.ensures (adds-both c.push-end-2.ensures (c.word.ensures.1 c.args.name.now (h s))))) (text-shown f c.args.f.place c.args.store.now s))
