use mathlib.Core.Path.{refl, ◌∙◌}
use Rattle.judge_records.specs.Noted.{nothing_beside}
use Rattle.image_form.specs.Form.{sectioned}
use Rattle.call_check.proofs.PassesLaws.{least-plain, passed-faultless}
use Rattle.call_check.proofs.faultless.Goals as goal

pub returns : goal.returns
returns c =
    let x = sectioned c.args.fs.now c.args.os.now c.args.es.now c.args.acts.now c.args.ss.now c.args.ns.now in
    c.is_ok.ensures.value
    ∙ passed-faultless c.least_fault.result _
    (c.least_fault.ensures x nothing_beside refl refl refl refl refl refl c.part-none.ensures c.part-none.ensures c.part-none.ensures c.part-none.ensures c.part-none.ensures
    ∙ least-plain x)
