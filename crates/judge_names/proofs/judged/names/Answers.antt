use mathlib.Core.Path.{refl, ◌∙◌}
use native.Mathlib.Omega.{arith}
use lib.ListN.{length-set}
use Rattle.text_words.specs.Meaning.{judged}
use Rattle.judge_names.specs.Numbered.{earlier, lengths_of, places_of}
use Rattle.judge_names.proofs.SumLaws.{marks-more, unmarked-new}
use Rattle.judge_names.proofs.DescribedLaws.{faults-whole}
use Rattle.judge_names.proofs.OrderLaws.{name-here, offset-next, offset-start, own-fault, start-name, step-name, stop-name}
use Rattle.judge_names.proofs.judged.names.Goals as goal

pub loop-k-init : goal.loop-k-init
unfolding earlier
loop-k-init c =
    let ls = lengths_of c.args.fs.now c.args.os.now c.args.ss.now in
    let ps = places_of c.args.fp.now c.args.op.now c.args.sp.now in
    (omega arith, offset-start ls c.args.ns.now, refl, tt, start-name ls c.args.ns.now ps c.count-count.ensures)

pub bounds-marks-slot : goal.bounds-marks-slot
bounds-marks-slot c = omega (arith, c.sum-slot.ensures.0)

pub is_new-fresh-requires : goal.is_new-fresh-requires
is_new-fresh-requires c =
    λ e. unmarked-new c.loop-k.marks _ _ c.loop-k.invariant.3 (rw (← c.sum-slot.ensures.1) e)

pub bounds-marks-slot-in-loop-k : goal.bounds-marks-slot-in-loop-k
bounds-marks-slot-in-loop-k c = omega (arith, c.sum-slot.ensures.0)

pub loop-k-preserved : goal.loop-k-preserved
loop-k-preserved c =
    let ls = lengths_of c.args.fs.now c.args.os.now c.args.ss.now in
    let ps = places_of c.args.fp.now c.args.op.now c.args.sp.now in
    let name = c.part-name.ensures ∙ name-here ls c.args.ns.now c.loop-k.k c.loop-k.offset c.loop-k.invariant.1 c.length_of-n.ensures in
    let one = own-fault ls c.args.ns.now ps c.loop-k.k name c.is_new-fresh.ensures c.place_of-at.ensures c.unless.ensures in (
      c.after-offset.ensures.0,
      offset-next ls c.args.ns.now c.loop-k.k c.loop-k.offset c.loop-k.invariant.1 c.length_of-n.ensures c.after-offset.ensures.1,
      length-set c.loop-k.marks c.sum-slot.result _ ∙ c.loop-k.invariant.2,
      marks-more ls c.args.ns.now c.loop-k.marks c.loop-k.k c.loop-k.invariant.3 name c.sum-slot.ensures.1 (omega (arith, c.sum-slot.ensures.0, c.loop-k.invariant.2)),
      step-name ls c.args.ns.now ps _ c.loop-k.k (judged c.loop-k.all) (judged c.unless.result) c.loop-k-test.true c.earlier-all.ensures one c.loop-k.invariant.4,
    )

pub returns : goal.returns
returns c =
    let ls = lengths_of c.args.fs.now c.args.os.now c.args.ss.now in
    let ps = places_of c.args.fp.now c.args.op.now c.args.sp.now in
    λ x q e f g h i j k.
    stop-name ls c.args.ns.now ps _ c.loop-k.k (judged c.loop-k.all) c.loop-k-test.false c.loop-k.invariant.4
    ∙ faults-whole x q e f g h i j k
