use mathlib.Core.Path.{sym, ◌∙◌}
use native.Mathlib.Omega.{arith}
use borrow.Author.Tests.{not-false, not-true}
use lib.ListN.{length}
use Rattle.language.specs.Decode.{decode, section_at}
use Rattle.language.specs.Layout.{store_size}
use Rattle.run_soundness.proofs.PassedLaws.{passed-described, passed-facilities, passed-size, passed-testable}
use Rattle.call_run.proofs.RefusalLaws.{no-image, no-refusal, no_room, no-trace-room, not-formed, not_sound, room_store}
use Rattle.language.specs.Encode.{expressions_section, node_size}
use Rattle.call_run.proofs.refusal.run_refusal.Goals as goal
use Rattle.call_run.proofs.refusal.run_refusal.Goals.{then-not-roomy-via-then-not-roomy, then-not-roomy-via-else-not-roomy+then-not-trace_roomy}

pub returns-then-not-passed : goal.returns-then-not-passed
returns-then-not-passed c =
    let k = c.args.«record».now in
    let p = sym c.requires ∙ not-true c.args.passed c.if-not-passed.true-raw in
    no-image c.args.image.now c.args.store.now k c.args.stimuli.now c.args.cycles c.args.scratch c.args.trace p

pub returns-then-not-roomy : goal.returns-then-not-roomy
unfolding store_size
returns-then-not-roomy c =
    let k = c.args.«record».now in
    let p = sym c.requires ∙ not-false c.args.passed c.if-not-passed.false-raw in
    let size = c.store_size-size.ensures (decode c.args.image.now) (section_at expressions_section node_size c.args.image.now) (rw c.section-facilities.ensures (passed-described c.args.image.now p)) (passed-size c.args.image.now p) in
    elim c.then-not-roomy.branch [
      | then-not-roomy-via-then-not-roomy w ↦
          let r = sym (c.roomy.ensures (decode c.args.image.now) size) ∙ not-true c.roomy.result w.if-not-roomy.true-raw in
          no_room c.args.image.now c.args.store.now k c.args.stimuli.now c.args.cycles c.args.scratch c.args.trace p r
      | then-not-roomy-via-else-not-roomy+then-not-trace_roomy w ↦
          let r = sym (c.roomy.ensures (decode c.args.image.now) size) ∙ not-false c.roomy.result w.if-not-roomy.false-raw in
          let q = sym (w.trace_roomy.ensures (decode c.args.image.now) size) ∙ not-true w.trace_roomy.result w.if-not-trace_roomy.true-raw in
          no-trace-room c.args.image.now c.args.store.now k c.args.stimuli.now c.args.cycles c.args.scratch c.args.trace p r q
    ]

pub trace_roomy-requires : goal.trace_roomy-requires
trace_roomy-requires c =
    let p = sym c.requires ∙ not-false c.args.passed c.if-not-passed.false-raw in
    let size = c.store_size-size.ensures (decode c.args.image.now) (section_at expressions_section node_size c.args.image.now) (rw c.section-facilities.ensures (passed-described c.args.image.now p)) (passed-size c.args.image.now p) in
    omega (arith, size, passed-size c.args.image.now p)

pub sound-requires : goal.sound-requires
sound-requires c =
    let p = sym c.requires ∙ not-false c.args.passed c.if-not-passed.false-raw in
    rw c.section-facilities.ensures (passed-facilities c.args.image.now p)

pub returns-then-not-sound : goal.returns-then-not-sound
unfolding store_size
returns-then-not-sound c =
    let k = c.args.«record».now in
    let p = sym c.requires ∙ not-false c.args.passed c.if-not-passed.false-raw in
    let size = c.store_size-size.ensures (decode c.args.image.now) (section_at expressions_section node_size c.args.image.now) (rw c.section-facilities.ensures (passed-described c.args.image.now p)) (passed-size c.args.image.now p) in
    let r = sym (c.roomy.ensures (decode c.args.image.now) size) ∙ not-false c.roomy.result c.if-not-roomy.false-raw in
    let q = sym (c.trace_roomy.ensures (decode c.args.image.now) size) ∙ not-false c.trace_roomy.result c.if-not-trace_roomy.false-raw in
    let s = sym (c.sound.ensures (decode c.args.image.now) (rw (c.section-facilities.ensures, c.section-expressions.ensures, c.section-states.ensures) (passed-testable c.args.image.now p)) (room_store (decode c.args.image.now) (length c.args.store.now) (length k) c.args.scratch r)) ∙ not-true c.sound.result c.if-not-sound.true-raw in
    not_sound c.args.image.now c.args.store.now k c.args.stimuli.now c.args.cycles c.args.scratch c.args.trace p r q s

pub returns-then-not-all_well_formed : goal.returns-then-not-all_well_formed
unfolding store_size
returns-then-not-all_well_formed c =
    let k = c.args.«record».now in
    let p = sym c.requires ∙ not-false c.args.passed c.if-not-passed.false-raw in
    let size = c.store_size-size.ensures (decode c.args.image.now) (section_at expressions_section node_size c.args.image.now) (rw c.section-facilities.ensures (passed-described c.args.image.now p)) (passed-size c.args.image.now p) in
    let r = sym (c.roomy.ensures (decode c.args.image.now) size) ∙ not-false c.roomy.result c.if-not-roomy.false-raw in
    let q = sym (c.trace_roomy.ensures (decode c.args.image.now) size) ∙ not-false c.trace_roomy.result c.if-not-trace_roomy.false-raw in
    let s = sym (c.sound.ensures (decode c.args.image.now) (rw (c.section-facilities.ensures, c.section-expressions.ensures, c.section-states.ensures) (passed-testable c.args.image.now p)) (room_store (decode c.args.image.now) (length c.args.store.now) (length k) c.args.scratch r)) ∙ not-false c.sound.result c.if-not-sound.false-raw in
    let w = sym (c.all_well_formed.ensures (decode c.args.image.now) (section_at expressions_section node_size c.args.image.now) (rw c.section-facilities.ensures (passed-described c.args.image.now p))) ∙ not-true c.all_well_formed.result c.if-not-all_well_formed.true-raw in
    not-formed c.args.image.now c.args.store.now k c.args.stimuli.now c.args.cycles c.args.scratch c.args.trace p r q s w

pub returns : goal.returns
unfolding store_size
returns c =
    let k = c.args.«record».now in
    let p = sym c.requires ∙ not-false c.args.passed c.if-not-passed.false-raw in
    let size = c.store_size-size.ensures (decode c.args.image.now) (section_at expressions_section node_size c.args.image.now) (rw c.section-facilities.ensures (passed-described c.args.image.now p)) (passed-size c.args.image.now p) in
    let r = sym (c.roomy.ensures (decode c.args.image.now) size) ∙ not-false c.roomy.result c.if-not-roomy.false-raw in
    let q = sym (c.trace_roomy.ensures (decode c.args.image.now) size) ∙ not-false c.trace_roomy.result c.if-not-trace_roomy.false-raw in
    let s = sym (c.sound.ensures (decode c.args.image.now) (rw (c.section-facilities.ensures, c.section-expressions.ensures, c.section-states.ensures) (passed-testable c.args.image.now p)) (room_store (decode c.args.image.now) (length c.args.store.now) (length k) c.args.scratch r)) ∙ not-false c.sound.result c.if-not-sound.false-raw in
    let w = sym (c.all_well_formed.ensures (decode c.args.image.now) (section_at expressions_section node_size c.args.image.now) (rw c.section-facilities.ensures (passed-described c.args.image.now p))) ∙ not-false c.all_well_formed.result c.if-not-all_well_formed.false-raw in
    no-refusal c.args.image.now c.args.store.now k c.args.stimuli.now c.args.cycles c.args.scratch c.args.trace p r q s w
