use Rattle.std.proofs.lemmas.Result.{err_from_is_err_and}
use native.Mathlib.Omega.{arith}
use Rattle.run_next.specs.Seen.{record_meant}
use Rattle.run_step.proofs.StepLaws.{step-last, step-nowhere, halted-so, went-so}
use Rattle.run_step.proofs.step.step.Goals as goal

pub returns-then-r-ge-CYCLE : goal.returns-then-r-ge-CYCLE
returns-then-r-ge-CYCLE c =
    λ d h acts k room enough clear. step-last d _ (record_meant c.args.r) _ c.if-r-ge-CYCLE.true

pub returns-then-image-number : goal.returns-then-image-number
returns-then-image-number c =
    λ d h acts k room enough clear.
    step-nowhere d _ (record_meant c.args.r) _ c.if-r-ge-CYCLE.false (rw h.states c.if-image-number.true)

pub finish-requires : goal.finish-requires
finish-requires c =
    (c.requires.0, c.requires.1, omega (arith, c.if-image-number.false, c.requires.1), c.if-r-ge-CYCLE.false, c.requires.2)

pub returns : goal.returns
returns c =
    λ d h acts k room enough clear.
    let saw = rw c.in_ok-g.was at (c.acted.ensures d acts k h.valued room enough) in
    let w = went-so d c.args.store.now c.args.pending.now c.args.mask.now c.args.stimulus.now (λ i. (c.slice_known-1.given i).fits) (λ i. (c.slice_known-2-1.given i).fits) (λ i. (c.slice_known-3-1.given i).fits) (λ i. (c.shared_slice_known-1.given i).fits) room enough clear (record_meant c.args.r) c.if-r-ge-CYCLE.false (rw h.states c.if-image-number.false) c.acted.new.store c.acted.new.pending c.acted.new.mask c.in_ok-g.g saw in
    rw w.is (c.finish.ensures d w.doing h (omega (arith, room, c.store-1.given)) w.landing)

pub returns-in_err-g : goal.returns-in_err-g
returns-in_err-g c =
    λ d h acts k room enough clear.
    let r = err_from_is_err_and c.from_residual.result c.from_residual.ensures.1 in
    let saw = rw c.in_err-g.was at (c.acted.ensures d acts k h.valued room enough) in
    rw (r.1, r.2) (halted-so d c.args.store.now c.args.pending.now c.args.mask.now c.args.stimulus.now (λ i. (c.slice_known-1.given i).fits) (λ i. (c.slice_known-2-1.given i).fits) (λ i. (c.slice_known-3-1.given i).fits) (λ i. (c.shared_slice_known-1.given i).fits) room enough clear (record_meant c.args.r) c.if-r-ge-CYCLE.false (rw h.states c.if-image-number.false) c.acted.new.store c.acted.new.pending c.acted.new.mask _ saw)
