use Rattle.std.proofs.Common.{◌+◌, refl, arith}
use borrow.Author.Tests.{not-false, not-true}
use Rattle.trace_whole.proofs.FedLaws.{ran-next, ran-none, ran-off, ran_on}
use Rattle.trace_whole.proofs.printed.cycles.Goals as goal

pub loop-b-init : goal.loop-b-init
loop-b-init c =
    (c.requires.0, omega arith, refl, refl, refl, refl, refl, omega arith, ran-none refl refl refl refl)

pub byte-s-requires : goal.byte-s-requires
byte-s-requires c =
    (c.loop-b.invariant.0, c.loop-b.invariant.1, omega (arith, c.requires.1, c.loop-b.invariant.4))

pub returns-then-not-s : goal.returns-then-not-s
returns-then-not-s c =
    let f = c.byte-s.ensures.1 c.loop-b.invariant.8.line c.loop-b.invariant.8.held in
    let p = ran-next c.args.image.now c.args.input.now c.loop-b.b-index c.loop-b.s c.loop-b.invariant.8 c.loop-b-test.true c.loop-b.invariant.7 c.loop-b.invariant.6 f in
    ran-off c.args.image.now c.args.input.now (c.loop-b.b-index + 1) c.byte-s.result p (not-true _ c.if-not-s.true)

pub loop-b-preserved : goal.loop-b-preserved
loop-b-preserved c =
    let f = c.byte-s.ensures.1 c.loop-b.invariant.8.line c.loop-b.invariant.8.held in
    let p = ran-next c.args.image.now c.args.input.now c.loop-b.b-index c.loop-b.s c.loop-b.invariant.8 c.loop-b-test.true c.loop-b.invariant.7 c.loop-b.invariant.6 f in
    let k = c.record-1.given in
    ((c.loop-b.invariant.0.0, omega (arith, c.store-1.given, c.loop-b.invariant.0.1)), c.byte-s.ensures.0, omega (arith, c.store-1.given, c.loop-b.invariant.2), omega (arith, k, c.loop-b.invariant.3), omega (arith, c.line-1.given, c.loop-b.invariant.4), omega (arith, c.out-1.given, c.loop-b.invariant.5), not-false _ c.if-not-s.false, c.loop-b.invariant.7, p)

pub finish-requires : goal.finish-requires
finish-requires c =
    (c.loop-b.invariant.0, c.loop-b.invariant.1, omega (arith, c.requires.1, c.loop-b.invariant.4))

pub returns : goal.returns
returns c =
    ran_on c.args.image.now c.args.input.now c.loop-b.b-index c.loop-b.s c.loop-b.invariant.8 (omega arith) c.loop-b.invariant.7 c.loop-b.invariant.6 (c.finish.ensures c.loop-b.invariant.8.line c.loop-b.invariant.8.held)
