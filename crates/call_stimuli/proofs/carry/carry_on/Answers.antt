use mathlib.Core.Path.{◌≡◌, refl, ap, ◌∙◌}
use Prim.Native.Nat.{ℕ}
use native.Mathlib.Omega.{arith}
use lib.ListN.{drop, length, length-drop, take}
use Rattle.language.specs.Step.{Record}
use Rattle.language.specs.declared.refusals.Refusal.TheVariants.{ImageFails}
use Rattle.run_next.specs.Seen.{record_meant}
use Rattle.run_soundness.proofs.PassedLaws.{passed-facilities, passed-states}
use Rattle.run_advance.proofs.CarryLaws.{few-held}
use Rattle.about_bytes.specs.ManyCycles.{run-free}
use Rattle.run_left.specs.Kept.{kept_record}
use Rattle.call_stimuli.proofs.RunLaws.{each-so, left-none, left-refused, left-stop, next-free, next-there, run_small, run-so}
use Rattle.call_stimuli.proofs.SoFarLaws.{so_far_more, so-far-none}
use mathlib.Core.Option.{none, some}
use Rattle.call_stimuli.proofs.carry.carry_on.Goals as goal

pub loop-n-init : goal.loop-n-init
loop-n-init c =
    (omega arith, omega arith, omega arith, refl, refl, refl, refl, refl, (λ i K m e. so-far-none i K m _ _ _ _ _ _ _ _ _ e), omega arith, omega arith)

pub carried-came-requires : goal.carried-came-requires
carried-came-requires c =
    let t = length c.args.trace.now in
    let so = c.loop-n.invariant.8 c.requires.image c.requires.kept c.requires.scratch c.requires.lent in
    let p = (run-free c.requires.image c.args.store.now c.requires.kept c.args.stimuli.now c.args.cycles c.requires.scratch t c.requires.lent.free).passing in
    let free = next-free c.requires.image c.args.stimuli.now c.args.cycles c.requires.scratch c.args.store.now c.requires.kept c.loop-n.store _ c.loop-n.trace c.loop-n.n c.loop-n.conflicts c.loop-n.at c.loop-n.to c.loop-n-test.true so.left in
    let held = few-held c.requires.image c.loop-n.store _ _ c.requires.scratch free in
    let read = ap (λ (x : Record). x.held) so.read in
    rw (c.requires.lent.sliced.facilities-are, c.requires.lent.sliced.states-are) (passed-facilities c.requires.image p, passed-states c.requires.image p, omega (arith, held, read))

pub overflow_add-conflicts : goal.overflow_add-conflicts
overflow_add-conflicts c =
    omega (arith, c.loop-n.invariant.0, c.loop-n-test.true)

pub overflow_add-at : goal.overflow_add-at
overflow_add-at c =
    let t = length c.args.trace.now in
    let so = c.loop-n.invariant.8 c.requires.image c.requires.kept c.requires.scratch c.requires.lent in
    let each = each-so c.requires.image c.args.stimuli.now c.args.cycles c.requires.scratch c.args.store.now c.requires.kept c.share-each.result t c.share-each.ensures (omega (arith, c.loop-n-test.true)) c.requires.lent.free in
    let there = next-there c.requires.image c.args.stimuli.now c.args.cycles c.requires.scratch c.args.store.now c.requires.kept c.loop-n.store _ c.loop-n.trace c.loop-n.n c.loop-n.conflicts c.loop-n.at c.loop-n.to c.loop-n-test.true so.left in
    let rest = length-drop c.loop-n.at c.args.stimuli.now in
    omega (arith, each, there, rest, c.loop-n.invariant.2, c.loop-n.invariant.10)

pub overflow_add-to : goal.overflow_add-to
overflow_add-to c =
    let t = length c.args.trace.now in
    let small = run_small c.requires.image c.args.stimuli.now c.args.cycles c.requires.scratch c.args.store.now c.requires.kept t c.requires.lent.free in
    omega (arith, c.loop-n.invariant.1, c.requires.lent.copy, small, c.loop-n.invariant.9, c.loop-n-test.true)

pub loop-n-preserved : goal.loop-n-preserved
loop-n-preserved c =
    let t = length c.args.trace.now in
    let so = c.loop-n.invariant.8 c.requires.image c.requires.kept c.requires.scratch c.requires.lent in
    let each = each-so c.requires.image c.args.stimuli.now c.args.cycles c.requires.scratch c.args.store.now c.requires.kept c.share-each.result t c.share-each.ensures (omega (arith, c.loop-n-test.true)) c.requires.lent.free in
    let there = next-there c.requires.image c.args.stimuli.now c.args.cycles c.requires.scratch c.args.store.now c.requires.kept c.loop-n.store _ c.loop-n.trace c.loop-n.n c.loop-n.conflicts c.loop-n.at c.loop-n.to c.loop-n-test.true so.left in
    let rest = length-drop c.loop-n.at c.args.stimuli.now in
    let small = run_small c.requires.image c.args.stimuli.now c.args.cycles c.requires.scratch c.args.store.now c.requires.kept t c.requires.lent.free in (
      omega (arith, c.loop-n.invariant.0),
      omega (arith, c.loop-n.invariant.1, c.requires.lent.copy, small),
      omega (arith, each, there, rest, c.loop-n.invariant.2),
      c.store-1.given ∙ c.loop-n.invariant.3,
      c.work-1.given ∙ c.loop-n.invariant.4,
      c.pending-1.given ∙ c.loop-n.invariant.5,
      c.mask-1.given ∙ c.loop-n.invariant.6,
      c.trace-1.given ∙ c.loop-n.invariant.7,
      (λ i K m e.
          let so = c.loop-n.invariant.8 i K m e in
          let each = each-so i c.args.stimuli.now c.args.cycles m c.args.store.now K c.share-each.result t c.share-each.ensures (omega (arith, c.loop-n-test.true)) e.free in
          let st = c.part.ensures ∙ ap (λ (k : ℕ). take k (drop c.loop-n.at c.args.stimuli.now)) each in
          let free = next-free i c.args.stimuli.now c.args.cycles m c.args.store.now K c.loop-n.store _ c.loop-n.trace c.loop-n.n c.loop-n.conflicts c.loop-n.at c.loop-n.to c.loop-n-test.true so.left in
          let q = rw (st, c.in-Ok.is) at (c.carried-came.ensures i (kept_record c.loop-n.n (record_meant c.loop-n.reached) K) m e.sliced so.read (c.loop-n.invariant.4 ∙ e.copy) (c.loop-n.invariant.5 ∙ e.waiting) (c.loop-n.invariant.6 ∙ e.masked) (rw st free)) in
          rw (c.put.ensures, c.part-in-Ok.ensures, e.copy, each)
          (so_far_more i c.args.stimuli.now c.args.cycles m c.args.store.now K c.loop-n.store (record_meant c.loop-n.reached) c.loop-n.trace c.loop-n.n c.loop-n.conflicts c.loop-n.at c.loop-n.to c.loop-n-test.true so _ _ c.in-Ok.a.conflicts q.1 c.store-1.given q.0)),
      c.loop-n.invariant.9,
      c.loop-n.invariant.10,
    )

pub returns-in-Err-Stopped : goal.returns-in-Err-Stopped
returns-in-Err-Stopped c =
    λ i K m e.
    let t = length c.args.trace.now in
    let so = c.loop-n.invariant.8 i K m e in
    let each = each-so i c.args.stimuli.now c.args.cycles m c.args.store.now K c.share-each.result t c.share-each.ensures (omega (arith, c.loop-n-test.true)) e.free in
    let st = c.part.ensures ∙ ap (λ (k : ℕ). take k (drop c.loop-n.at c.args.stimuli.now)) each in
    let free = next-free i c.args.stimuli.now c.args.cycles m c.args.store.now K c.loop-n.store _ c.loop-n.trace c.loop-n.n c.loop-n.conflicts c.loop-n.at c.loop-n.to c.loop-n-test.true so.left in
    let why = rw c.in-Err-Stopped.is at c.in-Err-Stopped.field-0-is in
    let q = rw (st, c.in-Err-Stopped.is, why) at (c.carried-came.ensures i (kept_record c.loop-n.n (record_meant c.loop-n.reached) K) m e.sliced so.read (c.loop-n.invariant.4 ∙ e.copy) (c.loop-n.invariant.5 ∙ e.waiting) (c.loop-n.invariant.6 ∙ e.masked) (rw st free)) in
    rw c.ended.ensures
    (run-so i c.args.stimuli.now c.args.cycles m c.args.store.now K _ _ c.loop-n.trace c.loop-n.n c.loop-n.conflicts (some c.in-Err-Stopped.stop) t so.left.traced e.free c.loop-n.invariant.7 so.left.noted
    (left-stop i c.args.stimuli.now c.args.cycles m c.args.store.now K c.loop-n.store _ c.loop-n.trace c.loop-n.n c.loop-n.conflicts c.loop-n.at c.loop-n.to c.loop-n-test.true so.left _ _ c.in-Err-Stopped.stop q.0))

pub returns-in-Err-Stuck : goal.returns-in-Err-Stuck
returns-in-Err-Stuck c =
    λ i K m e.
    let t = length c.args.trace.now in
    let so = c.loop-n.invariant.8 i K m e in
    let each = each-so i c.args.stimuli.now c.args.cycles m c.args.store.now K c.share-each.result t c.share-each.ensures (omega (arith, c.loop-n-test.true)) e.free in
    let st = c.part.ensures ∙ ap (λ (k : ℕ). take k (drop c.loop-n.at c.args.stimuli.now)) each in
    let free = next-free i c.args.stimuli.now c.args.cycles m c.args.store.now K c.loop-n.store _ c.loop-n.trace c.loop-n.n c.loop-n.conflicts c.loop-n.at c.loop-n.to c.loop-n-test.true so.left in
    let why = rw c.in-Err-Stuck.is at c.in-Err-Stuck.field-0-is in
    let q = rw (st, c.in-Err-Stuck.is, why) at (c.carried-came.ensures i (kept_record c.loop-n.n (record_meant c.loop-n.reached) K) m e.sliced so.read (c.loop-n.invariant.4 ∙ e.copy) (c.loop-n.invariant.5 ∙ e.waiting) (c.loop-n.invariant.6 ∙ e.masked) (rw st free)) in
    rw c.ended-in-Err-Stuck.ensures
    (run-so i c.args.stimuli.now c.args.cycles m c.args.store.now K _ _ c.loop-n.trace c.loop-n.n c.loop-n.conflicts none t so.left.traced e.free c.loop-n.invariant.7 so.left.noted
    (left-refused i c.args.stimuli.now c.args.cycles m c.args.store.now K c.loop-n.store _ c.loop-n.trace c.loop-n.n c.loop-n.conflicts c.loop-n.at c.loop-n.to c.loop-n-test.true so.left _ _ ImageFails q.0))

pub shape_of-store : goal.shape_of-store
shape_of-store c =
    c.loop-n.invariant.3

pub shape_of-work : goal.shape_of-work
shape_of-work c =
    c.loop-n.invariant.4

pub shape_of-pending : goal.shape_of-pending
shape_of-pending c =
    c.loop-n.invariant.5

pub shape_of-mask : goal.shape_of-mask
shape_of-mask c =
    c.loop-n.invariant.6

pub shape_of-trace : goal.shape_of-trace
shape_of-trace c =
    c.loop-n.invariant.7

pub returns : goal.returns
returns c =
    λ i K m e.
    let t = length c.args.trace.now in
    let z : c.loop-n.n ≡ c.args.cycles = omega (arith, c.loop-n-test.false) in
    let so = rw z at (c.loop-n.invariant.8 i K m e) in
    rw c.ended-2.ensures
    (run-so i c.args.stimuli.now c.args.cycles m c.args.store.now K c.loop-n.store _ c.loop-n.trace c.args.cycles c.loop-n.conflicts none t so.left.traced e.free c.loop-n.invariant.7 so.left.noted
    (left-none i c.args.stimuli.now c.args.cycles m c.args.store.now K c.loop-n.store _ c.loop-n.trace c.args.cycles c.loop-n.conflicts c.loop-n.at c.loop-n.to (omega arith) so.left))
