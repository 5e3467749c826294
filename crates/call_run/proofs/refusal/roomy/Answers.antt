use mathlib.Core.Path.{◌∙◌}
use Prim.Native.Nat.{◌<◌}
use native.Mathlib.Omega.{arith}
use borrow.Author.Tests.{lt-leb}
use Rattle.call_run.proofs.RefusalLaws.{rest-of-room, small-record, small-store}
use Rattle.call_run.proofs.refusal.roomy.Goals as goal
use Rattle.call_run.proofs.refusal.roomy.Goals.{then-size-store, else-size-store}

pub returns-then-record-ge-RECORD : goal.returns-then-record-ge-RECORD
returns-then-record-ge-RECORD c =
    λ d e. rest-of-room d c.args.store c.args.«record» c.args.scratch (omega (arith, c.if-record-ge-RECORD.true.0, e)) c.if-record-ge-RECORD.true.1 c.args.size e

pub returns-else-record-ge-RECORD : goal.returns-else-record-ge-RECORD
returns-else-record-ge-RECORD c =
    elim c.if-size-store.branch [
      | then-size-store w ↦ λ d e.
          let k : c.args.«record» < 80 = omega (arith, c.if-record-ge-RECORD.either, w.if-size-store.true) in
          w.t-6-is ∙ (lt-leb 80 c.args.«record» k ∙ small-record d c.args.store c.args.«record» c.args.scratch (omega (arith, w.if-size-store.true, e)) k)
      | else-size-store w ↦ λ d e.
          let k : c.args.store < c.args.size = w.if-size-store.false in
          w.t-6-is ∙ (lt-leb c.args.size c.args.store k ∙ small-store d c.args.store c.args.«record» c.args.scratch (omega (arith, k, e)))
    ]
