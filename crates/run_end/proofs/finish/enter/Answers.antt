use Rattle.run_references.specs.Places.{found_meant}
use Rattle.run_next.specs.Seen.{record_meant}
use Rattle.run_end.proofs.FinishLaws.{entered-none, entered-some, record-so}
use Rattle.run_end.proofs.finish.enter.Goals as goal

pub returns-then-not-set_register : goal.returns-then-not-set_register
returns-then-not-set_register c =
    λ d x h room l k.
    let p = record-so d (record_meant c.args.r) x c.args.g c.args.store.now l (found_meant c.args.borne) k c.plain_next-next.result c.plain_next-next.ensures c.next_record-after.ensures in
    let s = rw (c.if-not-set_register.true) at (c.set_register.ensures d h room) in
    (entered-none d (record_meant c.args.r) x c.args.g c.args.store.now l (record_meant c.next_record-after.result) p s)

pub returns : goal.returns
returns c =
    λ d x h room l k.
    let p = record-so d (record_meant c.args.r) x c.args.g c.args.store.now l (found_meant c.args.borne) k c.plain_next-next.result c.plain_next-next.ensures c.next_record-after.ensures in
    let s = rw (c.if-not-set_register.false) at (c.set_register.ensures d h room) in
    entered-some d (record_meant c.args.r) x c.args.g c.args.store.now l (record_meant c.next_record-after.result) p s
