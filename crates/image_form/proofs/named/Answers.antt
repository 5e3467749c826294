use mathlib.Core.Path.{sym, ◌∙◌}
use Prim.Native.Nat.{◌-◌}
use Rattle.language.specs.Decode.{names_length}
use Rattle.language.specs.Encode.{facility_size, operation_size}
use Rattle.image_form.proofs.FormLaws.{first-unnamed, second_is, second-unnamed, third-is, third-left}
use Rattle.image_form.proofs.LabelLaws.{end_none, end-some}
use Rattle.image_form.specs.Names.{names_right}
use Rattle.image_form.proofs.named.Goals as goal

pub returns-then-first-eq0 : goal.returns-then-first-eq0
returns-then-first-eq0 c =
    sym (first-unnamed c.args.c c.args.facilities.now c.args.operations.now c.args.states.now c.args.names.now (end_none _ (names_length c.args.c.facilities 2 facility_size c.args.facilities.now) c.names_end-first.ensures c.if-first-eq0.true))

pub returns-then-next-eq0 : goal.returns-then-next-eq0
returns-then-next-eq0 c =
    let w = end-some (names_right c.args.c.facilities 2 facility_size c.args.facilities.now c.args.names.now) (names_length c.args.c.facilities 2 facility_size c.args.facilities.now) c.names_end-first.ensures c.if-first-eq0.false in
    let p = second_is c.args.c c.args.facilities.now c.args.operations.now c.args.states.now c.args.names.now (c.names_end-first.result - 1) c.part-second.ensures w.1 in
    sym (second-unnamed c.args.c c.args.facilities.now c.args.operations.now c.args.states.now c.args.names.now w.0 p (end_none _ (names_length c.args.c.operations 0 operation_size c.args.operations.now) c.names_end-next.ensures c.if-next-eq0.true))

pub returns : goal.returns
returns c =
    let w = end-some (names_right c.args.c.facilities 2 facility_size c.args.facilities.now c.args.names.now) (names_length c.args.c.facilities 2 facility_size c.args.facilities.now) c.names_end-first.ensures c.if-first-eq0.false in
    let v = end-some (names_right c.args.c.operations 0 operation_size c.args.operations.now c.part-second.result.now) (names_length c.args.c.operations 0 operation_size c.args.operations.now) c.names_end-next.ensures c.if-next-eq0.false in
    let p = second_is c.args.c c.args.facilities.now c.args.operations.now c.args.states.now c.args.names.now (c.names_end-first.result - 1) c.part-second.ensures w.1 in
    let q = third-is c.args.c c.args.facilities.now c.args.operations.now c.args.states.now c.args.names.now (c.names_end-next.result - 1) p c.part-third.ensures v.1 in
    c.labels_right.ensures ∙ sym (third-left c.args.c c.args.facilities.now c.args.operations.now c.args.states.now c.args.names.now w.0 p v.0 q)
