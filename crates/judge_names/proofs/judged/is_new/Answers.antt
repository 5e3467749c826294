use mathlib.Core.Logic.{inl, inr}
use mathlib.Core.Path.{◌∙◌}
use native.Mathlib.Omega.{arith}
use Rattle.judge_names.specs.Numbered.{lengths_of}
use Rattle.judge_names.proofs.OrderLaws.{all_new, name-here, none_before, offset-next, offset-start, one_more, one_same, unnamed-new}
use Rattle.judge_names.proofs.judged.is_new.Goals as goal

pub returns-then-name-eq0 : goal.returns-then-name-eq0
returns-then-name-eq0 c =
    elim c.then-name-eq0.either [
      | inl e ↦ unnamed-new c.args.name.now _ e
      | inr e ↦ all_new c.args.name.now (lengths_of c.args.fs.now c.args.os.now c.args.ss.now) c.args.ns.now e.0 c.args.k c.args.k (omega arith) (omega arith) (c.requires e.1)
    ]

pub loop-i-init : goal.loop-i-init
loop-i-init c = (omega arith, offset-start _ _, none_before c.args.name.now _ _)

pub returns-then-same : goal.returns-then-same
returns-then-same c =
    let ls = lengths_of c.args.fs.now c.args.os.now c.args.ss.now in
    let part = c.part.ensures ∙ name-here ls c.args.ns.now c.loop-i.i c.loop-i.offset c.loop-i.invariant.1 c.length_of-n.ensures in
    one_same c.args.name.now ls c.args.ns.now c.if-name-eq0.false c.loop-i.i c.args.k c.loop-i-test.true part c.same.ensures c.if-same.true

pub loop-i-preserved : goal.loop-i-preserved
loop-i-preserved c =
    let ls = lengths_of c.args.fs.now c.args.os.now c.args.ss.now in
    let part = c.part.ensures ∙ name-here ls c.args.ns.now c.loop-i.i c.loop-i.offset c.loop-i.invariant.1 c.length_of-n.ensures in (
      c.after-offset.ensures.0,
      offset-next ls c.args.ns.now c.loop-i.i c.loop-i.offset c.loop-i.invariant.1 c.length_of-n.ensures c.after-offset.ensures.1,
      one_more c.args.name.now ls c.args.ns.now c.loop-i.i part c.same.ensures c.if-same.false c.loop-i.invariant.2,
    )

pub returns : goal.returns
returns c =
    let ls = lengths_of c.args.fs.now c.args.os.now c.args.ss.now in
    all_new c.args.name.now ls c.args.ns.now c.if-name-eq0.false c.loop-i.i c.args.k (omega arith) c.loop-i-test.false c.loop-i.invariant.2
