use mathlib.Core.Path.{sym}
use Rattle.text_characters.proofs.Matching.{all_alike, end, less, other-size, stop}
use native.Mathlib.Omega.{arith}
use Rattle.text_characters.proofs.names.matches.Goals as goal

pub returns-then-a-b : goal.returns-then-a-b
returns-then-a-b c = other-size c.args.a.now c.args.b.now c.if-a-b.true

pub loop-i-init : goal.loop-i-init
loop-i-init c = all_alike c.args.a.now c.args.b.now c.if-a-b.false

pub returns-then-not-alike : goal.returns-then-not-alike
returns-then-not-alike c =
    stop c.args.a.now c.args.b.now c.loop-i.i c.if-a-b.false c.loop-i.invariant (omega arith) (omega arith) (sym c.if-not-alike.ensures)

pub loop-i-preserved : goal.loop-i-preserved
loop-i-preserved c =
    less c.args.a.now c.args.b.now c.loop-i.i c.if-a-b.false c.loop-i.invariant (omega arith) (omega arith) (sym c.if-not-alike.ensures)

pub returns : goal.returns
returns c = end c.args.a.now c.args.b.now c.loop-i.i c.if-a-b.false c.loop-i.invariant (omega arith)
