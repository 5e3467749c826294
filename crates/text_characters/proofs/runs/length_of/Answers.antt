use mathlib.Core.Path.{◌≡◌, sym, ◌∙◌}
use lib.ListN.{length}
use Rattle.text_characters.proofs.Counting.{more, stop, end}
use native.Mathlib.Omega.{arith}
use Rattle.text_characters.proofs.runs.length_of.Goals as goal

pub loop-n-preserved : goal.loop-n-preserved
loop-n-preserved c = more _ _ _ c.loop-n.invariant (omega arith) (sym c.belongs.ensures ∙ c.if-not-belongs.false)

pub returns-then-not-belongs : goal.returns-then-not-belongs
returns-then-not-belongs c = stop _ _ _ c.loop-n.invariant (omega arith) (sym c.belongs.ensures ∙ c.if-not-belongs.true)

pub returns : goal.returns
returns c =
    let e : length c.args.text.now ≡ c.loop-n.n = omega arith in
    e ∙ end _ _ _ c.loop-n.invariant (omega arith)
