use native.Mathlib.Omega.{arith}
use lib.ListN.{length-set}
use Rattle.trace_input.proofs.LineCut.{held-full, held_more}
use borrow.Author.Rules.{rules}
use Rattle.trace_input.proofs.lines.put.Goals as goal

pub returns-then-n-line : goal.returns-then-n-line
returns-then-n-line c =
    (omega (arith, length-set c.args.line.now c.args.n c.args.b), λ l g e. held_more e c.if-n-line.true g)

pub returns : goal.returns
returns c = (search rules, λ l g e. held-full e c.if-n-line.false g)
