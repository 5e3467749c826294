use Rattle.std.specs.Prelude.{Err}
use Rattle.language.specs.Words.{Position}
use Prim.Native.Nat.{ℕ}
use Rattle.judge_verdicts.specs.Meaning.{recalled}
use borrow.Author.Tests.{eq-eqb, ne_eqb}
use mathlib.Core.Path.{ap}
use Rattle.judge_verdicts.proofs.kept.recall.Goals as goal

pub returns-then-mark-eq0 : goal.returns-then-mark-eq0
unfolding recalled
returns-then-mark-eq0 c =
    rw (← c.number-mark.ensures, eq-eqb _ 0 c.if-mark-eq0.true, ← c.number-value.ensures)
    c.only.ensures.same

pub returns : goal.returns
unfolding recalled
returns c =
    rw (← c.number-mark.ensures, ne_eqb _ 0 c.if-mark-eq0.false, ← c.number-value.ensures, ← c.numbered.ensures)
    (ap (λ (x : ℕ). Err (record { at = record { place = x }; refusal = c.numbered.result })) (ap (λ (p : Position). p.place) c.position.ensures))
