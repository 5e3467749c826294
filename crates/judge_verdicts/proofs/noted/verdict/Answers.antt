use mathlib.Core.Path.{ap}
use Prim.Native.Nat.{ℕ}
use borrow.Author.Tests.{eq-eqb, ne_eqb}
use Rattle.language.specs.Words.{Position}
use Rattle.std.specs.Prelude.{Err}
use Rattle.judge_verdicts.specs.Noted.{verdict_in}
use Rattle.judge_verdicts.proofs.noted.verdict.Goals as goal

pub returns-then-mark-eq0 : goal.returns-then-mark-eq0
unfolding verdict_in
returns-then-mark-eq0 c = rw (eq-eqb _ 0 c.if-mark-eq0.true)

pub returns : goal.returns
unfolding verdict_in
returns c =
    rw (ne_eqb _ 0 c.if-mark-eq0.false, ← c.numbered.ensures)
    (ap (λ (x : ℕ). Err (record { at = record { place = x }; refusal = c.numbered.result })) (ap (λ (p : Position). p.place) c.position.ensures))
