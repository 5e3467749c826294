use mathlib.Core.Bool.{true, false}
use mathlib.Core.Path.{◌≡◌, sym, ◌∙◌}
use native.Mathlib.Omega.{arith}
use Prim.Native.Nat.{◌-◌}
use lib.Dec.{eqb}
use Rattle.language.specs.Decode.{digits_before}
use Rattle.judge_terms.proofs.ConstantLaws.{same-behind, same-differ, same-ends}
use Rattle.judge_terms.proofs.constants.same_number.Goals as goal
use Rattle.judge_terms.proofs.constants.same_number.Goals.{else-loop-d-test, then-loop-d-test+else-digit-2+else-d-shared}

pub returns-then-digit : goal.returns-then-digit
returns-then-digit c =
    same-differ _ _ _ _ _ (λ e. c.if-digit.true (c.digit.ensures.0 ∙ e ∙ sym c.digit-2.ensures.0)) (omega arith) (omega arith)

pub returns-then-digit-2 : goal.returns-then-digit-2
returns-then-digit-2 c =
    same-differ _ _ _ _ _ (λ e. c.if-digit-2.true (c.digit-in-loop-d.ensures.0 ∙ e ∙ sym c.digit-in-loop-d-2.ensures.0)) (omega arith) (omega arith)
    ∙ same-behind _ c.loop-d.d c.args.k c.args.n c.args.j c.args.m (omega arith) (omega arith) (omega arith) (omega arith) c.loop-d.invariant

pub returns-then-digits_zero : goal.returns-then-digits_zero
returns-then-digits_zero c =
    let h = c.min-shared.result in
    let t : eqb (digits_before (c.from-k.result - h) (c.args.n - h) c.args.exprs.now) 0 ≡ true = sym c.digits_zero.ensures ∙ c.if-digits_zero.true in
    rw (← c.from-k.ensures, ← c.from-j.ensures)
    (elim c.loop-d-test.branch [
      | else-loop-d-test w ↦ absurd (omega arith)
      | then-loop-d-test+else-digit-2+else-d-shared w ↦
          c.digits_zero-then-digits_zero.ensures
          ∙ (rw t at (same-ends c.args.exprs.now h c.loop-d.d c.from-k.result c.args.n c.from-j.result c.args.m (omega arith) (omega arith) (omega arith) (omega arith) (omega arith) (λ p q r s. omega arith) c.loop-d.invariant (sym w.digit-in-loop-d.ensures.0 ∙ w.if-digit-2.false ∙ w.digit-in-loop-d-2.ensures.0)))
    ])

pub returns-else-digits_zero : goal.returns-else-digits_zero
returns-else-digits_zero c =
    let h = c.min-shared.result in
    let t : eqb (digits_before (c.from-k.result - h) (c.args.n - h) c.args.exprs.now) 0 ≡ false = sym c.digits_zero.ensures ∙ c.if-digits_zero.false in
    rw (← c.from-k.ensures, ← c.from-j.ensures)
    (elim c.loop-d-test.branch [
      | else-loop-d-test w ↦ absurd (omega arith)
      | then-loop-d-test+else-digit-2+else-d-shared w ↦
          c.if-digits_zero.false
          ∙ (rw t at (same-ends c.args.exprs.now h c.loop-d.d c.from-k.result c.args.n c.from-j.result c.args.m (omega arith) (omega arith) (omega arith) (omega arith) (omega arith) (λ p q r s. omega arith) c.loop-d.invariant (sym w.digit-in-loop-d.ensures.0 ∙ w.if-digit-2.false ∙ w.digit-in-loop-d-2.ensures.0)))
    ])
