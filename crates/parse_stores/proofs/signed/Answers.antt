use lib.Dec.{eqb}
use Prim.Native.Nat.{ℕ}
use mathlib.Core.Path.{sym, ap, ◌∙◌}
use Rattle.parse_stores.proofs.SignLaws.{sign-arrow, sign-returns, sign-untaken}
use Rattle.parse_step.proofs.Answers.{err-came}
use mathlib.Core.Path.{refl}
use Rattle.parse_stores.proofs.signed.Goals as goal

pub returns-in_err-taken : goal.returns-in_err-taken
returns-in_err-taken c =
    rw (err-came c.from_residual.ensures.1) (λ e. sign-untaken c.args.text.now c.args.w c.args.s e c.in_err-taken.ensures refl)

pub returns-then-kind-eq-RETURN : goal.returns-then-kind-eq-RETURN
returns-then-kind-eq-RETURN c =
    λ e. sign-returns c.args.text.now c.args.w c.args.s e c.in_ok-taken.ensures refl (sym c.kind_of-kind.ensures ∙ c.if-kind-eq-RETURN.true) c.put.ensures

pub returns : goal.returns
returns c =
    λ e. sign-arrow c.args.text.now c.args.w c.args.s e c.in_ok-taken.ensures refl (λ q. c.if-kind-eq-RETURN.false (c.kind_of-kind.ensures ∙ q)) (ap (λ (j : ℕ). eqb j 28) c.kind_of-kind.ensures) c.arrow.ensures
