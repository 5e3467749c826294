use mathlib.Core.Path.{◌≡◌}
use Prim.Native.Nat.{suc}
use native.Mathlib.Omega.{arith}
use Rattle.parse_step.proofs.Answers.{err-came}
use Rattle.parse_sections.proofs.HeadLaws.{head_read, head-unequal, head-unnamed}
use Rattle.parse_sections.proofs.operations.heads.head.Goals as goal

pub returns-in_err-named : goal.returns-in_err-named
returns-in_err-named c =
    rw (err-came c.from_residual.ensures.1)
    (head-unnamed (λ h. let e : c.saturating_add.result ≡ suc c.args.s.operations = omega arith in rw e) c.in_err-named.ensures)

pub returns-in_err-equal : goal.returns-in_err-equal
returns-in_err-equal c =
    rw (err-came c.from_residual-in_err-equal.ensures.1)
    (head-unequal (λ h. let e : c.saturating_add.result ≡ suc c.args.s.operations = omega arith in rw e) c.in_ok-named.ensures c.in_err-equal.ensures)

pub returns : goal.returns
returns c =
    head_read (λ h. let e : c.saturating_add.result ≡ suc c.args.s.operations = omega arith in rw e) c.in_ok-named.ensures c.in_ok-equal.ensures c.expect-3.ensures
