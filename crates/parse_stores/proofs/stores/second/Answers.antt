use Rattle.parse_stores.proofs.StoreLaws.{con-stores, con-unnamed, con-unread, con-untaken}
use Rattle.parse_step.proofs.Answers.{err-came}
use mathlib.Core.Path.{refl}
use Rattle.parse_stores.proofs.stores.second.Goals as goal

pub returns-in_err-taken : goal.returns-in_err-taken
returns-in_err-taken c =
    rw (err-came c.from_residual.ensures.1) (λ e. con-untaken e c.in_err-taken.ensures refl)

pub returns-in_err-kept : goal.returns-in_err-kept
returns-in_err-kept c =
    rw (err-came c.from_residual-in_err-kept.ensures.1) (λ e. con-unnamed e c.in_ok-taken.ensures refl c.in_err-kept.ensures refl)

pub returns-in_err-other : goal.returns-in_err-other
returns-in_err-other c =
    rw (err-came c.from_residual-in_err-other.ensures.1) (λ e. con-unread e c.in_ok-taken.ensures refl c.in_ok-kept.ensures refl c.in_err-other.ensures.0 c.in_err-other.ensures.1 refl)

pub returns : goal.returns
returns c =
    λ e. con-stores e c.in_ok-taken.ensures refl c.in_ok-kept.ensures refl c.in_ok-other.ensures.0 c.in_ok-other.ensures.1 refl c.last.ensures c.last-2.ensures c.store.ensures
