use mathlib.Core.Path.{sym, ◌∙◌}
use Rattle.parse_step.proofs.Answers.{err-came}
use Rattle.parse_facilities.proofs.StoredLaws.{hash-not, register-plain, register-sequencing}
use Rattle.parse_facilities.proofs.stored.register.Goals as goal

pub returns-then-kind_of-ne-HASH : goal.returns-then-kind_of-ne-HASH
returns-then-kind_of-ne-HASH c = register-plain (λ e. c.if-kind_of-ne-HASH.true (c.kind_of.ensures ∙ e)) c.stored.ensures

pub returns-in_err-hash : goal.returns-in_err-hash
returns-in_err-hash c = rw (err-came c.from_residual.ensures.1) (hash-not (sym c.kind_of.ensures ∙ c.if-kind_of-ne-HASH.false) c.in_err-hash.ensures)

pub returns : goal.returns
returns c = register-sequencing (sym c.kind_of.ensures ∙ c.if-kind_of-ne-HASH.false) c.in_ok-hash.ensures c.stored-2.ensures
