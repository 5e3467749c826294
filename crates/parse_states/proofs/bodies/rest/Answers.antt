use mathlib.Core.Path.{sym, ◌∙◌}
use Rattle.parse_states.proofs.BodyLaws.{another, another-not, comma-not, none_yet, one_fewer, rest_ended}
use Rattle.parse_step.proofs.Answers.{err-came}
use mathlib.Core.Path.{refl}
use Rattle.parse_states.proofs.bodies.rest.Goals as goal

pub loop-n-init : goal.loop-n-init
loop-n-init c =
    λ sc st. none_yet st

pub returns-then-kind_of-ne-COMMA : goal.returns-then-kind_of-ne-COMMA
returns-then-kind_of-ne-COMMA c =
    λ sc st t. rest_ended (c.loop-n.invariant sc st) (λ e. c.if-kind_of-ne-COMMA.true (c.kind_of.ensures ∙ e)) c.expect.ensures t

pub returns-in_err-comma : goal.returns-in_err-comma
returns-in_err-comma c =
    rw (err-came c.from_residual.ensures.1) (λ sc st t. comma-not (c.loop-n.invariant sc st) (sym c.kind_of.ensures ∙ c.if-kind_of-ne-COMMA.false) c.in_err-comma.ensures refl t)

pub returns-in_err-another : goal.returns-in_err-another
returns-in_err-another c =
    rw (err-came c.from_residual-in_err-another.ensures.1) (λ sc st t. another-not (c.loop-n.invariant sc st) (sym c.kind_of.ensures ∙ c.if-kind_of-ne-COMMA.false) c.in_ok-comma.ensures refl c.in_err-another.ensures refl t)

pub loop-n-smaller : goal.loop-n-smaller
loop-n-smaller c =
    one_fewer (c.loop-n.invariant c.requires.scope c.requires.standing) (sym c.kind_of.ensures ∙ c.if-kind_of-ne-COMMA.false) c.in_ok-comma.ensures refl c.in_ok-another.ensures refl

pub loop-n-preserved : goal.loop-n-preserved
loop-n-preserved c =
    λ sc st. another (c.loop-n.invariant sc st) (sym c.kind_of.ensures ∙ c.if-kind_of-ne-COMMA.false) c.in_ok-comma.ensures refl c.in_ok-another.ensures refl
