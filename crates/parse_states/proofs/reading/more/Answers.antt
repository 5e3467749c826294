use mathlib.Core.Logic.{inl, inr}
use mathlib.Core.Path.{sym, ◌∙◌}
use Rattle.parse_states.proofs.StateLaws.{all_read, another, another-not, none_yet, one_fewer}
use Rattle.parse_step.proofs.Answers.{err-came}
use mathlib.Core.Path.{refl}
use Rattle.parse_states.proofs.reading.more.Goals as goal
use Rattle.parse_states.proofs.reading.more.Goals.{then-k-eq-PERIOD-via-then-k-eq-PERIOD, then-k-eq-PERIOD-via-else-k-eq-PERIOD+then-k-eq-END}

pub loop-n-init : goal.loop-n-init
loop-n-init c =
    λ sc st. none_yet st

pub returns-then-k-eq-PERIOD : goal.returns-then-k-eq-PERIOD
returns-then-k-eq-PERIOD c =
    λ sc st. all_read (c.loop-n.invariant sc st) (c.ended.ensures (elim c.then-k-eq-PERIOD.branch [ then-k-eq-PERIOD-via-then-k-eq-PERIOD w ↦ inl (sym c.kind_of-k.ensures ∙ w.if-k-eq-PERIOD.true) | then-k-eq-PERIOD-via-else-k-eq-PERIOD+then-k-eq-END w ↦ inr (sym c.kind_of-k.ensures ∙ w.if-k-eq-END.true) ]))

pub one-requires : goal.one-requires
one-requires c =
    record { scope = c.requires.scope; standing = (c.loop-n.invariant c.requires.scope c.requires.standing).standing }

pub returns-in_err-another : goal.returns-in_err-another
returns-in_err-another c =
    rw (err-came c.from_residual.ensures.1) (λ sc st. another-not (c.loop-n.invariant sc st) (λ e. c.if-k-eq-PERIOD.false (c.kind_of-k.ensures ∙ e)) (λ e. c.if-k-eq-END.false (c.kind_of-k.ensures ∙ e)) c.in_err-another.ensures refl)

pub loop-n-smaller : goal.loop-n-smaller
loop-n-smaller c =
    one_fewer (c.loop-n.invariant c.requires.scope c.requires.standing) (λ e. c.if-k-eq-PERIOD.false (c.kind_of-k.ensures ∙ e)) (λ e. c.if-k-eq-END.false (c.kind_of-k.ensures ∙ e)) c.in_ok-another.ensures refl

pub loop-n-preserved : goal.loop-n-preserved
loop-n-preserved c =
    λ sc st. another (c.loop-n.invariant sc st) (λ e. c.if-k-eq-PERIOD.false (c.kind_of-k.ensures ∙ e)) (λ e. c.if-k-eq-END.false (c.kind_of-k.ensures ∙ e)) c.in_ok-another.ensures refl
