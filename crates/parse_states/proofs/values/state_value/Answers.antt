use mathlib.Core.Path.{sym, ◌∙◌}
use Rattle.value_operators.specs.Meaning.{valued}
use Rattle.parse_states.proofs.ValueLaws.{length_taken, no_length, not-bare, too_large}
use Rattle.parse_states.proofs.values.state_value.Goals as goal
use Rattle.parse_states.proofs.values.state_value.Goals.{else-bare-via-then-bare+then-allowed+else-same, else-bare-via-then-bare+else-allowed, else-bare-via-else-bare}

pub returns-then-same : goal.returns-then-same
returns-then-same c =
    length_taken c.args.l (valued c.args.v) c.if-bare.true (sym c.allowed.ensures ∙ c.if-allowed.true) c.low.ensures (sym c.same.ensures ∙ c.if-same.true)

pub returns : goal.returns
returns c =
    elim c.else-bare.branch [
      | else-bare-via-then-bare+then-allowed+else-same w ↦ too_large c.args.l (valued c.args.v) w.if-bare.true (sym w.allowed.ensures ∙ w.if-allowed.true) w.low.ensures (sym w.same.ensures ∙ w.if-same.false)
      | else-bare-via-then-bare+else-allowed w ↦ no_length c.args.l (valued c.args.v) c.args.bare (sym w.allowed.ensures ∙ w.if-allowed.false)
      | else-bare-via-else-bare w ↦ not-bare c.args.l (valued c.args.v) w.if-bare.false
    ]
