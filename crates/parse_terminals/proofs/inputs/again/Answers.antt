use mathlib.Core.Path.{sym, ◌∙◌}
use Rattle.parse_terminals.proofs.InputLaws.{different, repeated, unnamed}
use Rattle.parse_terminals.proofs.inputs.again.Goals as goal
use Rattle.parse_terminals.proofs.inputs.again.Goals.{then-kind_of-ne-NAME-via-then-kind_of-ne-NAME, then-kind_of-ne-NAME-via-else-kind_of-ne-NAME+then-not-alike}

pub returns-then-kind_of-ne-NAME : goal.returns-then-kind_of-ne-NAME
returns-then-kind_of-ne-NAME c =
    elim c.then-kind_of-ne-NAME.branch [
      | then-kind_of-ne-NAME-via-then-kind_of-ne-NAME w ↦ unnamed c.args.name (λ e. w.if-kind_of-ne-NAME.true (c.kind_of.ensures ∙ e)) c.refuse.ensures
      | then-kind_of-ne-NAME-via-else-kind_of-ne-NAME+then-not-alike w ↦
          different c.args.name (sym c.kind_of.ensures ∙ w.if-kind_of-ne-NAME.false) (sym w.alike.ensures ∙ w.if-not-alike.true) c.refuse.ensures
    ]

pub returns : goal.returns
returns c =
    repeated c.args.name (sym c.kind_of.ensures ∙ c.if-kind_of-ne-NAME.false) (sym c.alike.ensures ∙ c.if-not-alike.false) c.take.ensures
