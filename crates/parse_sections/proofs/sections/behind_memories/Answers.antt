use mathlib.Core.Path.{sym, ◌∙◌}
use Rattle.parse_sections.proofs.SectionLaws.{with-terminals, without-terminals}
use Rattle.parse_sections.proofs.sections.behind_memories.Goals as goal

pub terminals-requires : goal.terminals-requires
terminals-requires c =
    record { word = sym c.kind_of.ensures ∙ c.if-kind_of-eq-TERMINAL.true; somewhere = c.requires }

pub returns-then-kind_of-eq-TERMINAL : goal.returns-then-kind_of-eq-TERMINAL
returns-then-kind_of-eq-TERMINAL c =
    with-terminals c.terminals.ensures

pub behind_terminals-requires : goal.behind_terminals-requires
behind_terminals-requires c =
    c.requires

pub returns : goal.returns
returns c =
    without-terminals (λ e. c.if-kind_of-eq-TERMINAL.false (c.kind_of.ensures ∙ e)) c.behind_terminals.ensures
