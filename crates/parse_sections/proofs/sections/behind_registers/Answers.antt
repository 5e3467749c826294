use mathlib.Core.Path.{sym, ◌∙◌}
use Rattle.parse_sections.proofs.SectionLaws.{with-memories, without-memories}
use Rattle.parse_sections.proofs.sections.behind_registers.Goals as goal

pub memories-requires : goal.memories-requires
memories-requires c =
    record { word = sym c.kind_of.ensures ∙ c.if-kind_of-eq-MEMORY.true; somewhere = c.requires }

pub returns-then-kind_of-eq-MEMORY : goal.returns-then-kind_of-eq-MEMORY
returns-then-kind_of-eq-MEMORY c =
    with-memories c.memories.ensures

pub behind_memories-requires : goal.behind_memories-requires
behind_memories-requires c =
    c.requires

pub returns : goal.returns
returns c =
    without-memories (λ e. c.if-kind_of-eq-MEMORY.false (c.kind_of.ensures ∙ e)) c.behind_memories.ensures
